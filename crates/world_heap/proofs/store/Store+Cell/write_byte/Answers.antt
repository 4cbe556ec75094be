use Rattle.std.proofs.Common.{◌≡◌, Some, sym, ap, ◌∙◌, subst, nat_eq, set}
use Rattle.world_heap.specs.Maps.{find, put}
use Rattle.world_heap.specs.Shelf.{values_of, IsAmong}
use Rattle.world_heap.specs.Stored.{maps}
use Rattle.world_heap.specs.Bodies.{with_byte}
use Rattle.world_heap.proofs.Wells.{found_stands}
use Rattle.world_heap.proofs.Storing.{among_filled, among_find, stored_write, write_is}
use Rattle.world_heap.proofs.Marking.{written_marked}
use Rattle.world_heap.proofs.store.Store+Cell.write_byte.Goals as goal

pub get_mut-requires : goal.get_mut-requires
get_mut-requires c =
    among_filled c.self.inside.chunks c.self.inside.regions.items c.self.invariant.0 c.requires.0 c.args.loc (subst (λ ms. IsAmong ms c.requires.0 c.args.loc) (sym c.self.view_is) c.requires.1)

pub invariant_of-self : goal.invariant_of-self
invariant_of-self c = (
  stored_write c.self.inside.chunks c.self.inside.regions.items c.self.invariant.0 c.args.loc c.write.new.cell c.get_mut.result.now c.get_mut.ensures.value,
  written_marked c.self.inside.chunks c.self.inside.marks.items c.self.inside.regions.items c.args.loc c.write.new.cell c.get_mut.result.now c.get_mut.ensures.value c.self.invariant.1,
)

pub returns : goal.returns
returns c = λ owner cell is.
    let slots = c.self.inside.chunks in
    let regions = c.self.inside.regions.items in
    let found : find nat_eq (values_of (maps slots regions) owner) c.args.loc ≡ Some cell = subst (λ ms. find nat_eq (values_of ms owner) c.args.loc ≡ Some cell) (sym c.self.view_is) is in
    let among : IsAmong (maps slots regions) owner c.args.loc = found_stands (values_of (maps slots regions) owner) c.args.loc cell found in
    let here : find nat_eq (values_of (maps slots regions) owner) c.args.loc ≡ Some c.get_mut.result.now = among_find slots regions c.self.invariant.0 owner c.args.loc c.get_mut.result.now among c.get_mut.ensures.value in
    let same : c.get_mut.result.now ≡ cell = cc in
    ap (λ v. maps (set slots c.args.loc (Some v)) regions) (c.write.ensures ∙ ap (λ d. with_byte d c.args.at c.args.byte) same)
    ∙ write_is slots regions c.self.invariant.0 owner c.args.loc (with_byte cell c.args.at c.args.byte) c.get_mut.result.now among c.get_mut.ensures.value
    ∙ ap (λ ms. put nat_eq ms owner (put nat_eq (values_of ms owner) c.args.loc (with_byte cell c.args.at c.args.byte))) c.self.view_is
