use Rattle.std.proofs.Common.{◌≡◌, Some, sym, ap, ◌∙◌, subst, nat_eq, set}
use Rattle.world_heap.specs.Maps.{find, put}
use Rattle.world_heap.specs.Shelf.{values_of, IsAmong}
use Rattle.world_heap.specs.Stored.{maps}
use Rattle.world_heap.proofs.Storing.{among_filled, among_find, stored_write, write_is}
use Rattle.world_heap.proofs.Marking.{written_marked}
use Rattle.world_heap.proofs.store.Store.replace.Goals as goal

pub get_mut-requires : goal.get_mut-requires
get_mut-requires g c =
    among_filled c.self.inside.chunks c.self.inside.regions.items c.self.invariant.0 c.requires.0 c.args.loc (subst (λ ms. IsAmong ms c.requires.0 c.args.loc) (sym c.self.view_is) c.requires.1)

pub invariant_of-self : goal.invariant_of-self
invariant_of-self g c = (
  stored_write c.self.inside.chunks c.self.inside.regions.items c.self.invariant.0 c.args.loc c.replace.new.dest c.get_mut.result.now c.get_mut.ensures.value,
  written_marked c.self.inside.chunks c.self.inside.marks.items c.self.inside.regions.items c.args.loc c.replace.new.dest c.get_mut.result.now c.get_mut.ensures.value c.self.invariant.1,
)

pub returns-clause-was : goal.returns-clause-was
returns-clause-was g c = λ owner among.
    subst (λ ms. find nat_eq (values_of ms owner) c.args.loc ≡ Some c.replace.result) c.self.view_is
    (among_find c.self.inside.chunks c.self.inside.regions.items c.self.invariant.0 owner c.args.loc c.replace.result (subst (λ ms. IsAmong ms owner c.args.loc) (sym c.self.view_is) among) (c.get_mut.ensures.value ∙ ap (λ v. Some (Some v)) (sym c.replace.ensures.value)))

pub returns-clause-is : goal.returns-clause-is
returns-clause-is g c = λ owner among.
    let slots = c.self.inside.chunks in
    let regions = c.self.inside.regions.items in
    ap (λ v. maps (set slots c.args.loc (Some v)) regions) c.replace.ensures.after
    ∙ write_is slots regions c.self.invariant.0 owner c.args.loc c.args.value c.get_mut.result.now (subst (λ ms. IsAmong ms owner c.args.loc) (sym c.self.view_is) among) c.get_mut.ensures.value
    ∙ ap (λ ms. put nat_eq ms owner (put nat_eq (values_of ms owner) c.args.loc c.args.value)) c.self.view_is
