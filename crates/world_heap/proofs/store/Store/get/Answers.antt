use Rattle.std.proofs.Common.{true, ◌≡◌, Some, None, nat_eq, subst, get_or, ◌∙◌, sym, ap}
use Rattle.world_heap.specs.Maps.{find}
use Rattle.world_heap.specs.Shelf.{values_of}
use Rattle.world_heap.proofs.Storing.{among_filled, among_find}
use Rattle.world_heap.proofs.Marking.{marked_among, unmarked_absent}
use Rattle.world_heap.proofs.store.Store.get.Goals as goal

pub get-requires : goal.get-requires
get-requires g c =
    let mark = ap (λ ms. get_or ms c.args.loc None) (sym c.as_slice.ensures.value) ∙ c.is_marked.ensures.0 c.if-is_marked.true in
    let among = marked_among c.self.inside.chunks c.self.inside.marks.items c.self.inside.regions.items c.self.invariant.0 c.self.invariant.1 c.args.owner c.args.loc mark in
    among_filled c.self.inside.chunks c.self.inside.regions.items c.self.invariant.0 c.args.owner c.args.loc among

pub returns-then-is_marked : goal.returns-then-is_marked
returns-then-is_marked g c =
    let mark = ap (λ ms. get_or ms c.args.loc None) (sym c.as_slice.ensures.value) ∙ c.is_marked.ensures.0 c.if-is_marked.true in
    let among = marked_among c.self.inside.chunks c.self.inside.marks.items c.self.inside.regions.items c.self.invariant.0 c.self.invariant.1 c.args.owner c.args.loc mark in
    subst (λ ms. find nat_eq (values_of ms c.args.owner) c.args.loc ≡ Some c.get.result.now) c.self.view_is
    (among_find c.self.inside.chunks c.self.inside.regions.items c.self.invariant.0 c.args.owner c.args.loc c.get.result.now among c.get.ensures)

pub returns : goal.returns
returns g c =
    subst (λ ms. find nat_eq (values_of ms c.args.owner) c.args.loc ≡ None) c.self.view_is
    (unmarked_absent c.self.inside.chunks c.self.inside.marks.items c.self.inside.regions.items c.self.invariant.0 c.self.invariant.1 c.args.owner c.args.loc
    (λ m. let marked : c.is_marked.result ≡ true = c.is_marked.ensures.1 (ap (λ ms. get_or ms c.args.loc None) c.as_slice.ensures.value ∙ m) in cc (c.if-is_marked.false)))
