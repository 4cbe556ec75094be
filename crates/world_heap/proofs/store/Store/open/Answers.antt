use Rattle.std.proofs.Common.{◌≡◌, [], ◌∷◌, ◌++◌, false, nat_eq, sym, ap, ◌∙◌, subst, refl}
use Rattle.world_heap.specs.declared.store.Region.{Region}
use Rattle.world_heap.specs.Maps.{keys, stands}
use Rattle.world_heap.specs.Stored.{IsHeld, owners, maps}
use Rattle.world_heap.proofs.Regions.{keys-maps, maps-push, all_own-push, distinct-push}
use Rattle.world_heap.proofs.Marking.{marked_push}
use Rattle.world_heap.proofs.store.Store.open.Goals as goal

pub invariant_of-self-2 : goal.invariant_of-self-2
invariant_of-self-2 g c =
    let slots = c.self.inside.chunks in
    let regions = c.self.inside.regions.items in
    let region : Region = record { owner = c.args.owner; own = [] } in
    let new : c.push.new.self.items ≡ regions ++ region ∷ [] = rw c.new.ensures at c.in_ok-push.ensures.items in
    let absent : stands nat_eq (owners regions) c.args.owner ≡ false = subst (λ ks. stands nat_eq ks c.args.owner ≡ false) (ap keys (sym c.self.view_is) ∙ keys-maps slots regions) c.requires in
    rw new (
      record {
        held = subst (IsHeld slots) (sym (all_own-push regions region refl)) c.self.invariant.0.held;
        distinct = distinct-push regions region c.self.invariant.0.distinct absent;
      },
      record {
        long = c.self.invariant.1.long;
        marked = marked_push c.self.inside.marks.items regions region refl c.self.invariant.1.marked;
        bare = c.self.invariant.1.bare;
      },
    )

pub returns-clause-ok : goal.returns-clause-ok
returns-clause-ok g c =
    let slots = c.self.inside.chunks in
    let regions = c.self.inside.regions.items in
    let region : Region = record { owner = c.args.owner; own = [] } in
    let new : c.push.new.self.items ≡ regions ++ region ∷ [] = rw c.new.ensures at c.in_ok-push.ensures.items in
    ap (maps slots) new ∙ maps-push slots regions region ∙ ap (λ ms. ms ++ (c.args.owner, []) ∷ []) c.self.view_is
