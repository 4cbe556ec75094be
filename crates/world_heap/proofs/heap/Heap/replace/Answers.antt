use Rattle.std.proofs.Common.{◌≡◌, ◌∙◌, sym, subst, ap, nat_eq, List, ℕ}
use Rattle.world_heap.specs.declared.cell.Cell.{Cell}
use Rattle.world_heap.specs.Maps.{put, without}
use Rattle.world_heap.specs.Shelf.{values_of, IsAmong}
use Rattle.world_heap.specs.Heaps.{IsCell, IsWell}
use Rattle.world_heap.specs.Views.{HeapView, IsPooled, IsOwned}
use Rattle.world_heap.proofs.Pooling.{pooled_well, pooled_put, owned_put, values-put, without-put, length-put}
use Rattle.world_heap.proofs.heap.Heap.replace.Goals as goal

-- the store after the write
written : (c : goal.After-replace) → c.replace.new.self ≡ put nat_eq c.self.inside.store c.self.inside.owner (put nat_eq (values_of c.self.inside.store c.self.inside.owner) c.args.loc c.args.cell)
written c =
    let h = c.self.inside in
    let among : IsAmong h.store h.owner c.args.loc = subst (λ (v : HeapView). IsCell nat_eq v.cells c.args.loc) (sym c.self.view_is) c.requires.stands in
    c.replace.ensures.is h.owner (subst (λ n. IsAmong h.store h.owner n) (sym c.number.ensures) among)
    ∙ ap (λ n. put nat_eq h.store h.owner (put nat_eq (values_of h.store h.owner) n c.args.cell)) c.number.ensures

pub invariant_of-self : goal.invariant_of-self
invariant_of-self c =
    let h = c.self.inside in
    let cells : List (ℕ × Cell ℕ) = put nat_eq (values_of h.store h.owner) c.args.loc c.args.cell in
    let keeps = subst (λ (v : HeapView). IsWell nat_eq v.cells → IsWell nat_eq (put nat_eq v.cells c.args.loc c.args.cell)) (sym c.self.view_is) c.requires.keeps in
    let well : IsWell nat_eq cells = keeps (pooled_well h.store h.owner c.self.invariant.0.wells c.self.invariant.1.stands) in
    let counted = length-put (values_of h.store h.owner) c.args.loc c.args.cell ∙ c.self.invariant.1.counted in (
      subst (λ ms. IsPooled ms h.given) (sym (written c)) (pooled_put h.store h.given h.owner cells c.self.invariant.0 well),
      subst (λ ms. IsOwned ms h.owner h.counts h.base) (sym (written c)) (owned_put h.store h.owner cells h.counts h.base c.self.invariant.1.stands counted),
      c.self.invariant.2,
    )

pub returns-clause-is : goal.returns-clause-is
returns-clause-is c =
    let h = c.self.inside in
    let cells : List (ℕ × Cell ℕ) = put nat_eq (values_of h.store h.owner) c.args.loc c.args.cell in
    let own : values_of c.replace.new.self h.owner ≡ cells = ap (λ ms. values_of ms h.owner) (written c) ∙ values-put h.store h.owner cells c.self.invariant.1.stands in
    let others : without nat_eq c.replace.new.self h.owner ≡ without nat_eq h.store h.owner = ap (λ ms. without nat_eq ms h.owner) (written c) ∙ without-put h.store h.owner cells in
    subst (λ (v : HeapView). record { owner = h.owner; cells = values_of c.replace.new.self h.owner; others = without nat_eq c.replace.new.self h.owner; counts = h.counts; limits = Rattle.world_heap.specs.Bounded.bounds_of h.limits; base = h.base; given = h.given } ≡ record v { cells = put nat_eq v.cells c.args.loc c.args.cell }) c.self.view_is
    (λ i. record { owner = h.owner; cells = own i; others = others i; counts = h.counts; limits = Rattle.world_heap.specs.Bounded.bounds_of h.limits; base = h.base; given = h.given })
