use Rattle.std.proofs.Common.{◌≡◌, Some, sym, subst, nat_eq}
use Rattle.world_heap.specs.Maps.{find}
use Rattle.world_heap.specs.Shelf.{values_of, IsAmong}
use Rattle.world_heap.specs.Heaps.{IsCell, Fits, IsWell}
use Rattle.world_heap.specs.Views.{HeapView}
use Rattle.world_heap.proofs.Pooling.{pooled_well}
use Rattle.world_heap.proofs.Wells.{fits_found}
use Rattle.world_heap.proofs.heap.Heap.cell.Goals as goal

pub returns-clause-fits : goal.returns-clause-fits
returns-clause-fits c =
    let h = c.self.inside in
    let among : IsAmong h.store h.owner c.args.loc = subst (λ (v : HeapView). IsCell nat_eq v.cells c.args.loc) (sym c.self.view_is) c.requires in
    let found : find nat_eq (values_of h.store h.owner) c.number.result ≡ Some c.value.result.now = c.value.ensures h.owner (subst (λ n. IsAmong h.store h.owner n) (sym c.number.ensures) among) in
    let well : IsWell nat_eq (values_of h.store h.owner) = pooled_well h.store h.owner c.self.invariant.0.wells c.self.invariant.1.stands in
    subst (λ (v : HeapView). Fits nat_eq v.cells c.value.result.now) c.self.view_is (fits_found (Fits nat_eq (values_of h.store h.owner)) (values_of h.store h.owner) c.number.result c.value.result.now well.fits found)

pub returns-clause-well : goal.returns-clause-well
returns-clause-well c =
    let h = c.self.inside in
    subst (λ (v : HeapView). IsWell nat_eq v.cells) c.self.view_is (pooled_well h.store h.owner c.self.invariant.0.wells c.self.invariant.1.stands)
