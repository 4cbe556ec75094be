use Rattle.std.proofs.Common.{◌≡◌, Some, None, subst, nat_eq, IfSome}
use Rattle.world_heap.specs.Maps.{find}
use Rattle.world_heap.specs.Shelf.{values_of}
use Rattle.world_heap.specs.Heaps.{Fits, IsWell}
use Rattle.world_heap.specs.Views.{HeapView}
use Rattle.world_heap.proofs.Pooling.{pooled_well}
use Rattle.world_heap.proofs.Wells.{fits_found, some_of}
use Rattle.world_heap.proofs.heap.Heap.get.Goals as goal

pub returns-clause-fits : goal.returns-clause-fits
returns-clause-fits c =
    let h = c.self.inside in
    let cells = values_of h.store h.owner in
    let well : IsWell nat_eq cells = pooled_well h.store h.owner c.self.invariant.0.wells c.self.invariant.1.stands in
    subst (λ (v : HeapView). IfSome c.get.result (λ cell. Fits nat_eq v.cells cell.now)) c.self.view_is
    (some_of c.get.result (find nat_eq cells c.number.result ≡ None) (λ cell. find nat_eq cells c.number.result ≡ Some cell.now) (λ cell. Fits nat_eq cells cell.now)
    (λ cell found. fits_found (Fits nat_eq cells) cells c.number.result cell.now well.fits found) c.get.ensures)

pub returns-clause-well : goal.returns-clause-well
returns-clause-well c =
    let h = c.self.inside in
    subst (λ (v : HeapView). IsWell nat_eq v.cells) c.self.view_is (pooled_well h.store h.owner c.self.invariant.0.wells c.self.invariant.1.stands)
