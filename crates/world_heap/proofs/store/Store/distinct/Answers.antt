use Rattle.std.proofs.Common.{subst}
use Rattle.world_heap.specs.Maps.{keys}
use Rattle.world_heap.specs.Shelf.{values_of}
use Rattle.world_heap.specs.Stored.{IsDistinct}
use Rattle.world_heap.proofs.Regions.{stored_distinct}
use Rattle.world_heap.proofs.store.Store.distinct.Goals as goal

pub returns : goal.returns
returns g c owner =
    subst (λ ms. IsDistinct (keys (values_of ms owner))) c.self.view_is (stored_distinct c.self.inside.chunks c.self.inside.regions.items owner c.self.invariant.0)
