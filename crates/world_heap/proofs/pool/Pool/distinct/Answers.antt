use Rattle.std.proofs.Common.{subst}
use Rattle.world_heap.specs.Maps.{keys}
use Rattle.world_heap.specs.Shelf.{values_of}
use Rattle.world_heap.specs.Stored.{IsDistinct}
use Rattle.world_heap.specs.Views.{PoolView}
use Rattle.world_heap.proofs.pool.Pool.distinct.Goals as goal

pub returns : goal.returns
returns c owner = subst (λ (v : PoolView). IsDistinct (keys (values_of v.maps owner))) c.self.view_is (c.distinct.ensures owner)
