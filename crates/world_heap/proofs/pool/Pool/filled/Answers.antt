use Rattle.std.proofs.Common.{◌∙◌, ap, sum_by, length}
use Rattle.world_heap.specs.Views.{PoolView}
use Rattle.world_heap.proofs.pool.Pool.filled.Goals as goal

pub returns : goal.returns
returns c = c.filled.ensures ∙ ap (λ (v : PoolView). sum_by (λ m. length m.1) v.maps) c.self.view_is
