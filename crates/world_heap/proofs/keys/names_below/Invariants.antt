use Rattle.std.proofs.Common.{◌≡◌}
use Rattle.world_heap.specs.Keys.{index_names}
use Rattle.world_heap.proofs.keys.names_below.Given as goal

abbrev pub invariant-indices : goal.invariant-indices
invariant-indices l = l.names.items ≡ index_names l.index
