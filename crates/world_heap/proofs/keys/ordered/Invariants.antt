use Rattle.std.proofs.Common.{◌≡◌, take, map, decimal}
use Rattle.world_heap.proofs.keys.ordered.Given as goal

abbrev pub invariant-indices : goal.invariant-indices
invariant-indices l = l.names.items ≡ map decimal (take l.index-index l.index-items)
