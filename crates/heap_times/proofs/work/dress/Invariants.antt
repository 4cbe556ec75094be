use Rattle.std.proofs.Common.{nat_eq}
use Rattle.world_heap.specs.Heaps.{IsCell}
use Rattle.heap_times.proofs.work.dress.Given as goal

abbrev pub invariant-keys : goal.invariant-keys
invariant-keys l = IsCell nat_eq l.heap.cells l.loc
