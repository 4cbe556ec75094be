use Rattle.std.proofs.Common.{nat_eq}
use Rattle.world_heap.specs.Heaps.{IsNoEnv, IsCell}
use Rattle.heap_times.proofs.work.chained.Given as goal

abbrev pub invariant-objects : goal.invariant-objects
invariant-objects l = record {
  stands : IsCell nat_eq l.heap.cells l.last;
  object : IsNoEnv nat_eq l.heap.cells l.last;
}
