use Rattle.std.proofs.Common.{take, nat_eq}
use Rattle.world_heap.specs.Heaps.{IsNoEnv}
use Rattle.world_heap.specs.Over.{ListOver, OptionOver, ValueOver}
use Rattle.js_machine.proofs.fitting.are_fit.Given as goal

abbrev pub invariant-values : goal.invariant-values
invariant-values l = ListOver (ValueOver (IsNoEnv nat_eq l.heap.cells)) (take l.value-index l.values)
