use Rattle.std.proofs.Common.{take, nat_eq}
use Rattle.world_heap.specs.Heaps.{IsNoEnv}
use Rattle.world_heap.specs.Over.{ListOver, OptionOver, ValueOver}
use Rattle.js_machine.proofs.fitting.are_fit_bindings.Given as goal

abbrev pub invariant-bindings : goal.invariant-bindings
invariant-bindings l = ListOver (λ b. OptionOver (ValueOver (IsNoEnv nat_eq l.heap.cells)) b.value) (take l.binding-index l.bindings)
