use Rattle.std.proofs.Common.{nat_eq}
use Rattle.world_heap.specs.Heaps.{IsNoEnv}
use Rattle.world_heap.specs.Over.{OptionOver, ValueOver}
use Rattle.js_machine.proofs.Testing.{over_take, over_all}
use Rattle.js_machine.proofs.fitting.are_fit_bindings.Goals as goal

pub bindings-preserved : goal.bindings-preserved
bindings-preserved c =
    over_take (λ b. OptionOver (ValueOver (IsNoEnv nat_eq c.args.heap.now.cells)) b.value) c.args.bindings.now c.bindings.binding-index c.binding-item.result c.bindings.invariant c.bindings-test.true c.binding-item.is (c.is_fit_option.ensures.fits c.if-not-is_fit_option.false)

pub returns-clause-fits : goal.returns-clause-fits
returns-clause-fits c = λ yes. over_all (λ b. OptionOver (ValueOver (IsNoEnv nat_eq c.args.heap.now.cells)) b.value) c.args.bindings.now c.bindings.binding-index c.bindings-test.false c.bindings.invariant
