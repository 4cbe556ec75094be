use Rattle.std.proofs.Common.{nat_eq}
use Rattle.world_heap.specs.Heaps.{IsNoEnv}
use Rattle.world_heap.specs.Over.{ValueOver}
use Rattle.js_machine.proofs.Testing.{over_take, over_all}
use Rattle.js_machine.proofs.fitting.are_fit.Goals as goal

pub values-preserved : goal.values-preserved
values-preserved c =
    over_take (ValueOver (IsNoEnv nat_eq c.args.heap.now.cells)) c.args.values.now c.values.value-index c.value-item.result c.values.invariant c.values-test.true c.value-item.is (c.is_fit.ensures.fits c.if-not-is_fit.false)

pub returns-clause-fits : goal.returns-clause-fits
returns-clause-fits c = λ yes. over_all (ValueOver (IsNoEnv nat_eq c.args.heap.now.cells)) c.args.values.now c.values.value-index c.values-test.false c.values.invariant
