use Rattle.std.proofs.Common.{arith}
use Rattle.js_names.specs.Patterns.{nodes_of}
use Rattle.js_machine.proofs.Doing.{allowing_ok}
use Rattle.js_calls.proofs.binding.parameter_bound.Goals as goal

pub returns-clause-does : goal.returns-clause-does
returns-clause-does c u = allowing_ok (nodes_of c.args.tree.now) 2 6 _ c.args.state.now c.parameters.new.state c.parameters.result (omega arith) c.parameters.ensures.does
