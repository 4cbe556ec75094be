use Rattle.std.proofs.Common.{arith}
use Rattle.js_names.specs.Patterns.{nodes_of}
use Rattle.js_machine.proofs.Doing.{allowing_ok}
use Rattle.js_calls.proofs.constructing.construct.Goals as goal

pub returns-clause-many : goal.returns-clause-many
returns-clause-many c = allowing_ok (nodes_of c.args.tree.now) 4 6 _ c.args.state.now c.construct_any.new.state c.construct_any.result (omega arith) c.construct_any.ensures.does
