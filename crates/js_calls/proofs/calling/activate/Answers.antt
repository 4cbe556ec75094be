use Rattle.std.proofs.Common.{refl}
use Rattle.js_names.specs.Patterns.{nodes_of}
use Rattle.js_semantics.specs.Prog.{on_value}
use Rattle.js_calls.specs.Calling.{ending}
use Rattle.js_calls.proofs.Called.{active_ok}
use Rattle.js_calls.proofs.calling.activate.Goals as goal

pub returns-clause-does : goal.returns-clause-does
returns-clause-does c n le found =
    active_ok (nodes_of c.args.tree.now) n c.args.invocation.node.0 c.args.invocation.env c.args.invocation.receiver c.args.invocation.arguments (on_value (ending (nodes_of c.args.tree.now) c.args.frame)) c.args.function.now c.args.state.now _ c.run_function.new.state c.run_function.result found c.requires refl (c.run_function.ensures.does n le found)
