use Rattle.js_names.specs.Patterns.{nodes_of}
use Rattle.js_calls.specs.Calling.{ending}
use Rattle.js_calls.proofs.Called.{call_ok}
use Rattle.js_calls.proofs.calling.call.Goals as goal

pub returns-clause-does : goal.returns-clause-does
returns-clause-does c n le =
    call_ok (nodes_of c.args.tree.now) n c.args.called.now c.args.receiver c.args.arguments (ending (nodes_of c.args.tree.now) c.args.frame) c.in_ok-callee.callee c.args.state.now c.call_as.new.state c.call_as.result (λ w. c.in_ok-callee.ensures.is w) (c.call_as.ensures.does n le)
