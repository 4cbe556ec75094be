use Rattle.std.proofs.Common.{◌≡◌, ap, arith}
use Rattle.js_names.specs.Patterns.{nodes_of}
use Rattle.js_semantics.specs.Prog.{on_value}
use Rattle.js_calls.specs.Calling.{ending}
use Rattle.js_calls.proofs.Called.{allows, no_function_ok, too_deep_ok}
use Rattle.js_calls.proofs.calling.invoke.Goals as goal

pub returns-else-state-from-clause-does : goal.returns-else-state-from-clause-does
returns-else-state-from-clause-does c n le =
    let limit : c.limits.result.depth ≡ c.args.state.now.heap.limits.depth = ap (λ b. b.depth) c.limits.ensures in
    too_deep_ok (nodes_of c.args.tree.now) n c.args.invocation.node.0 c.args.invocation.env c.args.invocation.receiver c.args.invocation.arguments (on_value (ending (nodes_of c.args.tree.now) c.args.frame)) c.in-Some.function.now c.args.state.now c.throw.new.self c.throw.result (allows c.args.frame n le) c.in-Some.ensures (omega arith) (c.throw.ensures.few (nodes_of c.args.tree.now))

pub returns-in-None-clause-does : goal.returns-in-None-clause-does
returns-in-None-clause-does c n le =
    no_function_ok (nodes_of c.args.tree.now) n c.args.invocation.node.0 c.args.invocation.env c.args.invocation.receiver c.args.invocation.arguments (on_value (ending (nodes_of c.args.tree.now) c.args.frame)) c.args.state.now c.throw-in-None.new.self c.throw-in-None.result (allows c.args.frame n le) c.in-None.ensures (c.throw-in-None.ensures.few (nodes_of c.args.tree.now))

pub returns-else-state-from-clause-closed : goal.returns-else-state-from-clause-closed
returns-else-state-from-clause-closed c closed invocation frame = c.throw.ensures.closed (nodes_of c.args.tree.now) closed

pub returns-in-None-clause-closed : goal.returns-in-None-clause-closed
returns-in-None-clause-closed c closed invocation frame = c.throw-in-None.ensures.closed (nodes_of c.args.tree.now) closed
