use Rattle.js_names.specs.Patterns.{nodes_of}
use Rattle.js_calls.proofs.Called.{closure_ok, native_ok, other_ok}
use Rattle.js_calls.proofs.Fitting.{after_frame_fits}
use Rattle.js_calls.proofs.calling.call_as.Goals as goal

pub returns-in-Closure-clause-does : goal.returns-in-Closure-clause-does
returns-in-Closure-clause-does c n le =
    rw c.in-Closure.is (closure_ok (nodes_of c.args.tree.now) n c.in-Closure.node c.in-Closure.env c.in-Closure.kept c.args.receiver _ c.args.arguments c.args.frame c.args.state.now c.invoke.new.state c.invoke.result c.receiver_of.ensures (c.invoke.ensures.does n le))

pub returns-in-Native-clause-does : goal.returns-in-Native-clause-does
returns-in-Native-clause-does c n le =
    rw c.in-Native.is (native_ok (nodes_of c.args.tree.now) n c.in-Native.id c.args.receiver c.args.arguments c.args.frame _ c.args.state.now c.enter_native.new.self c.enter_native.result le c.after.ensures (c.enter_native.ensures.few (nodes_of c.args.tree.now)))

pub returns-in-Other-clause-does : goal.returns-in-Other-clause-does
returns-in-Other-clause-does c n le =
    rw c.in-Other.is (other_ok (nodes_of c.args.tree.now) n c.args.receiver c.args.arguments c.args.frame c.args.state.now c.throw.new.self c.throw.result le (c.throw.ensures.few (nodes_of c.args.tree.now)))

pub returns-in-Native-clause-closed : goal.returns-in-Native-clause-closed
returns-in-Native-clause-closed c closed callee receiver arguments frame =
    let nodes = nodes_of c.args.tree.now in
    c.enter_native.ensures.closed nodes closed (rw c.after.ensures (after_frame_fits nodes c.args.state.now.heap.cells c.args.frame frame)) receiver arguments

pub returns-in-Other-clause-closed : goal.returns-in-Other-clause-closed
returns-in-Other-clause-closed c closed callee receiver arguments frame = c.throw.ensures.closed (nodes_of c.args.tree.now) closed
