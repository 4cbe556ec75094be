use Rattle.std.proofs.lemmas.Result.{err_from_is_err_and}
use Rattle.std.proofs.Common.{arith, ℕ, Some, nat_eq}
use Rattle.js_names.specs.Patterns.{nodes_of}
use Rattle.js_semantics.specs.Prog.{on_value}
use Rattle.js_calls.specs.Calling.{ending}
use Rattle.js_calls.proofs.Called.{allows, function_ok, no_environment}
use Rattle.world_heap.specs.declared.cell.Cell.{Cell}
use Rattle.world_heap.specs.declared.cell.Cell.TheVariants.{Env}
use Rattle.world_heap.specs.Heaps.{Fits}
use Rattle.js_semantics.specs.Access.{patterns_of}
use Rattle.js_machine.proofs.Closing.{closed_made, closed_stopped, lasts_on, made_cell, value_grown, values_grown}
use Rattle.js_calls.proofs.Fitting.{after_frame_grown, unready_fits}
use Rattle.js_calls.proofs.calling.run_function.Goals as goal

pub returns-in-Ok-clause-does : goal.returns-in-Ok-clause-does
returns-in-Ok-clause-does c n le found =
    function_ok (nodes_of c.args.tree.now) n c.args.invocation.node c.args.invocation.env c.args.invocation.receiver c.args.invocation.arguments (on_value (ending (nodes_of c.args.tree.now) c.args.frame)) c.args.function.now c.in_ok-bindings.bindings c.args.state.now c.make_environment.new.self c.enter_body.new.state c.in-Ok.inner c.enter_body.result found c.in_ok-bindings.ensures (rw c.in-Ok.is at c.in_ok-inner.ensures) (c.enter_body.ensures.does n le)

pub returns-in-Err-clause-does : goal.returns-in-Err-clause-does
returns-in-Err-clause-does c n le found =
    let m = allows c.args.frame n le in
    rw c.stopped.ensures (no_environment (nodes_of c.args.tree.now) n c.args.invocation.env c.args.invocation.receiver c.args.invocation.arguments (on_value (ending (nodes_of c.args.tree.now) c.args.frame)) c.args.function.now c.in_ok-bindings.bindings c.args.state.now c.make_environment.new.self c.in-Err.stop (omega arith) c.in_ok-bindings.ensures (rw c.in-Err.is at c.in_ok-inner.ensures))

pub returns-in_err-inner-clause-closed : goal.returns-in_err-inner-clause-closed
returns-in_err-inner-clause-closed c closed invocation frame =
    let p = err_from_is_err_and c.from_residual-in_err-inner.result c.from_residual-in_err-inner.ensures.1 in
    rw (p.1, p.2) (c.in_err-inner.ensures (invocation.0, rw c.in_ok-bindings.ensures (unready_fits c.args.state.now.heap.cells (nodes_of c.args.tree.now) (patterns_of c.args.function.now))))

pub returns-in-Ok-clause-closed : goal.returns-in-Ok-clause-closed
returns-in-Ok-clause-closed c closed invocation frame =
    let nodes = nodes_of c.args.tree.now in
    let old = c.args.state.now in
    let mid = c.make_environment.new.self in
    let cell : Cell ℕ = Env (Some c.args.invocation.env) c.in_ok-bindings.bindings in
    let made = rw c.in-Ok.is at c.in_ok-inner.ensures in
    let fit : Fits nat_eq old.heap.cells cell = (invocation.0, rw c.in_ok-bindings.ensures (unready_fits old.heap.cells nodes (patterns_of c.args.function.now))) in
    let went = closed_made cell old mid c.in-Ok.inner made nodes closed fit in
    lasts_on nodes old mid c.enter_body.new.state c.enter_body.result went
    (c.enter_body.ensures.closed went.closed (values_grown nodes old.heap.cells mid.heap.cells went.grows c.args.invocation.arguments invocation.2)
    (made_cell cell old mid c.in-Ok.inner made, value_grown nodes old.heap.cells mid.heap.cells went.grows c.args.invocation.receiver invocation.1)
    (after_frame_grown nodes old.heap.cells mid.heap.cells went.grows c.args.frame frame))

pub returns-in-Err-clause-closed : goal.returns-in-Err-clause-closed
returns-in-Err-clause-closed c closed invocation frame =
    closed_stopped (nodes_of c.args.tree.now) (Env (Some c.args.invocation.env) c.in_ok-bindings.bindings) c.args.state.now c.make_environment.new.self c.in-Err.stop closed (rw c.in-Err.is at c.in_ok-inner.ensures)
