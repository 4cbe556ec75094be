use Rattle.std.proofs.Common.{ℕ, arith}
use Rattle.std.proofs.lemmas.Result.{err_from_is_err_and}
use Rattle.world_heap.specs.declared.value.Value.{Value}
use Rattle.js_names.specs.Patterns.{nodes_of}
use Rattle.js_semantics.specs.Prog.{Prog}
use Rattle.js_machine.specs.declared.frame.CallFrame.TheVariants.{Callee}
use Rattle.js_machine.specs.Frames.{call_rest}
use Rattle.js_machine.proofs.Closing.{lasts_on, scope_grown}
use Rattle.js_primary.proofs.Evaluating.{nothing_ok, taken_ended, taken_ok}
use Rattle.js_step_call.proofs.rows.plain_callee.Goals as goal

pub returns-in-Value-clause-does : goal.returns-in-Value-clause-does
returns-in-Value-clause-does c =
    let nodes = nodes_of c.args.tree.now in
    let k : Value ℕ → Prog ℕ = λ f. call_rest nodes (Callee c.args.node c.args.scope) f in
    taken_ok nodes 6 c.args.callee c.args.scope k _ _ _ _ c.in-Value.value _ c.in_ok-value.ensures.does c.in-Value.is c.all_arguments.ensures.many

pub returns-in-Ended-clause-does : goal.returns-in-Ended-clause-does
returns-in-Ended-clause-does c =
    let nodes = nodes_of c.args.tree.now in
    let k : Value ℕ → Prog ℕ = λ f. call_rest nodes (Callee c.args.node c.args.scope) f in
    taken_ended nodes 6 c.args.callee c.args.scope k _ _ _ _ (omega arith) c.in_ok-value.ensures.does c.in-Ended.is

pub returns-in_ok-inner-in-Nothing-clause-does : goal.returns-in_ok-inner-in-Nothing-clause-does
returns-in_ok-inner-in-Nothing-clause-does c =
    let nodes = nodes_of c.args.tree.now in
    nothing_ok nodes 6 _ c.args.callee c.args.scope _ _ _ _ _ c.in_ok-value.ensures.does c.in-Nothing.is (rw c.in_ok-inner-in-Nothing.ensures at (c.enter_callee.ensures.does nodes))

pub returns-in_err-value-clause-closed : goal.returns-in_err-value-clause-closed
returns-in_err-value-clause-closed c closed scope =
    let p = err_from_is_err_and c.from_residual.result c.from_residual.ensures.1 in rw (p.1, p.2) (c.in_err-value.ensures.closed closed scope)

pub returns-in-Value-clause-closed : goal.returns-in-Value-clause-closed
returns-in-Value-clause-closed c closed scope =
    let nodes = nodes_of c.args.tree.now in
    let old = c.args.state.now in
    let mid = c.take_value.new.state in
    let went = c.in_ok-value.ensures.closed closed scope in
    lasts_on nodes old mid c.all_arguments.new.state c.all_arguments.result went.0
    (c.all_arguments.ensures.closed went.0.closed (rw c.in-Value.is at went.1, tt) (scope_grown nodes old.heap.cells mid.heap.cells went.0.grows c.args.scope scope))

pub returns-in-Ended-clause-closed : goal.returns-in-Ended-clause-closed
returns-in-Ended-clause-closed c closed scope = (c.in_ok-value.ensures.closed closed scope).0

pub returns-in_err-inner-in-Nothing-clause-closed : goal.returns-in_err-inner-in-Nothing-clause-closed
returns-in_err-inner-in-Nothing-clause-closed c closed scope =
    let p = err_from_is_err_and c.from_residual-in_err-inner-in-Nothing.result c.from_residual-in_err-inner-in-Nothing.ensures.1 in rw (p.1, p.2) (c.in_err-inner-in-Nothing.ensures)

pub returns-in_ok-inner-in-Nothing-clause-closed : goal.returns-in_ok-inner-in-Nothing-clause-closed
returns-in_ok-inner-in-Nothing-clause-closed c closed scope =
    let nodes = nodes_of c.args.tree.now in
    let old = c.args.state.now in
    let mid = c.take_value.new.state in
    let went = c.in_ok-value.ensures.closed closed scope in
    let around = scope_grown nodes old.heap.cells mid.heap.cells went.0.grows c.args.scope scope in
    lasts_on nodes old mid c.enter_callee.new.state c.enter_callee.result went.0
    (c.enter_callee.ensures.closed nodes went.0.closed around (rw c.in_ok-inner-in-Nothing.ensures around))
