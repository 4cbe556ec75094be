use Rattle.std.proofs.Common.{arith}
use Rattle.std.proofs.lemmas.Result.{err_from_is_err_and}
use Rattle.js_names.specs.Patterns.{nodes_of}
use Rattle.js_machine.specs.Frames.{arguments_rest}
use Rattle.js_machine.proofs.Closing.{lasts_on, scope_grown, target_grown}
use Rattle.js_machine.proofs.Doing.{allowing, does_move_ok}
use Rattle.js_step_call.proofs.rests.all_arguments.Goals as goal

pub returns-in-Values-clause-some : goal.returns-in-Values-clause-some
returns-in-Values-clause-some c =
    let nodes = nodes_of c.args.tree.now in
    does_move_ok nodes 4 _ (arguments_rest nodes c.args.node c.in-Values.next c.in-Values.before c.args.target c.args.scope) c.args.state.now c.leading_arguments.new.state c.arguments_from.new.state c.arguments_from.result
    ((rw c.in-Values.is at c.in_ok-leading.ensures.does) c.args.target) c.arguments_from.ensures.some

pub returns-in-Ended-clause-some : goal.returns-in-Ended-clause-some
returns-in-Ended-clause-some c =
    allowing (nodes_of c.args.tree.now) 2 4 _ c.args.state.now c.leading_arguments.new.state c.in-Ended.ended (omega arith) ((rw c.in-Ended.is at c.in_ok-leading.ensures.does) c.args.target)

pub returns-in-Values-clause-many : goal.returns-in-Values-clause-many
returns-in-Values-clause-many c =
    let nodes = nodes_of c.args.tree.now in
    does_move_ok nodes 6 _ (arguments_rest nodes c.args.node c.in-Values.next c.in-Values.before c.args.target c.args.scope) c.args.state.now c.leading_arguments.new.state c.arguments_from.new.state c.arguments_from.result
    ((rw c.in-Values.is at c.in_ok-leading.ensures.does) c.args.target) c.arguments_from.ensures.many

pub returns-in-Ended-clause-many : goal.returns-in-Ended-clause-many
returns-in-Ended-clause-many c =
    allowing (nodes_of c.args.tree.now) 2 6 _ c.args.state.now c.leading_arguments.new.state c.in-Ended.ended (omega arith) ((rw c.in-Ended.is at c.in_ok-leading.ensures.does) c.args.target)

pub returns-in_err-leading-clause-closed : goal.returns-in_err-leading-clause-closed
returns-in_err-leading-clause-closed c closed target scope =
    let p = err_from_is_err_and c.from_residual.result c.from_residual.ensures.1 in rw (p.1, p.2) (c.in_err-leading.ensures.closed closed scope)

pub returns-in-Values-clause-closed : goal.returns-in-Values-clause-closed
returns-in-Values-clause-closed c closed target scope =
    let nodes = nodes_of c.args.tree.now in
    let old = c.args.state.now in
    let mid = c.leading_arguments.new.state in
    let went = c.in_ok-leading.ensures.closed closed scope in
    lasts_on nodes old mid c.arguments_from.new.state c.arguments_from.result went.0
    (c.arguments_from.ensures.closed went.0.closed (rw c.in-Values.is at went.1, target_grown nodes old.heap.cells mid.heap.cells went.0.grows c.args.target target)
    (scope_grown nodes old.heap.cells mid.heap.cells went.0.grows c.args.scope scope))

pub returns-in-Ended-clause-closed : goal.returns-in-Ended-clause-closed
returns-in-Ended-clause-closed c closed target scope = (c.in_ok-leading.ensures.closed closed scope).0
