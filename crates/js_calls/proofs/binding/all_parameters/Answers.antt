use Rattle.std.proofs.lemmas.Result.{err_from_is_err_and}
use Rattle.js_names.specs.Patterns.{nodes_of}
use Rattle.js_machine.specs.Frames.{parameters_rest}
use Rattle.js_machine.proofs.Closing.{lasts_on, scope_grown, values_grown}
use Rattle.js_machine.proofs.Doing.{does_move_ok}
use Rattle.js_calls.proofs.binding.all_parameters.Goals as goal

pub returns-in-Ok-clause-does : goal.returns-in-Ok-clause-does
returns-in-Ok-clause-does c =
    let nodes = nodes_of c.args.tree.now in
    does_move_ok nodes 2 (parameters_rest nodes c.args.node 0 c.args.arguments c.args.scope) (parameters_rest nodes c.args.node c.in-Ok.at c.args.arguments c.args.scope) c.args.state.now c.leading_parameters.new.state c.parameters.new.state c.parameters.result
    (rw c.in-Ok.is at c.in_ok-leading.ensures.does) c.parameters.ensures.does

pub returns-in-Err-clause-does : goal.returns-in-Err-clause-does
returns-in-Err-clause-does c = rw c.in-Err.is at c.in_ok-leading.ensures.does

pub returns-in_err-leading-clause-closed : goal.returns-in_err-leading-clause-closed
returns-in_err-leading-clause-closed c closed arguments scope =
    let p = err_from_is_err_and c.from_residual.result c.from_residual.ensures.1 in rw (p.1, p.2) (c.in_err-leading.ensures.closed closed arguments)

pub returns-in-Ok-clause-closed : goal.returns-in-Ok-clause-closed
returns-in-Ok-clause-closed c closed arguments scope =
    let nodes = nodes_of c.args.tree.now in
    let old = c.args.state.now in
    let mid = c.leading_parameters.new.state in
    let went = c.in_ok-leading.ensures.closed closed arguments in
    lasts_on nodes old mid c.parameters.new.state c.parameters.result went
    (c.parameters.ensures.closed went.closed (values_grown nodes old.heap.cells mid.heap.cells went.grows c.args.arguments arguments) (scope_grown nodes old.heap.cells mid.heap.cells went.grows c.args.scope scope))

pub returns-in-Err-clause-closed : goal.returns-in-Err-clause-closed
returns-in-Err-clause-closed c closed arguments scope = c.in_ok-leading.ensures.closed closed arguments
