use Rattle.js_names.specs.Patterns.{nodes_of}
use Rattle.std.specs.Prelude.{slice_get}
use Rattle.js_step_block.proofs.Made.{come_then, come_ended}
use Rattle.js_machine.proofs.Doing.{does_move_ok}
use Rattle.js_semantics.specs.Statements.{fill_functions, run_items}
use Rattle.js_machine.specs.Parts.{items_of}
use Rattle.std.proofs.lemmas.Result.{err_from_is_err_and}
use Rattle.js_machine.proofs.Closing.{lasts_on, scope_grown}
use Rattle.js_step_block.proofs.block.filled.Goals as goal

pub returns-in-None-clause-does : goal.returns-in-None-clause-does
returns-in-None-clause-does c = does_move_ok (nodes_of c.args.tree.now) 6 _ _ _ _ _ _ (come_then (nodes_of c.args.tree.now) (λ p. fill_functions (items_of (slice_get (nodes_of c.args.tree.now) c.args.node.0)) c.args.scope.env p) _ _ _ (run_items (items_of (slice_get (nodes_of c.args.tree.now) c.args.node.0)) c.args.scope) c.in-None.is (rw c.items_of.ensures at c.in_ok-fill_functions.ensures.does)) c.run_items.ensures.does

pub returns-in-Some-clause-does : goal.returns-in-Some-clause-does
returns-in-Some-clause-does c = come_ended (nodes_of c.args.tree.now) (λ p. fill_functions (items_of (slice_get (nodes_of c.args.tree.now) c.args.node.0)) c.args.scope.env p) _ _ _ c.in-Some.next (run_items (items_of (slice_get (nodes_of c.args.tree.now) c.args.node.0)) c.args.scope) c.in-Some.is (rw c.items_of.ensures at c.in_ok-fill_functions.ensures.does)

pub returns-in_err-fill_functions-clause-closed : goal.returns-in_err-fill_functions-clause-closed
returns-in_err-fill_functions-clause-closed c closed scope =
    let p = err_from_is_err_and c.from_residual.result c.from_residual.ensures.1 in rw (p.1, p.2) (c.in_err-fill_functions.ensures.closed closed scope.0)

pub returns-in-None-clause-closed : goal.returns-in-None-clause-closed
returns-in-None-clause-closed c closed scope =
    let nodes = nodes_of c.args.tree.now in
    let went = c.in_ok-fill_functions.ensures.closed closed scope.0 in
    lasts_on nodes c.args.state.now c.fill_functions.new.state c.run_items.new.state c.run_items.result went
    (c.run_items.ensures.closed went.closed (scope_grown nodes c.args.state.now.heap.cells c.fill_functions.new.state.heap.cells went.grows c.args.scope scope))

pub returns-in-Some-clause-closed : goal.returns-in-Some-clause-closed
returns-in-Some-clause-closed c closed scope = c.in_ok-fill_functions.ensures.closed closed scope.0
