use Rattle.std.proofs.Common.{sym, ◌∙◌}
use Rattle.js_step_stmt.proofs.Choosing.{of_item, of_none}
use Rattle.js_machine.proofs.Doing.{does_read_ok}
use Rattle.js_names.specs.Patterns.{nodes_of}
use Rattle.js_step_stmt.proofs.Fitting.{item_fits, unready_fit}
use Rattle.js_step_stmt.proofs.iteration.of_turn.Goals as goal

pub returns-in_ok-bindings-in-Some-clause-does : goal.returns-in_ok-bindings-in-Some-clause-does
returns-in_ok-bindings-in-Some-clause-does c = does_read_ok (nodes_of c.args.tree.now) 6 _ _ _ _ _ (λ supply. of_item (nodes_of c.args.tree.now) c.args.walk.constant c.args.walk.bind c.args.walk.body c.args.walk.array c.args.place c.args.around _ c.in-Some.item _ (sym c.in_ok-item.ensures ∙ c.in-Some.is) c.in_ok-bindings-in-Some.ensures) (c.turn_in.ensures.does (nodes_of c.args.tree.now))

pub returns-in-None-clause-does : goal.returns-in-None-clause-does
returns-in-None-clause-does c = does_read_ok (nodes_of c.args.tree.now) 6 _ _ _ _ _ (λ supply. of_none (nodes_of c.args.tree.now) c.args.walk.constant c.args.walk.bind c.args.walk.body c.args.walk.array c.args.place c.args.around _ (sym c.in_ok-item.ensures ∙ c.in-None.is)) (c.done.ensures.does (nodes_of c.args.tree.now))

pub returns-in_ok-bindings-in-Some-clause-closed : goal.returns-in_ok-bindings-in-Some-clause-closed
returns-in_ok-bindings-in-Some-clause-closed c closed array around =
    let cells = c.args.state.now.heap.cells in
    let found = rw c.in-Some.is at (item_fits cells closed.well c.args.walk.array c.args.place _ c.in_ok-item.ensures) in
    c.turn_in.ensures.closed (nodes_of c.args.tree.now) closed (unready_fit cells c.args.walk.constant _ _ c.in_ok-bindings-in-Some.ensures) array found around

pub returns-in-None-clause-closed : goal.returns-in-None-clause-closed
returns-in-None-clause-closed c closed array around = c.done.ensures.closed (nodes_of c.args.tree.now) closed
