use Rattle.js_names.specs.Patterns.{nodes_of}
use Rattle.std.specs.Prelude.{drop, ◌+◌}
use Rattle.js_machine.proofs.Lists.{drop_at, drop_none}
use Rattle.js_step_block.proofs.Made.{fill_more, fill_ended, fill_done}
use Rattle.std.proofs.lemmas.Result.{err_from_is_err_and}
use Rattle.js_semantics.specs.Statements.{fill_functions}
use Rattle.js_machine.proofs.Doing.{moves_still}
use Rattle.js_names.proofs.Growing.{cell_grown}
use Rattle.js_machine.proofs.Closing.{goes_on}
use Rattle.js_machine.proofs.Closing.{stays_closed}
use Rattle.js_step_block.proofs.filling.fill_functions.Goals as goal

pub returns-in-Some-clause-does : goal.returns-in-Some-clause-does
returns-in-Some-clause-does c = fill_ended (nodes_of c.args.tree.now) c.args.env c.args.items.now (drop c.items.item-index c.args.items.now) (drop (c.items.item-index + 1) c.args.items.now) _ c.args.state.now c.items.state c.fill_item.new.state c.items.invariant.does (drop_at c.args.items.now c.items.item-index _ c.items-test.true) c.in-Some.next (rw c.in-Some.is at c.in_ok-next.ensures.does)

pub items-init : goal.items-init
items-init c = record {
  does = λ p. moves_still (nodes_of c.args.tree.now) (fill_functions c.args.items.now c.args.env p) c.args.state.now;
  closed = λ closed env. stays_closed (nodes_of c.args.tree.now) c.args.state.now closed;
}

pub items-preserved : goal.items-preserved
items-preserved c = record {
  does = λ p. fill_more (nodes_of c.args.tree.now) c.args.env c.args.items.now (drop c.items.item-index c.args.items.now) (drop (c.items.item-index + 1) c.args.items.now) _ c.args.state.now c.items.state c.fill_item.new.state c.items.invariant.does (drop_at c.args.items.now c.items.item-index _ c.items-test.true) (rw c.in_default.is at c.in_ok-next.ensures.does) p;
  closed = λ closed env.
      let nodes = nodes_of c.args.tree.now in
      let went = c.items.invariant.closed closed env in
      let here = cell_grown c.args.state.now.heap.cells c.items.state.heap.cells went.grows c.args.env env in
      goes_on nodes c.args.state.now c.items.state c.fill_item.new.state went (c.in_ok-next.ensures.closed went.closed here);
}

pub returns-clause-does : goal.returns-clause-does
returns-clause-does c = fill_done (nodes_of c.args.tree.now) c.args.env c.args.items.now (drop c.items.item-index c.args.items.now) c.args.state.now c.items.state c.items.invariant.does (drop_none c.args.items.now c.items.item-index c.items-test.false)

pub returns-in_err-next-clause-closed : goal.returns-in_err-next-clause-closed
returns-in_err-next-clause-closed c closed env =
    let nodes = nodes_of c.args.tree.now in
    let went = c.items.invariant.closed closed env in
    let here = cell_grown c.args.state.now.heap.cells c.items.state.heap.cells went.grows c.args.env env in
    let p = err_from_is_err_and c.from_residual.result c.from_residual.ensures.1 in rw (p.1, p.2) (c.in_err-next.ensures.closed went.closed here)

pub returns-in-Some-clause-closed : goal.returns-in-Some-clause-closed
returns-in-Some-clause-closed c closed env =
    let nodes = nodes_of c.args.tree.now in
    let went = c.items.invariant.closed closed env in
    let here = cell_grown c.args.state.now.heap.cells c.items.state.heap.cells went.grows c.args.env env in
    goes_on nodes c.args.state.now c.items.state c.fill_item.new.state went (c.in_ok-next.ensures.closed went.closed here)

pub returns-clause-closed : goal.returns-clause-closed
returns-clause-closed c closed env = c.items.invariant.closed closed env
