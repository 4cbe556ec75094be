use Rattle.std.proofs.Common.{◌++◌}
use Rattle.js_names.specs.Patterns.{nodes_of}
use Rattle.js_machine.specs.Frames.{arguments_rest}
use Rattle.js_iterate.proofs.Walks.{does_items}
use Rattle.std.proofs.lemmas.Result.{err_from_is_err_and}
use Rattle.js_machine.specs.Closed.{ValueFits}
use Rattle.js_machine.proofs.Closing.{list_append}
use Rattle.js_iterate.proofs.Lasting.{items_fit}
use Rattle.js_iterate.proofs.arguments.spread_items.Goals as goal

pub returns-clause-does : goal.returns-clause-does
returns-clause-does c =
    does_items (nodes_of c.args.tree.now) c.args.array c.in_ok-items.items (λ vs. arguments_rest (nodes_of c.args.tree.now) c.args.pending.node c.args.pending.next (c.args.pending.before ++ vs) c.args.pending.target c.args.scope) c.args.state.now c.arguments_from.new.state c.arguments_from.result c.in_ok-items.ensures (rw c.in_ok-pending.ensures at c.arguments_from.ensures.many)

pub returns-in_err-items-clause-closed : goal.returns-in_err-items-clause-closed
returns-in_err-items-clause-closed c closed pending scope =
    let p = err_from_is_err_and c.from_residual.result c.from_residual.ensures.1 in rw (p.1, p.2) (c.in_err-items.ensures)

pub returns-in_err-pending-clause-closed : goal.returns-in_err-pending-clause-closed
returns-in_err-pending-clause-closed c closed pending scope =
    let p = err_from_is_err_and c.from_residual-in_err-pending.result c.from_residual-in_err-pending.ensures.1 in rw (p.1, p.2) (c.in_err-pending.ensures)

pub returns-clause-closed : goal.returns-clause-closed
returns-clause-closed c closed pending scope =
    let more = items_fit c.args.state.now.heap.cells closed.well c.args.array c.in_ok-items.items c.in_ok-items.ensures in
    c.arguments_from.ensures.closed closed (rw c.in_ok-pending.ensures (list_append (ValueFits c.args.state.now.heap.cells) c.args.pending.before c.in_ok-items.items pending.0 more, pending.1)) scope
