use Rattle.std.proofs.lemmas.Result.{err_from_is_err_and}
use Rattle.js_machine.specs.Closed.{ValueFits}
use Rattle.world_heap.proofs.Wells.{list_push}
use Rattle.js_iterate.proofs.arguments.argument_value.Goals as goal

pub returns-in_err-pending-clause-closed : goal.returns-in_err-pending-clause-closed
returns-in_err-pending-clause-closed c closed pending scope fit =
    let p = err_from_is_err_and c.from_residual.result c.from_residual.ensures.1 in rw (p.1, p.2) (c.in_err-pending.ensures)

pub returns-clause-closed : goal.returns-clause-closed
returns-clause-closed c closed pending scope fit =
    c.arguments_from.ensures.closed closed (rw c.in_ok-pending.ensures (list_push (ValueFits c.args.state.now.heap.cells) c.args.pending.before c.args.value pending.0 fit, pending.1)) scope
