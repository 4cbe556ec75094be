use Rattle.std.proofs.lemmas.Result.{err_from_is_err_and}
use Rattle.js_names.specs.Patterns.{nodes_of}
use Rattle.js_machine.proofs.Closing.{lasts_on}
use Rattle.js_step_access.proofs.rows.update_target.Goals as goal

pub returns-in_err-next-clause-closed : goal.returns-in_err-next-clause-closed
returns-in_err-next-clause-closed c closed scope =
    let p = err_from_is_err_and c.from_residual.result c.from_residual.ensures.1 in rw (p.1, p.2) (c.in_err-next.ensures.closed closed scope)

pub returns-in-Ok-clause-closed : goal.returns-in-Ok-clause-closed
returns-in-Ok-clause-closed c closed scope = (c.in_ok-next.ensures.closed closed scope).0

pub returns-in-Err-clause-closed : goal.returns-in-Err-clause-closed
returns-in-Err-clause-closed c closed scope =
    let left = c.in_ok-next.ensures.closed closed scope in
    let went = left.0 in
    lasts_on (nodes_of c.args.tree.now) c.args.state.now c.row_update.new.state c.finish.new.state c.finish.result went (c.finish.ensures.closed went.closed (rw c.in-Err.is at left.1))
