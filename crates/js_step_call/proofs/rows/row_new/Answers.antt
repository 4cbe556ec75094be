use Rattle.js_semantics.specs.Iteration.{arguments_of}
use Rattle.js_semantics.specs.Objects.{row_new}
use Rattle.std.proofs.lemmas.Result.{err_from_is_err_and}
use Rattle.js_step_call.proofs.rows.row_new.Goals as goal

pub returns-clause-does : goal.returns-clause-does
unfolding row_new arguments_of
returns-clause-does c nodes = rw c.in_ok-inner.ensures at (c.enter_callee.ensures.does nodes)

pub returns-in_err-inner-clause-closed : goal.returns-in_err-inner-clause-closed
returns-in_err-inner-clause-closed c nodes closed scope =
    let p = err_from_is_err_and c.from_residual.result c.from_residual.ensures.1 in rw (p.1, p.2) (c.in_err-inner.ensures)

pub returns-clause-closed : goal.returns-clause-closed
returns-clause-closed c nodes closed scope =
    c.enter_callee.ensures.closed nodes closed scope (rw c.in_ok-inner.ensures scope)
