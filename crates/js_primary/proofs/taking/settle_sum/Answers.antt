use Rattle.std.proofs.lemmas.Result.{err_from_is_err_and}
use Rattle.js_primary.proofs.taking.settle_sum.Goals as goal

pub returns-in_err-value-clause-closed : goal.returns-in_err-value-clause-closed
returns-in_err-value-clause-closed c nodes closed left right =
    let p = err_from_is_err_and c.from_residual.result c.from_residual.ensures.1 in rw (p.1, p.2) (c.in_err-value.ensures.closed nodes closed left right)

pub returns-in-Ok-clause-does : goal.returns-in-Ok-clause-does
returns-in-Ok-clause-does c nodes k = rw c.in-Ok.is at (c.in_ok-value.ensures.does nodes k)

pub returns-in-Ok-clause-closed : goal.returns-in-Ok-clause-closed
returns-in-Ok-clause-closed c nodes closed left right = rw c.in-Ok.is at (c.in_ok-value.ensures.closed nodes closed left right)

pub returns-in-Err-clause-does : goal.returns-in-Err-clause-does
returns-in-Err-clause-does c nodes k = rw c.in-Err.is at (c.in_ok-value.ensures.does nodes k)

pub returns-in-Err-clause-closed : goal.returns-in-Err-clause-closed
returns-in-Err-clause-closed c nodes closed left right = rw c.in-Err.is at (c.in_ok-value.ensures.closed nodes closed left right)
