use Rattle.js_step_expr.proofs.Settled.{settles_after_ok}
use Rattle.std.proofs.lemmas.Result.{err_from_is_err_and}
use Rattle.js_step_expr.proofs.binary.apply.Goals as goal

pub returns-clause-does : goal.returns-clause-does
returns-clause-does c nodes k = settles_after_ok nodes _ _ k _ _ _ _ (c.in_ok-answer.ensures.is nodes k) (c.settle.ensures.does nodes k)

pub returns-in_err-answer-clause-closed : goal.returns-in_err-answer-clause-closed
returns-in_err-answer-clause-closed c nodes closed left right =
    let p = err_from_is_err_and c.from_residual.result c.from_residual.ensures.1 in rw (p.1, p.2) (c.in_err-answer.ensures.closed left right)

pub returns-clause-closed : goal.returns-clause-closed
returns-clause-closed c nodes closed left right = c.settle.ensures.closed nodes closed (c.in_ok-answer.ensures.closed left right)
