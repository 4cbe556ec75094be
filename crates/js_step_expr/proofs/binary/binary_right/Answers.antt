use Rattle.js_semantics.specs.Prog.{give}
use Rattle.js_machine.proofs.Doing.{does_move_ok}
use Rattle.std.proofs.lemmas.Result.{err_from_is_err_and}
use Rattle.js_step_expr.proofs.binary.binary_right.Goals as goal

pub returns-clause-does : goal.returns-clause-does
returns-clause-does c nodes = does_move_ok nodes 6 _ _ _ _ _ _ (c.in_ok-answer.ensures.is nodes (λ v. give v)) (c.finish.ensures.does nodes)

pub returns-in_err-answer-clause-closed : goal.returns-in_err-answer-clause-closed
returns-in_err-answer-clause-closed c nodes closed left right =
    let p = err_from_is_err_and c.from_residual.result c.from_residual.ensures.1 in rw (p.1, p.2) (c.in_err-answer.ensures.closed left right)

pub returns-clause-closed : goal.returns-clause-closed
returns-clause-closed c nodes closed left right = c.finish.ensures.closed nodes closed (c.in_ok-answer.ensures.closed left right)
