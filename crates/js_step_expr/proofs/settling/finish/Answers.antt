use Rattle.std.proofs.Common.{arith}
use Rattle.js_semantics.specs.Prog.{give}
use Rattle.js_machine.proofs.Doing.{allowing, does_move_ok}
use Rattle.std.proofs.lemmas.Result.{err_from_is_err_and}
use Rattle.js_machine.proofs.Closing.{lasts_on}
use Rattle.js_step_expr.proofs.settling.finish.Goals as goal

pub returns-in-Ok-clause-does : goal.returns-in-Ok-clause-does
returns-in-Ok-clause-does c nodes = does_move_ok nodes 6 _ _ _ _ _ _ (rw c.in-Ok.is at (c.in_ok-value.ensures.does nodes (λ v. give v))) (c.give.ensures.many nodes)

pub returns-in-Err-clause-does : goal.returns-in-Err-clause-does
returns-in-Err-clause-does c nodes = allowing nodes 2 6 _ _ _ _ (omega arith) (rw c.in-Err.is at (c.in_ok-value.ensures.does nodes (λ v. give v)))

pub returns-in_err-value-clause-closed : goal.returns-in_err-value-clause-closed
returns-in_err-value-clause-closed c nodes closed fit =
    let p = err_from_is_err_and c.from_residual.result c.from_residual.ensures.1 in rw (p.1, p.2) (c.in_err-value.ensures.closed nodes closed fit)

pub returns-in-Ok-clause-closed : goal.returns-in-Ok-clause-closed
returns-in-Ok-clause-closed c nodes closed fit =
    let went = c.in_ok-value.ensures.closed nodes closed fit in
    lasts_on nodes c.args.state.now c.settle.new.state c.give.new.self c.give.result went.0 (c.give.ensures.closed nodes went.0.closed (rw c.in-Ok.is at went.1))

pub returns-in-Err-clause-closed : goal.returns-in-Err-clause-closed
returns-in-Err-clause-closed c nodes closed fit = (c.in_ok-value.ensures.closed nodes closed fit).0
