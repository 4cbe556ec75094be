use Rattle.js_semantics.specs.Expressions.{compute}
use Rattle.js_step_expr.proofs.Settled.{moves_value}
use Rattle.js_machine.proofs.Closing.{stays_closed}
use Rattle.std.proofs.lemmas.Result.{err_from_is_err_and}
use Rattle.js_step_expr.proofs.settling.settle.Goals as goal

pub returns-in-Is-clause-does : goal.returns-in-Is-clause-does
returns-in-Is-clause-does c nodes k = rw c.in-Is.is (moves_value nodes _ k c.args.state.now)

pub returns-in-Makes-clause-does : goal.returns-in-Makes-clause-does
unfolding compute
returns-in-Makes-clause-does c nodes k = rw c.in-Makes.is (c.make_text.ensures.does nodes k)

pub returns-in_ok-throw-in-Fails-clause-does : goal.returns-in_ok-throw-in-Fails-clause-does
unfolding compute
returns-in_ok-throw-in-Fails-clause-does c nodes k = rw c.in-Fails.is (c.in_ok-throw-in-Fails.ensures.few nodes)

pub returns-in-Is-clause-closed : goal.returns-in-Is-clause-closed
returns-in-Is-clause-closed c nodes closed fit = (stays_closed nodes c.args.state.now closed, rw c.in-Is.is at fit)

pub returns-in-Makes-clause-closed : goal.returns-in-Makes-clause-closed
returns-in-Makes-clause-closed c nodes closed fit = c.make_text.ensures.closed nodes closed

pub returns-in_ok-throw-in-Fails-clause-closed : goal.returns-in_ok-throw-in-Fails-clause-closed
returns-in_ok-throw-in-Fails-clause-closed c nodes closed fit = (c.in_ok-throw-in-Fails.ensures.closed nodes closed, tt)

pub returns-in_err-throw-in-Fails-clause-closed : goal.returns-in_err-throw-in-Fails-clause-closed
returns-in_err-throw-in-Fails-clause-closed c nodes closed fit =
    let p = err_from_is_err_and c.from_residual.result c.from_residual.ensures.1 in rw (p.1, p.2) (c.in_err-throw-in-Fails.ensures.closed nodes closed)
