use Rattle.std.proofs.lemmas.Result.{err_from_is_err_and}
use Rattle.js_step_expr.proofs.properties.index_key.Goals as goal

pub returns-in-Some-clause-does : goal.returns-in-Some-clause-does
returns-in-Some-clause-does c nodes = rw (← c.in_ok-text.ensures, c.in-Some.is) (c.used.ensures.does nodes)

pub returns-in_ok-throw-in-None-clause-does : goal.returns-in_ok-throw-in-None-clause-does
returns-in_ok-throw-in-None-clause-does c nodes = rw (← c.in_ok-text.ensures, c.in-None.is) (c.in_ok-throw-in-None.ensures.many nodes)

pub returns-in-Some-clause-closed : goal.returns-in-Some-clause-closed
returns-in-Some-clause-closed c nodes closed base scope value = c.used.ensures.closed nodes closed base tt scope

pub returns-in_ok-throw-in-None-clause-closed : goal.returns-in_ok-throw-in-None-clause-closed
returns-in_ok-throw-in-None-clause-closed c nodes closed base scope value = (c.in_ok-throw-in-None.ensures.closed nodes closed, tt)

pub returns-in_err-throw-in-None-clause-closed : goal.returns-in_err-throw-in-None-clause-closed
returns-in_err-throw-in-None-clause-closed c nodes closed base scope value =
    let p = err_from_is_err_and c.from_residual-in_err-throw-in-None.result c.from_residual-in_err-throw-in-None.ensures.1 in rw (p.1, p.2) (c.in_err-throw-in-None.ensures.closed nodes closed)
