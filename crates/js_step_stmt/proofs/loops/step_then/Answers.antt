use Rattle.js_step_stmt.proofs.loops.step_then.Goals as goal

pub returns-in_ok-inner-in-Some-clause-does : goal.returns-in_ok-inner-in-Some-clause-does
returns-in_ok-inner-in-Some-clause-does c nodes = rw c.in-Some.is (rw (c.statement.ensures, c.in_ok-inner-in-Some.ensures) at (c.enter.ensures.many nodes))

pub returns-in_ok-inner-in-Some-clause-closed : goal.returns-in_ok-inner-in-Some-clause-closed
returns-in_ok-inner-in-Some-clause-closed c nodes closed scope = c.enter.ensures.closed nodes closed (rw c.statement.ensures scope) (rw c.in_ok-inner-in-Some.ensures scope)
