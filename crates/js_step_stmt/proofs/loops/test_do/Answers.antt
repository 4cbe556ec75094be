use Rattle.js_step_stmt.proofs.loops.test_do.Goals as goal

pub returns-clause-does : goal.returns-clause-does
returns-clause-does c nodes = rw (c.statement.ensures, c.in_ok-inner.ensures) at (c.enter.ensures.many nodes)

pub returns-clause-closed : goal.returns-clause-closed
returns-clause-closed c nodes closed scope = c.enter.ensures.closed nodes closed (rw c.statement.ensures scope) (rw c.in_ok-inner.ensures scope)
