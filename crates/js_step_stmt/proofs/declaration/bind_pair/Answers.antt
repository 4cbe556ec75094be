use Rattle.js_step_stmt.proofs.declaration.bind_pair.Goals as goal

pub returns-clause-does : goal.returns-clause-does
returns-clause-does c nodes = rw (c.statement.ensures, c.in_ok-inner.ensures) at (c.bind.ensures.many nodes)

pub returns-clause-closed : goal.returns-clause-closed
returns-clause-closed c nodes closed scope value = c.bind.ensures.closed nodes closed (rw c.statement.ensures scope) value (rw c.in_ok-inner.ensures scope)
