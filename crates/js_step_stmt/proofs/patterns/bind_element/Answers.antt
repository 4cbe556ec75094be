use Rattle.js_step_stmt.proofs.patterns.bind_element.Goals as goal

pub returns-clause-does : goal.returns-clause-does
returns-clause-does c nodes = rw (c.pattern.ensures, c.in_ok-inner.ensures) at (c.bind.ensures.many nodes)

pub returns-clause-closed : goal.returns-clause-closed
returns-clause-closed c nodes closed array scope value = c.bind.ensures.closed nodes closed (rw c.pattern.ensures (array, scope)) value (rw c.in_ok-inner.ensures scope)
