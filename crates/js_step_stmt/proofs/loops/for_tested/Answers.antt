use Rattle.js_step_stmt.proofs.loops.for_tested.Goals as goal

pub returns-in_ok-inner-clause-does : goal.returns-in_ok-inner-clause-does
returns-in_ok-inner-clause-does c nodes = rw (← c.is_truthy.ensures, c.if-is_truthy.true) (rw c.in_ok-inner.ensures at (c.enter.ensures.many nodes))

pub returns-in_ok-inner-clause-closed : goal.returns-in_ok-inner-clause-closed
returns-in_ok-inner-clause-closed c nodes closed scope value = c.enter.ensures.closed nodes closed scope (rw c.in_ok-inner.ensures scope)

pub returns-else-is_truthy-clause-closed : goal.returns-else-is_truthy-clause-closed
returns-else-is_truthy-clause-closed c nodes closed scope value = c.done.ensures.closed nodes closed
