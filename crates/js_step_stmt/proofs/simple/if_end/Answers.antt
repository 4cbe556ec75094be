use Rattle.js_step_stmt.proofs.simple.if_end.Goals as goal

pub returns-then-is_truthy-clause-closed : goal.returns-then-is_truthy-clause-closed
returns-then-is_truthy-clause-closed c nodes closed scope value = c.run_or_done.ensures.closed nodes closed scope

pub returns-clause-closed : goal.returns-clause-closed
returns-clause-closed c nodes closed scope value = c.run_or_done-else-is_truthy.ensures.closed nodes closed scope
