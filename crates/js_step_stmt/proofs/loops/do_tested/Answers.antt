use Rattle.js_step_stmt.proofs.loops.do_tested.Goals as goal

pub returns-then-is_truthy-clause-closed : goal.returns-then-is_truthy-clause-closed
returns-then-is_truthy-clause-closed c nodes closed scope value = c.enter_do.ensures.closed nodes closed scope

pub returns-else-is_truthy-clause-closed : goal.returns-else-is_truthy-clause-closed
returns-else-is_truthy-clause-closed c nodes closed scope value = c.done.ensures.closed nodes closed
