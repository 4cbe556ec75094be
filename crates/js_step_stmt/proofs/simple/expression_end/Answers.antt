use Rattle.js_step_stmt.proofs.simple.expression_end.Goals as goal

pub returns-clause-closed : goal.returns-clause-closed
returns-clause-closed c nodes closed value = c.done.ensures.closed nodes closed
