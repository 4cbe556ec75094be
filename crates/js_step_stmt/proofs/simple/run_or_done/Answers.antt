use Rattle.js_step_stmt.proofs.simple.run_or_done.Goals as goal

pub returns-in-None-clause-closed : goal.returns-in-None-clause-closed
returns-in-None-clause-closed c nodes closed scope = c.done.ensures.closed nodes closed
