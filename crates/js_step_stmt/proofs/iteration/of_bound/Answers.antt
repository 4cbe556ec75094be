use Rattle.js_step_stmt.proofs.iteration.of_bound.Goals as goal

pub returns-clause-closed : goal.returns-clause-closed
returns-clause-closed c nodes closed array turn around value = c.enter.ensures.closed nodes closed (array, around) turn
