use Rattle.js_step_access.proofs.after.enter_assigned.Goals as goal

pub returns-clause-closed : goal.returns-clause-closed
returns-clause-closed c nodes closed place scope old = c.enter.ensures.closed nodes closed (old, place) scope
