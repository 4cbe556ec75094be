use Rattle.js_step_object.proofs.defining.define.Goals as goal

pub returns-in-Some-true-clause-closed : goal.returns-in-Some-true-clause-closed
returns-in-Some-true-clause-closed c nodes closed fit = c.put_at.ensures.closed nodes closed

pub returns-in-Some-false-clause-closed : goal.returns-in-Some-false-clause-closed
returns-in-Some-false-clause-closed c nodes closed fit = c.add_at.ensures.closed nodes closed

pub returns-in-None-clause-closed : goal.returns-in-None-clause-closed
returns-in-None-clause-closed c nodes closed fit = c.refuse.ensures.closed nodes closed
