use Rattle.js_step_access.proofs.keys.name_at.Goals as goal

pub returns-in-Some-clause-named : goal.returns-in-Some-clause-named
returns-in-Some-clause-named c named = c.name_in.ensures.named (rw c.in-Some.ensures at named)

pub returns-in-None-clause-named : goal.returns-in-None-clause-named
returns-in-None-clause-named c named = absurd (rw c.in-None.ensures at named)
