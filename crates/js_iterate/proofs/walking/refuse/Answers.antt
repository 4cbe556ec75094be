use Rattle.js_iterate.proofs.walking.refuse.Goals as goal

pub returns-in-Ok-clause-does : goal.returns-in-Ok-clause-does
returns-in-Ok-clause-does c nodes k = c.in-Ok.ensures.few nodes

pub returns-in-Ok-clause-closed : goal.returns-in-Ok-clause-closed
returns-in-Ok-clause-closed c nodes closed =
    c.in-Ok.ensures.closed nodes closed

pub returns-in-Err-clause-closed : goal.returns-in-Err-clause-closed
returns-in-Err-clause-closed c nodes closed =
    c.in-Err.ensures.closed nodes closed
