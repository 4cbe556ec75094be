use Rattle.js_step_stmt.proofs.attempt.at_last.Goals as goal

pub returns-in-Some-clause-does : goal.returns-in-Some-clause-does
returns-in-Some-clause-does c nodes = rw c.in-Some.is (c.enter.ensures.many nodes)

pub returns-in-Some-clause-closed : goal.returns-in-Some-clause-closed
returns-in-Some-clause-closed c nodes closed scope outcome = c.enter.ensures.closed nodes closed outcome scope

pub returns-in-None-clause-closed : goal.returns-in-None-clause-closed
returns-in-None-clause-closed c nodes closed scope outcome = c.give.ensures.closed nodes closed outcome
