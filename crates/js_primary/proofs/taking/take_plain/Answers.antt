use Rattle.js_primary.proofs.taking.take_plain.Goals as goal

pub returns-in-Some-clause-does : goal.returns-in-Some-clause-does
returns-in-Some-clause-does c k = (rw c.in-Some.is at c.in_ok-value.ensures.does).0 k
