use Rattle.js_step_access.proofs.removal.settle.Goals as goal

pub returns-then-gone-clause-closed : goal.returns-then-gone-clause-closed
returns-then-gone-clause-closed c nodes closed = c.give.ensures.closed nodes closed tt
