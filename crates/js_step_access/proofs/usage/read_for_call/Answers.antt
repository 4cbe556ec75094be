use Rattle.js_step_access.proofs.usage.read_for_call.Goals as goal

pub returns-clause-does : goal.returns-clause-does
returns-clause-does c = rw c.in_ok-receiver.ensures at c.read.ensures.does

pub returns-clause-closed : goal.returns-clause-closed
returns-clause-closed c closed base key scope = c.read.ensures.closed closed base key (rw c.in_ok-receiver.ensures (base, scope))
