use Rattle.js_step_access.proofs.usage.use_property.Goals as goal

pub returns-in-Assign-clause-does : goal.returns-in-Assign-clause-does
returns-in-Assign-clause-does c = rw c.in-Assign.is c.assigned.ensures.does

pub returns-in-Get-clause-closed : goal.returns-in-Get-clause-closed
returns-in-Get-clause-closed c closed base key scope = c.read.ensures.closed closed base key tt

pub returns-in-Update-clause-closed : goal.returns-in-Update-clause-closed
returns-in-Update-clause-closed c closed base key scope = c.read_for_update.ensures.closed closed base key scope

pub returns-in-Delete-clause-closed : goal.returns-in-Delete-clause-closed
returns-in-Delete-clause-closed c closed base key scope = c.remove.ensures.closed closed base key

pub returns-in-Assign-clause-closed : goal.returns-in-Assign-clause-closed
returns-in-Assign-clause-closed c closed base key scope = c.assigned.ensures.closed closed (base, key) scope

pub returns-in-AssignBy-clause-closed : goal.returns-in-AssignBy-clause-closed
returns-in-AssignBy-clause-closed c closed base key scope = c.read_for_assignment.ensures.closed closed base key scope

pub returns-in-Call-clause-closed : goal.returns-in-Call-clause-closed
returns-in-Call-clause-closed c closed base key scope = c.read_for_call.ensures.closed closed base key scope
