use Rattle.js_step_access.proofs.finishing.finish.Goals as goal

pub returns-in-Read-clause-closed : goal.returns-in-Read-clause-closed
returns-in-Read-clause-closed c closed remaining = let fit = rw c.in-Read.is at remaining in c.read_name.ensures.closed closed fit.0 fit.1 fit.2

pub returns-in-Property-clause-closed : goal.returns-in-Property-clause-closed
returns-in-Property-clause-closed c closed remaining = let fit = rw c.in-Property.is at remaining in c.use_property.ensures.closed closed fit.0 fit.1 fit.2

pub returns-in-Write-clause-closed : goal.returns-in-Write-clause-closed
returns-in-Write-clause-closed c closed remaining = let fit = rw c.in-Write.is at remaining in c.assign_place.ensures.closed closed fit.0 fit.1

pub returns-in-Instance-clause-closed : goal.returns-in-Instance-clause-closed
returns-in-Instance-clause-closed c closed remaining = let fit = rw c.in-Instance.is at remaining in c.instance_of.ensures.closed closed fit.0 fit.1 fit.2
