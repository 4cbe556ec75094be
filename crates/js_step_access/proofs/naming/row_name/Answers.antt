use Rattle.js_step_access.proofs.naming.row_name.Goals as goal

pub returns-clause-closed : goal.returns-clause-closed
returns-clause-closed c closed named scope = c.read_name.ensures.closed closed named scope.0 tt
