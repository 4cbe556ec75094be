use Rattle.js_step_expr.proofs.references.row_name.Goals as goal

pub returns-clause-closed : goal.returns-clause-closed
returns-clause-closed c nodes cells named scope = (named, scope.0, tt)
