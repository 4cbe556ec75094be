use Rattle.js_step_expr.proofs.references.row_dot.Goals as goal

pub returns-clause-closed : goal.returns-clause-closed
returns-clause-closed c nodes closed named scope = c.enter_object.ensures.closed nodes closed named scope
