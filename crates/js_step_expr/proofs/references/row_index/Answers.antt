use Rattle.js_step_expr.proofs.references.row_index.Goals as goal

pub returns-clause-closed : goal.returns-clause-closed
returns-clause-closed c nodes closed scope = c.enter_indexed.ensures.closed nodes closed scope
