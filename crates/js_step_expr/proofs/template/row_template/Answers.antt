use Rattle.js_step_expr.proofs.template.row_template.Goals as goal

pub returns-clause-closed : goal.returns-clause-closed
returns-clause-closed c closed scope = c.template_from.ensures.closed closed scope
