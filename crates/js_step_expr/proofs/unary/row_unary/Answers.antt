use Rattle.js_step_expr.proofs.unary.row_unary.Goals as goal

pub returns-clause-closed : goal.returns-clause-closed
returns-clause-closed c nodes closed scope = c.enter_operand.ensures.closed nodes closed tt scope
