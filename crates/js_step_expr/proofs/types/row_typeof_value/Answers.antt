use Rattle.js_step_expr.proofs.types.row_typeof_value.Goals as goal

pub returns-clause-closed : goal.returns-clause-closed
returns-clause-closed c nodes closed scope = c.enter_operand.ensures.closed nodes closed tt scope
