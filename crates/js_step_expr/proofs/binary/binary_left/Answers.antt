use Rattle.js_step_expr.proofs.binary.binary_left.Goals as goal

pub returns-clause-closed : goal.returns-clause-closed
returns-clause-closed c nodes closed scope left = c.enter_operand.ensures.closed nodes closed left scope
