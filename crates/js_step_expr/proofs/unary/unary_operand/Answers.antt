use Rattle.js_step_expr.proofs.Numbers.{unary_answer, not_least}
use Rattle.js_step_expr.proofs.unary.unary_operand.Goals as goal

pub returns-in-Some-clause-closed : goal.returns-in-Some-clause-closed
returns-in-Some-clause-closed c nodes closed fit = c.finish.ensures.closed nodes closed (unary_answer c.args.state.now.heap.cells c.args.operator c.args.operand _ fit c.in-Some.ensures)

pub returns-clause-closed : goal.returns-clause-closed
returns-clause-closed c nodes closed fit = absurd (not_least c.args.state.now.heap.cells c.args.operand fit c.in-None.ensures.1)
