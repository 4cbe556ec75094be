use Rattle.js_semantics.specs.Operators.{Is}
use Rattle.js_semantics.specs.Expressions.{compute}
use Rattle.js_step_expr.proofs.Applied.{moves_other}
use Rattle.js_step_expr.proofs.Numbers.{operands_answer}
use Rattle.js_operators.specs.declared.answer.Answer.TheVariants as answers
use Rattle.js_primary.proofs.composed.of_numbers.Goals as goal

pub returns-in-Is-clause-is : goal.returns-in-Is-clause-is
unfolding compute
returns-in-Is-clause-is c nodes k =
    moves_other nodes c.args.operator c.args.left.now c.args.right.now (Is c.in-Is.value) k c.args.state.now c.requires.plain c.requires.no_in c.requires.unlike c.requires.like (rw c.in-Is.is at c.in_ok-value.ensures)

pub returns-in-Is-clause-closed : goal.returns-in-Is-clause-closed
returns-in-Is-clause-closed c = operands_answer c.args.state.now.heap.cells c.args.operator c.args.left.now c.args.right.now (answers.Is c.in-Is.value) (rw c.in-Is.is at c.in_ok-value.ensures)
