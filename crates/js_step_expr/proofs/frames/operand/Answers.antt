use Rattle.js_names.specs.Patterns.{nodes_of}
use Rattle.std.proofs.lemmas.Result.{err_from_is_err_and}
use Rattle.js_machine.proofs.Closing.{stays_closed}
use Rattle.js_step_expr.proofs.frames.operand.Goals as goal

pub returns-in_ok-unary_operand-in-Unary-clause-does : goal.returns-in_ok-unary_operand-in-Unary-clause-does
returns-in_ok-unary_operand-in-Unary-clause-does c = rw c.in-Unary.is (c.in_ok-unary_operand-in-Unary.ensures.does (nodes_of c.args.tree.now))

pub returns-in_ok-typeof_value-in-Typeof-clause-does : goal.returns-in_ok-typeof_value-in-Typeof-clause-does
returns-in_ok-typeof_value-in-Typeof-clause-does c = rw c.in-Typeof.is (c.in_ok-typeof_value-in-Typeof.ensures.does (nodes_of c.args.tree.now))

pub returns-in_ok-delete_value-in-Delete-clause-does : goal.returns-in_ok-delete_value-in-Delete-clause-does
returns-in_ok-delete_value-in-Delete-clause-does c = rw c.in-Delete.is (c.in_ok-delete_value-in-Delete.ensures.does (nodes_of c.args.tree.now))

pub returns-in_ok-binary_left-in-BinaryLeft-clause-does : goal.returns-in_ok-binary_left-in-BinaryLeft-clause-does
returns-in_ok-binary_left-in-BinaryLeft-clause-does c = rw c.in-BinaryLeft.is (c.in_ok-binary_left-in-BinaryLeft.ensures.does (nodes_of c.args.tree.now))

pub returns-in_ok-and_left-in-And-clause-does : goal.returns-in_ok-and_left-in-And-clause-does
returns-in_ok-and_left-in-And-clause-does c = rw c.in-And.is (c.in_ok-and_left-in-And.ensures.does (nodes_of c.args.tree.now))

pub returns-in_ok-or_left-in-Or-clause-does : goal.returns-in_ok-or_left-in-Or-clause-does
returns-in_ok-or_left-in-Or-clause-does c = rw c.in-Or.is (c.in_ok-or_left-in-Or.ensures.does (nodes_of c.args.tree.now))

pub returns-in_ok-nullish_left-in-Nullish-clause-does : goal.returns-in_ok-nullish_left-in-Nullish-clause-does
returns-in_ok-nullish_left-in-Nullish-clause-does c = rw c.in-Nullish.is (c.in_ok-nullish_left-in-Nullish.ensures.does (nodes_of c.args.tree.now))

pub returns-in_ok-cond_test-in-Cond-clause-does : goal.returns-in_ok-cond_test-in-Cond-clause-does
returns-in_ok-cond_test-in-Cond-clause-does c = rw c.in-Cond.is (c.in_ok-cond_test-in-Cond.ensures.does (nodes_of c.args.tree.now))

pub returns-in_ok-seq_first-in-Seq-clause-does : goal.returns-in_ok-seq_first-in-Seq-clause-does
returns-in_ok-seq_first-in-Seq-clause-does c = rw c.in-Seq.is (c.in_ok-seq_first-in-Seq.ensures.does (nodes_of c.args.tree.now))

pub returns-in-BinaryRight-clause-does : goal.returns-in-BinaryRight-clause-does
returns-in-BinaryRight-clause-does c = rw c.in-BinaryRight.is (c.both_operands.ensures.does (nodes_of c.args.tree.now))

pub returns-in-AssignOperand-clause-does : goal.returns-in-AssignOperand-clause-does
returns-in-AssignOperand-clause-does c = rw c.in-AssignOperand.is (c.assign_operand.ensures.does (nodes_of c.args.tree.now))

pub returns-in_ok-template_part-in-TemplatePart-clause-closed : goal.returns-in_ok-template_part-in-TemplatePart-clause-closed
returns-in_ok-template_part-in-TemplatePart-clause-closed c closed frame value = (c.in_ok-template_part-in-TemplatePart.ensures.closed closed (rw c.in-TemplatePart.is at frame) value, tt)

pub returns-in_err-template_part-in-TemplatePart-clause-closed : goal.returns-in_err-template_part-in-TemplatePart-clause-closed
returns-in_err-template_part-in-TemplatePart-clause-closed c closed frame value =
    let p = err_from_is_err_and c.from_residual.result c.from_residual.ensures.1 in rw (p.1, p.2) (c.in_err-template_part-in-TemplatePart.ensures.closed closed (rw c.in-TemplatePart.is at frame) value)

pub returns-in_ok-unary_operand-in-Unary-clause-closed : goal.returns-in_ok-unary_operand-in-Unary-clause-closed
returns-in_ok-unary_operand-in-Unary-clause-closed c closed frame value = (c.in_ok-unary_operand-in-Unary.ensures.closed (nodes_of c.args.tree.now) closed value, tt)

pub returns-in_err-unary_operand-in-Unary-clause-closed : goal.returns-in_err-unary_operand-in-Unary-clause-closed
returns-in_err-unary_operand-in-Unary-clause-closed c closed frame value =
    let p = err_from_is_err_and c.from_residual-in_err-unary_operand-in-Unary.result c.from_residual-in_err-unary_operand-in-Unary.ensures.1 in rw (p.1, p.2) (c.in_err-unary_operand-in-Unary.ensures.closed (nodes_of c.args.tree.now) closed value)

pub returns-in_ok-typeof_value-in-Typeof-clause-closed : goal.returns-in_ok-typeof_value-in-Typeof-clause-closed
returns-in_ok-typeof_value-in-Typeof-clause-closed c closed frame value = (c.in_ok-typeof_value-in-Typeof.ensures.closed (nodes_of c.args.tree.now) closed value, tt)

pub returns-in_err-typeof_value-in-Typeof-clause-closed : goal.returns-in_err-typeof_value-in-Typeof-clause-closed
returns-in_err-typeof_value-in-Typeof-clause-closed c closed frame value =
    let p = err_from_is_err_and c.from_residual-in_err-typeof_value-in-Typeof.result c.from_residual-in_err-typeof_value-in-Typeof.ensures.1 in rw (p.1, p.2) (c.in_err-typeof_value-in-Typeof.ensures.closed (nodes_of c.args.tree.now) closed value)

pub returns-in_ok-delete_value-in-Delete-clause-closed : goal.returns-in_ok-delete_value-in-Delete-clause-closed
returns-in_ok-delete_value-in-Delete-clause-closed c closed frame value = (c.in_ok-delete_value-in-Delete.ensures.closed (nodes_of c.args.tree.now) closed value, tt)

pub returns-in_err-delete_value-in-Delete-clause-closed : goal.returns-in_err-delete_value-in-Delete-clause-closed
returns-in_err-delete_value-in-Delete-clause-closed c closed frame value =
    let p = err_from_is_err_and c.from_residual-in_err-delete_value-in-Delete.result c.from_residual-in_err-delete_value-in-Delete.ensures.1 in rw (p.1, p.2) (c.in_err-delete_value-in-Delete.ensures.closed (nodes_of c.args.tree.now) closed value)

pub returns-in_ok-binary_left-in-BinaryLeft-clause-closed : goal.returns-in_ok-binary_left-in-BinaryLeft-clause-closed
returns-in_ok-binary_left-in-BinaryLeft-clause-closed c closed frame value = (c.in_ok-binary_left-in-BinaryLeft.ensures.closed (nodes_of c.args.tree.now) closed (rw c.in-BinaryLeft.is at frame) value, tt)

pub returns-in_err-binary_left-in-BinaryLeft-clause-closed : goal.returns-in_err-binary_left-in-BinaryLeft-clause-closed
returns-in_err-binary_left-in-BinaryLeft-clause-closed c closed frame value =
    let p = err_from_is_err_and c.from_residual-in_err-binary_left-in-BinaryLeft.result c.from_residual-in_err-binary_left-in-BinaryLeft.ensures.1 in rw (p.1, p.2) (c.in_err-binary_left-in-BinaryLeft.ensures.closed (nodes_of c.args.tree.now) closed (rw c.in-BinaryLeft.is at frame) value)

pub returns-in-BinaryRight-clause-closed : goal.returns-in-BinaryRight-clause-closed
returns-in-BinaryRight-clause-closed c closed frame value = c.both_operands.ensures.closed (nodes_of c.args.tree.now) closed (rw c.in-BinaryRight.is at frame) value

pub returns-in_ok-and_left-in-And-clause-closed : goal.returns-in_ok-and_left-in-And-clause-closed
returns-in_ok-and_left-in-And-clause-closed c closed frame value = (c.in_ok-and_left-in-And.ensures.closed (nodes_of c.args.tree.now) closed (rw c.in-And.is at frame) value, tt)

pub returns-in_err-and_left-in-And-clause-closed : goal.returns-in_err-and_left-in-And-clause-closed
returns-in_err-and_left-in-And-clause-closed c closed frame value =
    let p = err_from_is_err_and c.from_residual-in_err-and_left-in-And.result c.from_residual-in_err-and_left-in-And.ensures.1 in rw (p.1, p.2) (c.in_err-and_left-in-And.ensures.closed (nodes_of c.args.tree.now) closed (rw c.in-And.is at frame) value)

pub returns-in_ok-or_left-in-Or-clause-closed : goal.returns-in_ok-or_left-in-Or-clause-closed
returns-in_ok-or_left-in-Or-clause-closed c closed frame value = (c.in_ok-or_left-in-Or.ensures.closed (nodes_of c.args.tree.now) closed (rw c.in-Or.is at frame) value, tt)

pub returns-in_err-or_left-in-Or-clause-closed : goal.returns-in_err-or_left-in-Or-clause-closed
returns-in_err-or_left-in-Or-clause-closed c closed frame value =
    let p = err_from_is_err_and c.from_residual-in_err-or_left-in-Or.result c.from_residual-in_err-or_left-in-Or.ensures.1 in rw (p.1, p.2) (c.in_err-or_left-in-Or.ensures.closed (nodes_of c.args.tree.now) closed (rw c.in-Or.is at frame) value)

pub returns-in_ok-nullish_left-in-Nullish-clause-closed : goal.returns-in_ok-nullish_left-in-Nullish-clause-closed
returns-in_ok-nullish_left-in-Nullish-clause-closed c closed frame value = (c.in_ok-nullish_left-in-Nullish.ensures.closed (nodes_of c.args.tree.now) closed (rw c.in-Nullish.is at frame) value, tt)

pub returns-in_err-nullish_left-in-Nullish-clause-closed : goal.returns-in_err-nullish_left-in-Nullish-clause-closed
returns-in_err-nullish_left-in-Nullish-clause-closed c closed frame value =
    let p = err_from_is_err_and c.from_residual-in_err-nullish_left-in-Nullish.result c.from_residual-in_err-nullish_left-in-Nullish.ensures.1 in rw (p.1, p.2) (c.in_err-nullish_left-in-Nullish.ensures.closed (nodes_of c.args.tree.now) closed (rw c.in-Nullish.is at frame) value)

pub returns-in_ok-cond_test-in-Cond-clause-closed : goal.returns-in_ok-cond_test-in-Cond-clause-closed
returns-in_ok-cond_test-in-Cond-clause-closed c closed frame value = (c.in_ok-cond_test-in-Cond.ensures.closed (nodes_of c.args.tree.now) closed (rw c.in-Cond.is at frame) value, tt)

pub returns-in_err-cond_test-in-Cond-clause-closed : goal.returns-in_err-cond_test-in-Cond-clause-closed
returns-in_err-cond_test-in-Cond-clause-closed c closed frame value =
    let p = err_from_is_err_and c.from_residual-in_err-cond_test-in-Cond.result c.from_residual-in_err-cond_test-in-Cond.ensures.1 in rw (p.1, p.2) (c.in_err-cond_test-in-Cond.ensures.closed (nodes_of c.args.tree.now) closed (rw c.in-Cond.is at frame) value)

pub returns-in_ok-seq_first-in-Seq-clause-closed : goal.returns-in_ok-seq_first-in-Seq-clause-closed
returns-in_ok-seq_first-in-Seq-clause-closed c closed frame value = (c.in_ok-seq_first-in-Seq.ensures.closed (nodes_of c.args.tree.now) closed (rw c.in-Seq.is at frame) value, tt)

pub returns-in_err-seq_first-in-Seq-clause-closed : goal.returns-in_err-seq_first-in-Seq-clause-closed
returns-in_err-seq_first-in-Seq-clause-closed c closed frame value =
    let p = err_from_is_err_and c.from_residual-in_err-seq_first-in-Seq.result c.from_residual-in_err-seq_first-in-Seq.ensures.1 in rw (p.1, p.2) (c.in_err-seq_first-in-Seq.ensures.closed (nodes_of c.args.tree.now) closed (rw c.in-Seq.is at frame) value)

pub returns-in-AssignValue-clause-closed : goal.returns-in-AssignValue-clause-closed
returns-in-AssignValue-clause-closed c closed frame value = (stays_closed (nodes_of c.args.tree.now) c.args.state.now closed, (rw c.in-AssignValue.is at frame, value))

pub returns-in-AssignOperand-clause-closed : goal.returns-in-AssignOperand-clause-closed
returns-in-AssignOperand-clause-closed c closed frame value =
    let h = rw c.in-AssignOperand.is at frame in
    c.assign_operand.ensures.closed (nodes_of c.args.tree.now) closed h.0 h.1 value
