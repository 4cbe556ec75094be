use Rattle.js_step_access.proofs.rows.operand.Goals as goal

pub returns-in-BinaryLeft-clause-does : goal.returns-in-BinaryLeft-clause-does
returns-in-BinaryLeft-clause-does c = rw c.in-BinaryLeft.is c.right_operand.ensures.does

pub returns-in-AssignValue-clause-does : goal.returns-in-AssignValue-clause-does
returns-in-AssignValue-clause-does c = rw c.in-AssignValue.is c.assign_place.ensures.many

pub returns-in-BinaryLeft-clause-closed : goal.returns-in-BinaryLeft-clause-closed
returns-in-BinaryLeft-clause-closed c closed frame value = c.right_operand.ensures.closed closed (rw c.in-BinaryLeft.is at frame) value

pub returns-in-AssignValue-clause-closed : goal.returns-in-AssignValue-clause-closed
returns-in-AssignValue-clause-closed c closed frame value = c.assign_place.ensures.closed closed (rw c.in-AssignValue.is at frame) value

pub returns-in_default-clause-closed : goal.returns-in_default-clause-closed
returns-in_default-clause-closed c closed frame value = c.operand_part.ensures.closed closed frame value
