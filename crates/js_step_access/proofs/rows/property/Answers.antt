use Rattle.js_step_access.proofs.rows.property.Goals as goal

pub returns-in-IndexObject-clause-does : goal.returns-in-IndexObject-clause-does
returns-in-IndexObject-clause-does c = rw c.in-IndexObject.is c.key_operand.ensures.does

pub returns-in-IndexObject-clause-closed : goal.returns-in-IndexObject-clause-closed
returns-in-IndexObject-clause-closed c closed frame value = c.key_operand.ensures.closed closed (rw c.in-IndexObject.is at frame) value

pub returns-in_default-clause-closed : goal.returns-in_default-clause-closed
returns-in_default-clause-closed c closed frame value = c.property_part.ensures.closed closed frame value
