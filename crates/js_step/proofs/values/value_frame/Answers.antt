use Rattle.js_step.proofs.values.value_frame.Goals as goal

pub returns-in-Operand-clause-closed : goal.returns-in-Operand-clause-closed
returns-in-Operand-clause-closed c closed frame value = c.operand.ensures.closed closed (rw c.in-Operand.is at frame) value

pub returns-in-Property-clause-closed : goal.returns-in-Property-clause-closed
returns-in-Property-clause-closed c closed frame value = c.property.ensures.closed closed (rw c.in-Property.is at frame) value

pub returns-in-Call-clause-closed : goal.returns-in-Call-clause-closed
returns-in-Call-clause-closed c closed frame value = c.call_frame.ensures.closed closed (rw c.in-Call.is at frame) value

pub returns-in-Literal-clause-closed : goal.returns-in-Literal-clause-closed
returns-in-Literal-clause-closed c closed frame value = c.literal_end.ensures.closed closed (rw c.in-Literal.is at frame) value

pub returns-in-Statement-clause-closed : goal.returns-in-Statement-clause-closed
returns-in-Statement-clause-closed c closed frame value = c.statement_frame.ensures.closed closed (rw c.in-Statement.is at frame) value

pub returns-in-Pattern-clause-closed : goal.returns-in-Pattern-clause-closed
returns-in-Pattern-clause-closed c closed frame value = c.pattern_frame.ensures.closed closed (rw c.in-Pattern.is at frame) value
