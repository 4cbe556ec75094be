use Rattle.js_names.specs.Patterns.{nodes_of}
use Rattle.js_step.proofs.afters.after_frame.Goals as goal

pub returns-in-Give-clause-does : goal.returns-in-Give-clause-does
returns-in-Give-clause-does c = rw c.in-Give.is (c.after_give.ensures.does (nodes_of c.args.tree.now))

pub returns-in-Result-clause-does : goal.returns-in-Result-clause-does
returns-in-Result-clause-does c = rw c.in-Result.is (c.give.ensures.few (nodes_of c.args.tree.now))

pub returns-in-Typeof-clause-does : goal.returns-in-Typeof-clause-does
returns-in-Typeof-clause-does c = rw c.in-Typeof.is (c.after_typeof.ensures.does (nodes_of c.args.tree.now))

pub returns-in-AssignBy-clause-does : goal.returns-in-AssignBy-clause-does
returns-in-AssignBy-clause-does c = rw c.in-AssignBy.is c.after_assign_by.ensures.does

pub returns-in-Instance-clause-does : goal.returns-in-Instance-clause-does
returns-in-Instance-clause-does c = rw c.in-Instance.is (c.after_instance.ensures.does (nodes_of c.args.tree.now))

pub returns-in-Give-clause-closed : goal.returns-in-Give-clause-closed
returns-in-Give-clause-closed c closed frame value = c.after_give.ensures.closed (nodes_of c.args.tree.now) closed value

pub returns-in-Result-clause-closed : goal.returns-in-Result-clause-closed
returns-in-Result-clause-closed c closed frame value = c.give.ensures.closed (nodes_of c.args.tree.now) closed (rw c.in-Result.is at frame)

pub returns-in-Constructed-clause-closed : goal.returns-in-Constructed-clause-closed
returns-in-Constructed-clause-closed c closed frame value = c.after_constructed.ensures.closed (nodes_of c.args.tree.now) closed (rw c.in-Constructed.is at frame) value

pub returns-in-Typeof-clause-closed : goal.returns-in-Typeof-clause-closed
returns-in-Typeof-clause-closed c closed frame value = c.after_typeof.ensures.closed (nodes_of c.args.tree.now) closed value

pub returns-in-Update-clause-closed : goal.returns-in-Update-clause-closed
returns-in-Update-clause-closed c closed frame value = c.after_update.ensures.closed closed (rw c.in-Update.is at frame) value

pub returns-in-AssignBy-clause-closed : goal.returns-in-AssignBy-clause-closed
returns-in-AssignBy-clause-closed c closed frame value = let fit = rw c.in-AssignBy.is at frame in c.after_assign_by.ensures.closed closed fit.0 fit.1 value

pub returns-in-Callee-clause-closed : goal.returns-in-Callee-clause-closed
returns-in-Callee-clause-closed c closed frame value = let fit = rw c.in-Callee.is at frame in c.after_callee.ensures.closed closed fit.0 fit.1 value

pub returns-in-Instance-clause-closed : goal.returns-in-Instance-clause-closed
returns-in-Instance-clause-closed c closed frame value = c.after_instance.ensures.closed (nodes_of c.args.tree.now) closed (rw c.in-Instance.is at frame) value

pub returns-in-AssignInstance-clause-closed : goal.returns-in-AssignInstance-clause-closed
returns-in-AssignInstance-clause-closed c closed frame value = let fit = rw c.in-AssignInstance.is at frame in c.after_assign_instance.ensures.closed closed fit.0 fit.1 value

pub returns-in-PropertyRead-clause-closed : goal.returns-in-PropertyRead-clause-closed
returns-in-PropertyRead-clause-closed c closed frame value = let fit = rw c.in-PropertyRead.is at frame in c.after_property_read.ensures.closed closed fit.0 fit.1 value
