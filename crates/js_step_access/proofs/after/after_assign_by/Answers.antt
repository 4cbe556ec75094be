use Rattle.js_names.specs.Patterns.{nodes_of}
use Rattle.js_step_access.proofs.after.after_assign_by.Goals as goal

pub returns-in-InstanceOf-clause-does : goal.returns-in-InstanceOf-clause-does
returns-in-InstanceOf-clause-does c = c.enter_assigned.ensures.does (nodes_of c.args.tree.now)

pub returns-in-InstanceOf-clause-closed : goal.returns-in-InstanceOf-clause-closed
returns-in-InstanceOf-clause-closed c closed place scope old = c.enter_assigned.ensures.closed (nodes_of c.args.tree.now) closed place scope old

pub returns-in_default-clause-closed : goal.returns-in_default-clause-closed
returns-in_default-clause-closed c closed place scope old = c.assign_by.ensures.closed closed place scope old
