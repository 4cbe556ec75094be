use Rattle.js_names.specs.Patterns.{nodes_of}
use Rattle.js_step_object.proofs.member.property_value.Goals as goal

pub returns-in-Ok-clause-does : goal.returns-in-Ok-clause-does
returns-in-Ok-clause-does c = rw c.in-Ok.ensures at (c.define_value.ensures.does (nodes_of c.args.tree.now))

pub returns-in-Ok-clause-closed : goal.returns-in-Ok-clause-closed
returns-in-Ok-clause-closed c closed fit =
    c.define_value.ensures.closed (nodes_of c.args.tree.now) closed fit

pub returns-in-Err-clause-closed : goal.returns-in-Err-clause-closed
returns-in-Err-clause-closed c closed fit =
    c.in-Err.ensures
