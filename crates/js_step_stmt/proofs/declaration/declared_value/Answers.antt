use Rattle.js_names.specs.Patterns.{nodes_of}
use Rattle.js_step_stmt.proofs.declaration.declared_value.Goals as goal

pub returns-in-Some-clause-closed : goal.returns-in-Some-clause-closed
returns-in-Some-clause-closed c closed scope value = c.bind_pair.ensures.closed (nodes_of c.args.tree.now) closed scope value

pub returns-in-None-clause-closed : goal.returns-in-None-clause-closed
returns-in-None-clause-closed c closed scope value = c.done.ensures.closed (nodes_of c.args.tree.now) closed
