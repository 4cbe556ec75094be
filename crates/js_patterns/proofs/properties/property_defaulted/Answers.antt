use Rattle.js_names.specs.Patterns.{nodes_of}
use Rattle.js_patterns.proofs.properties.property_defaulted.Goals as goal

pub returns-in-Some-clause-closed : goal.returns-in-Some-clause-closed
returns-in-Some-clause-closed c closed of scope value = c.bind_property.ensures.closed (nodes_of c.args.tree.now) closed of scope value

pub returns-in-None-clause-closed : goal.returns-in-None-clause-closed
returns-in-None-clause-closed c closed of scope value = c.done.ensures.closed (nodes_of c.args.tree.now) closed
