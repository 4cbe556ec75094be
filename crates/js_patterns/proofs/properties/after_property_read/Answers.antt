use Rattle.js_names.specs.Patterns.{nodes_of}
use Rattle.js_patterns.proofs.properties.after_property_read.Goals as goal

pub returns-in-Some-clause-closed : goal.returns-in-Some-clause-closed
returns-in-Some-clause-closed c closed of scope value = c.bind_or_default.ensures.closed (nodes_of c.args.tree.now) closed of scope value

pub returns-in-None-clause-closed : goal.returns-in-None-clause-closed
returns-in-None-clause-closed c closed of scope value = c.give.ensures.closed (nodes_of c.args.tree.now) closed tt
