use Rattle.js_names.specs.Patterns.{nodes_of}
use Rattle.js_patterns.proofs.properties.bind_object.Goals as goal

pub returns-then-is_nullish-clause-closed : goal.returns-then-is_nullish-clause-closed
returns-then-is_nullish-clause-closed c closed value scope = c.throw.ensures.closed (nodes_of c.args.tree.now) closed

pub returns-clause-closed : goal.returns-clause-closed
returns-clause-closed c closed value scope = c.bind_properties.ensures.closed closed value scope
