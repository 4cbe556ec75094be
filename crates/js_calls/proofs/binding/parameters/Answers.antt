use Rattle.js_names.specs.Patterns.{nodes_of}
use Rattle.js_calls.proofs.binding.parameters.Goals as goal

pub returns-in-Some-clause-closed : goal.returns-in-Some-clause-closed
returns-in-Some-clause-closed c closed arguments scope = c.parameter.ensures.closed (nodes_of c.args.tree.now) closed arguments scope
