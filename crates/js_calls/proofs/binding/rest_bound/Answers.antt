use Rattle.js_names.specs.Patterns.{nodes_of}
use Rattle.js_calls.proofs.binding.rest_bound.Goals as goal

pub returns-clause-closed : goal.returns-clause-closed
returns-clause-closed c closed scope = c.jump.ensures.closed (nodes_of c.args.tree.now) closed scope
