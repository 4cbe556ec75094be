use Rattle.js_names.specs.Patterns.{nodes_of}
use Rattle.js_calls.proofs.setting.settle.Goals as goal

pub returns-in-Done-clause-closed : goal.returns-in-Done-clause-closed
returns-in-Done-clause-closed c closed loc value result_value = c.give.ensures.closed (nodes_of c.args.tree.now) closed result_value

pub returns-in-Refused-clause-closed : goal.returns-in-Refused-clause-closed
returns-in-Refused-clause-closed c closed loc value result_value = c.throw.ensures.closed (nodes_of c.args.tree.now) closed
