use Rattle.js_names.specs.Patterns.{nodes_of}
use Rattle.js_calls.proofs.assigning.write.Goals as goal

pub returns-in-Open-clause-closed : goal.returns-in-Open-clause-closed
returns-in-Open-clause-closed c closed target value result_value = c.rebind.ensures.closed (nodes_of c.args.tree.now) closed value result_value

pub returns-in-Unready-clause-closed : goal.returns-in-Unready-clause-closed
returns-in-Unready-clause-closed c closed target value result_value = c.refuse.ensures.closed (nodes_of c.args.tree.now) closed

pub returns-in-Fixed-clause-closed : goal.returns-in-Fixed-clause-closed
returns-in-Fixed-clause-closed c closed target value result_value = c.refuse-in-Fixed.ensures.closed (nodes_of c.args.tree.now) closed

pub returns-in-Nowhere-clause-closed : goal.returns-in-Nowhere-clause-closed
returns-in-Nowhere-clause-closed c closed target value result_value = c.refuse-in-Nowhere.ensures.closed (nodes_of c.args.tree.now) closed
