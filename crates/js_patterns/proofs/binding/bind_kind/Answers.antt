use Rattle.js_names.specs.Patterns.{nodes_of}
use Rattle.js_patterns.proofs.Destructuring.{array_pattern, object_pattern}
use Rattle.js_patterns.proofs.binding.bind_kind.Goals as goal

pub returns-in-BindObject-clause-does : goal.returns-in-BindObject-clause-does
returns-in-BindObject-clause-does c here = object_pattern _ _ _ _ _ _ _ _ _ here c.in-BindObject.is c.bind_object.ensures.does

pub returns-in-BindArray-clause-does : goal.returns-in-BindArray-clause-does
returns-in-BindArray-clause-does c here = array_pattern _ _ _ _ _ _ _ _ _ here c.in-BindArray.is c.bind_array.ensures.does

pub returns-in-BindName-clause-closed : goal.returns-in-BindName-clause-closed
returns-in-BindName-clause-closed c closed value scope = c.bind_name.ensures.closed (nodes_of c.args.tree.now) closed value scope

pub returns-in-BindObject-clause-closed : goal.returns-in-BindObject-clause-closed
returns-in-BindObject-clause-closed c closed value scope = c.bind_object.ensures.closed closed value scope

pub returns-in-BindArray-clause-closed : goal.returns-in-BindArray-clause-closed
returns-in-BindArray-clause-closed c closed value scope = c.bind_array.ensures.closed closed value scope

pub returns-in_default-clause-closed : goal.returns-in_default-clause-closed
returns-in_default-clause-closed c closed value scope = c.done.ensures.closed (nodes_of c.args.tree.now) closed
