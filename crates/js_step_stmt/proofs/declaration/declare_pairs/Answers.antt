use Rattle.js_step_stmt.proofs.Choosing.{declare_some}
use Rattle.js_names.specs.Patterns.{nodes_of}
use Rattle.js_step_stmt.proofs.declaration.declare_pairs.Goals as goal

pub returns-in_ok-inner-in-Some-value-clause-does : goal.returns-in_ok-inner-in-Some-value-clause-does
returns-in_ok-inner-in-Some-value-clause-does c = rw (declare_some (nodes_of c.args.tree.now) _ _ _ c.in-Some-value.value c.args.scope (rw c.declarators_of.ensures at c.in-Some.ensures).0 c.in-Some-value.is) (rw (c.statement.ensures, c.in_ok-inner-in-Some-value.ensures) at (c.enter.ensures.many (nodes_of c.args.tree.now)))

pub returns-in_ok-inner-in-Some-value-clause-closed : goal.returns-in_ok-inner-in-Some-value-clause-closed
returns-in_ok-inner-in-Some-value-clause-closed c closed scope = c.enter.ensures.closed (nodes_of c.args.tree.now) closed (rw c.statement.ensures scope) (rw c.in_ok-inner-in-Some-value.ensures scope)

pub returns-in-None-value-clause-closed : goal.returns-in-None-value-clause-closed
returns-in-None-value-clause-closed c closed scope = c.bind_pair.ensures.closed (nodes_of c.args.tree.now) closed scope tt

pub returns-in-None-clause-closed : goal.returns-in-None-clause-closed
returns-in-None-clause-closed c closed scope = c.done.ensures.closed (nodes_of c.args.tree.now) closed
