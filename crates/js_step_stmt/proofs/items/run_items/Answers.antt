use Rattle.js_step_stmt.proofs.Choosing.{items_some}
use Rattle.js_names.specs.Patterns.{nodes_of}
use Rattle.js_step_stmt.proofs.items.run_items.Goals as goal

pub returns-in_ok-inner-in-Some-clause-does : goal.returns-in_ok-inner-in-Some-clause-does
returns-in_ok-inner-in-Some-clause-does c = rw (items_some _ _ _ c.args.scope (rw c.items_of.ensures at c.in-Some.ensures).0) (rw (c.statement.ensures, c.in_ok-inner-in-Some.ensures) at (c.enter.ensures.many (nodes_of c.args.tree.now)))

pub returns-in_ok-inner-in-Some-clause-closed : goal.returns-in_ok-inner-in-Some-clause-closed
returns-in_ok-inner-in-Some-clause-closed c closed scope = c.enter.ensures.closed (nodes_of c.args.tree.now) closed (rw c.statement.ensures scope) (rw c.in_ok-inner-in-Some.ensures scope)

pub returns-in-None-clause-closed : goal.returns-in-None-clause-closed
returns-in-None-clause-closed c closed scope = c.done.ensures.closed (nodes_of c.args.tree.now) closed
