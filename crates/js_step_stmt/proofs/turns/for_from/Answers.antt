use Rattle.js_step_stmt.proofs.Choosing.{for_none}
use Rattle.js_names.specs.Patterns.{nodes_of}
use Rattle.js_step_stmt.proofs.turns.for_from.Goals as goal

pub returns-in-None-clause-does : goal.returns-in-None-clause-does
returns-in-None-clause-does c = rw (for_none (nodes_of c.args.tree.now) c.args.first c.args.turn.test c.args.turn.next c.args.turn.body c.args.scope _ c.in-None.ensures) (rw c.requires at (c.first_of.ensures.does (nodes_of c.args.tree.now)))

pub returns-in-None-clause-closed : goal.returns-in-None-clause-closed
returns-in-None-clause-closed c closed scope = c.first_of.ensures.closed (nodes_of c.args.tree.now) closed scope
