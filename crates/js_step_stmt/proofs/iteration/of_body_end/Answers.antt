use Rattle.js_names.specs.Patterns.{nodes_of}
use Rattle.js_step_stmt.proofs.iteration.of_body_end.Goals as goal

pub returns-in-Break-clause-closed : goal.returns-in-Break-clause-closed
returns-in-Break-clause-closed c closed array around outcome = c.done.ensures.closed (nodes_of c.args.tree.now) closed

pub returns-in-Return-clause-closed : goal.returns-in-Return-clause-closed
returns-in-Return-clause-closed c closed array around outcome = c.give.ensures.closed (nodes_of c.args.tree.now) closed (rw c.in-Return.is at outcome)

pub returns-in-Thrown-clause-closed : goal.returns-in-Thrown-clause-closed
returns-in-Thrown-clause-closed c closed array around outcome = c.give-in-Thrown.ensures.closed (nodes_of c.args.tree.now) closed (rw c.in-Thrown.is at outcome)
