use Rattle.js_names.specs.Patterns.{nodes_of}
use Rattle.js_step_stmt.proofs.Leaving.{caught_left}
use Rattle.js_step_stmt.proofs.attempt.caught.Goals as goal

pub returns-in_default : goal.returns-in_default
returns-in_default c = record {
  does = rw (caught_left c.args.bind c.args.handler c.in-Some.handler c.args.scope c.args.outcome c.in-Some.is c.in_default.not-Thrown) (c.give.ensures.many (nodes_of c.args.tree.now));
  closed = λ closed scope outcome. c.give.ensures.closed (nodes_of c.args.tree.now) closed outcome;
}

pub returns-in-None-clause-closed : goal.returns-in-None-clause-closed
returns-in-None-clause-closed c closed scope outcome = c.give-in-None.ensures.closed (nodes_of c.args.tree.now) closed outcome
