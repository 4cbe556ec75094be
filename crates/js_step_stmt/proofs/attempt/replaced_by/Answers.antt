use Rattle.js_step_stmt.proofs.Leaving.{replaced_left}
use Rattle.js_step_stmt.proofs.attempt.replaced_by.Goals as goal

pub returns-in-Normal-clause-closed : goal.returns-in-Normal-clause-closed
returns-in-Normal-clause-closed c nodes closed before outcome = c.give.ensures.closed nodes closed before

pub returns-in_default : goal.returns-in_default
returns-in_default c = record {
  does = λ nodes. rw (replaced_left c.args.before c.args.outcome c.in_default.not-Normal) (c.give-in_default.ensures.many nodes);
  closed = λ nodes closed before outcome. c.give-in_default.ensures.closed nodes closed outcome;
}
