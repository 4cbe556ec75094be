use Rattle.js_step_stmt.proofs.Leaving.{script_left}
use Rattle.js_step_stmt.proofs.script.script_end.Goals as goal

pub returns : goal.returns
returns c = record {
  does = λ nodes. rw (script_left nodes c.args.outcome c.in_default.not-Thrown) (c.rested.ensures.does nodes);
  closed = λ nodes closed outcome. c.rested.ensures.closed nodes closed;
}

pub returns-in-Thrown-clause-closed : goal.returns-in-Thrown-clause-closed
returns-in-Thrown-clause-closed c nodes closed outcome = c.uncaught.ensures.closed nodes closed (rw c.in-Thrown.is at outcome)
