use Rattle.js_step_expr.proofs.template.give_text.Goals as goal

pub returns-in-Ok-clause-closed : goal.returns-in-Ok-clause-closed
returns-in-Ok-clause-closed c nodes closed = c.finish.ensures.closed nodes closed tt

pub returns-in-Err-TooLong-clause-closed : goal.returns-in-Err-TooLong-clause-closed
returns-in-Err-TooLong-clause-closed c nodes closed = c.throw.ensures.closed nodes closed
