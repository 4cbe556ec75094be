use Rattle.js_step_expr.proofs.after.after_typeof.Goals as goal

pub returns-clause-closed : goal.returns-clause-closed
returns-clause-closed c nodes closed value = c.give_type.ensures.closed nodes closed value
