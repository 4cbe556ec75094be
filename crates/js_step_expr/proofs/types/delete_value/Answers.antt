use Rattle.js_step_expr.proofs.types.delete_value.Goals as goal

pub returns-clause-closed : goal.returns-clause-closed
returns-clause-closed c nodes closed value = c.give.ensures.closed nodes closed tt
