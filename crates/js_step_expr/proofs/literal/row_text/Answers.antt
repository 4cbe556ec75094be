use Rattle.js_step_expr.proofs.literal.row_text.Goals as goal

pub returns-clause-closed : goal.returns-clause-closed
returns-clause-closed c nodes closed = c.give.ensures.closed nodes closed tt
