use Rattle.js_step_expr.proofs.choice.seq_first.Goals as goal

pub returns-clause-closed : goal.returns-clause-closed
returns-clause-closed c nodes closed scope first = c.pass.ensures.closed nodes closed scope
