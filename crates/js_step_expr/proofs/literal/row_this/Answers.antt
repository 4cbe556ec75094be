use Rattle.js_step_expr.proofs.literal.row_this.Goals as goal

pub returns-clause-closed : goal.returns-clause-closed
returns-clause-closed c nodes closed scope = c.give.ensures.closed nodes closed scope.1
