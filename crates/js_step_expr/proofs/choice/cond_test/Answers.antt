use Rattle.js_step_expr.proofs.choice.cond_test.Goals as goal

pub returns-clause-does : goal.returns-clause-does
returns-clause-does c nodes = rw (c.chosen-node.ensures) at (c.pass.ensures.does nodes)

pub returns-clause-closed : goal.returns-clause-closed
returns-clause-closed c nodes closed scope test = c.pass.ensures.closed nodes closed scope
