use Rattle.js_step_expr.proofs.choice.and_left.Goals as goal

pub returns-clause-does : goal.returns-clause-does
returns-clause-does c nodes = rw (← c.is_truthy.ensures, c.if-not-is_truthy.false) (c.pass.ensures.does nodes)

pub returns-then-not-is_truthy-clause-closed : goal.returns-then-not-is_truthy-clause-closed
returns-then-not-is_truthy-clause-closed c nodes closed scope left = c.give.ensures.closed nodes closed left

pub returns-clause-closed : goal.returns-clause-closed
returns-clause-closed c nodes closed scope left = c.pass.ensures.closed nodes closed scope
