use Rattle.js_step_expr.proofs.choice.or_left.Goals as goal

pub returns-else-is_truthy-clause-does : goal.returns-else-is_truthy-clause-does
returns-else-is_truthy-clause-does c nodes = rw (← c.is_truthy.ensures, c.if-is_truthy.false) (c.pass.ensures.does nodes)

pub returns-then-is_truthy-clause-closed : goal.returns-then-is_truthy-clause-closed
returns-then-is_truthy-clause-closed c nodes closed scope left = c.give.ensures.closed nodes closed left

pub returns-else-is_truthy-clause-closed : goal.returns-else-is_truthy-clause-closed
returns-else-is_truthy-clause-closed c nodes closed scope left = c.pass.ensures.closed nodes closed scope
