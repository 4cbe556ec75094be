use Rattle.js_step_expr.proofs.choice.nullish_left.Goals as goal

pub returns-in-Undefined-clause-does : goal.returns-in-Undefined-clause-does
returns-in-Undefined-clause-does c nodes = rw c.in-Undefined.is (c.pass.ensures.does nodes)

pub returns-in-Null-clause-does : goal.returns-in-Null-clause-does
returns-in-Null-clause-does c nodes = rw c.in-Null.is (c.pass-in-Null.ensures.does nodes)

pub returns-in-Undefined-clause-closed : goal.returns-in-Undefined-clause-closed
returns-in-Undefined-clause-closed c nodes closed scope left = c.pass.ensures.closed nodes closed scope

pub returns-in-Null-clause-closed : goal.returns-in-Null-clause-closed
returns-in-Null-clause-closed c nodes closed scope left = c.pass-in-Null.ensures.closed nodes closed scope

pub returns-in_default-clause-closed : goal.returns-in_default-clause-closed
returns-in_default-clause-closed c nodes closed scope left = c.give.ensures.closed nodes closed left
