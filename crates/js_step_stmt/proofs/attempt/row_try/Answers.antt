use Rattle.js_semantics.specs.Statements.{row_try}
use Rattle.js_step_stmt.proofs.attempt.row_try.Goals as goal

pub returns-clause-does : goal.returns-clause-does
unfolding row_try
returns-clause-does c nodes = rw (c.in_ok-inner.ensures, c.in_ok-around.ensures) at (c.enter_under.ensures.does nodes)

pub returns-clause-closed : goal.returns-clause-closed
returns-clause-closed c nodes closed scope = c.enter_under.ensures.closed nodes closed (rw c.in_ok-around.ensures scope) scope (rw c.in_ok-inner.ensures scope)
