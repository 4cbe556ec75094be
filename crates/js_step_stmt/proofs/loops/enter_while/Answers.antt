use Rattle.js_step_stmt.proofs.Looping.{does_while_ok}
use Rattle.js_step_stmt.proofs.loops.enter_while.Goals as goal

pub returns-clause-does : goal.returns-clause-does
returns-clause-does c nodes = does_while_ok nodes 6 c.args.test c.args.body c.args.scope _ _ _ (rw (c.statement.ensures, c.in_ok-inner.ensures) at (c.enter.ensures.many nodes))

pub returns-clause-closed : goal.returns-clause-closed
returns-clause-closed c nodes closed scope = c.enter.ensures.closed nodes closed (rw c.statement.ensures scope) (rw c.in_ok-inner.ensures scope)
