use Rattle.js_step_stmt.proofs.Looping.{does_do_ok}
use Rattle.js_step_stmt.proofs.loops.enter_do.Goals as goal

pub returns-clause-does : goal.returns-clause-does
returns-clause-does c nodes = does_do_ok nodes 6 c.args.body c.args.test c.args.scope _ _ _ (rw c.in_ok-inner.ensures at (c.enter.ensures.many nodes))

pub returns-clause-closed : goal.returns-clause-closed
returns-clause-closed c nodes closed scope = c.enter.ensures.closed nodes closed scope (rw c.in_ok-inner.ensures scope)
