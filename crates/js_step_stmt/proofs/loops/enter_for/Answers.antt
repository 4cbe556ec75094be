use Rattle.js_step_stmt.proofs.Looping.{does_for_some_ok, does_for_none_ok}
use Rattle.js_step_stmt.proofs.loops.enter_for.Goals as goal

pub returns-in-Some-clause-does : goal.returns-in-Some-clause-does
returns-in-Some-clause-does c nodes = does_for_some_ok nodes 6 c.args.turn.copied c.args.turn.test c.args.turn.next c.args.turn.body c.in-Some.test c.args.scope _ _ _ c.in-Some.is (rw (c.statement.ensures, c.in_ok-inner.ensures) at (c.enter.ensures.many nodes))

pub returns-in-None-clause-does : goal.returns-in-None-clause-does
returns-in-None-clause-does c nodes = does_for_none_ok nodes 6 c.args.turn.copied c.args.turn.test c.args.turn.next c.args.turn.body c.args.scope _ _ _ c.in-None.is (rw c.in_ok-inner.ensures at (c.enter-in-None.ensures.many nodes))

pub returns-in-Some-clause-closed : goal.returns-in-Some-clause-closed
returns-in-Some-clause-closed c nodes closed scope = c.enter.ensures.closed nodes closed (rw c.statement.ensures scope) (rw c.in_ok-inner.ensures scope)

pub returns-in-None-clause-closed : goal.returns-in-None-clause-closed
returns-in-None-clause-closed c nodes closed scope = c.enter-in-None.ensures.closed nodes closed scope (rw c.in_ok-inner.ensures scope)
