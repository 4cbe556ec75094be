use Rattle.js_semantics.specs.Statements.{row_return}
use Rattle.js_step_stmt.proofs.simple.row_return.Goals as goal

pub returns-in-Some-clause-does : goal.returns-in-Some-clause-does
unfolding row_return
returns-in-Some-clause-does c nodes = rw c.in-Some.is (rw c.statement.ensures at (c.enter.ensures.many nodes))

pub returns-in-Some-clause-closed : goal.returns-in-Some-clause-closed
returns-in-Some-clause-closed c nodes closed scope = c.enter.ensures.closed nodes closed (rw c.statement.ensures tt) scope

pub returns-in-None-clause-closed : goal.returns-in-None-clause-closed
returns-in-None-clause-closed c nodes closed scope = c.give.ensures.closed nodes closed tt
