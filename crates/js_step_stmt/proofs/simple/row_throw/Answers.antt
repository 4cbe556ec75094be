use Rattle.js_semantics.specs.Statements.{row_throw}
use Rattle.js_step_stmt.proofs.simple.row_throw.Goals as goal

pub returns-clause-does : goal.returns-clause-does
unfolding row_throw
returns-clause-does c nodes = rw c.statement.ensures at (c.enter.ensures.many nodes)

pub returns-clause-closed : goal.returns-clause-closed
returns-clause-closed c nodes closed scope = c.enter.ensures.closed nodes closed (rw c.statement.ensures tt) scope
