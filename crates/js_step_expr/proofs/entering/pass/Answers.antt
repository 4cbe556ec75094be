use Rattle.js_machine.proofs.Doing.{passed}
use Rattle.js_step_expr.proofs.entering.pass.Goals as goal

pub returns-clause-does : goal.returns-clause-does
returns-clause-does c nodes = rw passed (c.jump.ensures.many nodes)

pub returns-clause-closed : goal.returns-clause-closed
returns-clause-closed c nodes closed scope = c.jump.ensures.closed nodes closed scope
