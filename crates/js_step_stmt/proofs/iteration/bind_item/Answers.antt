use Rattle.js_step_stmt.proofs.Looping.{does_of_ok}
use Rattle.js_step_stmt.proofs.iteration.bind_item.Goals as goal

pub returns-clause-does : goal.returns-clause-does
returns-clause-does c nodes = does_of_ok nodes 6 c.args.walk.constant c.args.walk.bind c.args.walk.body c.args.walk.array c.args.place c.args.item c.args.turn c.args.around _ _ _ (rw (c.statement.ensures, c.in_ok-inner.ensures) at (c.bind.ensures.many nodes))

pub returns-clause-closed : goal.returns-clause-closed
returns-clause-closed c nodes closed array item turn around = c.bind.ensures.closed nodes closed (rw c.statement.ensures (array, turn, around)) item (rw c.in_ok-inner.ensures turn)
