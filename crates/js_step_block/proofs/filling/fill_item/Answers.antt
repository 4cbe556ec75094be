use Rattle.js_names.specs.Patterns.{nodes_of}
use Rattle.js_machine.proofs.Doing.{moves_still}
use Rattle.js_machine.proofs.Closing.{stays_closed}
use Rattle.js_step_block.proofs.filling.fill_item.Goals as goal

pub returns-in-Some-clause-does : goal.returns-in-Some-clause-does
returns-in-Some-clause-does c = rw c.in-Some.ensures (c.fill_node.ensures.does (nodes_of c.args.tree.now))

pub returns-in-None-clause-does : goal.returns-in-None-clause-does
returns-in-None-clause-does c p = rw c.in-None.ensures (moves_still (nodes_of c.args.tree.now) p c.args.state.now)

pub returns-in-Some-clause-closed : goal.returns-in-Some-clause-closed
returns-in-Some-clause-closed c closed env = c.fill_node.ensures.closed (nodes_of c.args.tree.now) closed env

pub returns-in-None-clause-closed : goal.returns-in-None-clause-closed
returns-in-None-clause-closed c closed env = stays_closed (nodes_of c.args.tree.now) c.args.state.now closed
