use Rattle.js_step_block.proofs.Made.{fill_other}
use Rattle.js_machine.proofs.Closing.{stays_closed}
use Rattle.js_step_block.proofs.filling.fill_node.Goals as goal

pub returns-in-FunDecl-clause-does : goal.returns-in-FunDecl-clause-does
returns-in-FunDecl-clause-does c nodes = rw c.in-FunDecl.is (c.fill_declared.ensures.does nodes)

pub returns-in_default-clause-does : goal.returns-in_default-clause-does
returns-in_default-clause-does c nodes = fill_other nodes c.args.node.now c.args.item c.args.env c.args.state.now c.in_default.not-FunDecl

pub returns-in-FunDecl-clause-closed : goal.returns-in-FunDecl-clause-closed
returns-in-FunDecl-clause-closed c nodes closed env = c.fill_declared.ensures.closed nodes closed env

pub returns-in_default-clause-closed : goal.returns-in_default-clause-closed
returns-in_default-clause-closed c nodes closed env = stays_closed nodes c.args.state.now closed
