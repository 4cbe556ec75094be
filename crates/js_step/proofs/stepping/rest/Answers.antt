use Rattle.std.proofs.Common.{refl}
use Rattle.js_machine.proofs.Closing.{closed_control}
use Rattle.js_machine.specs.declared.state.Control.TheVariants.{Wait}
use Rattle.js_machine.proofs.Stepping.{rested}
use Rattle.js_step.proofs.stepping.rest.Goals as goal

pub returns-clause-does : goal.returns-clause-does
returns-clause-does c nodes = rested nodes _ _ c.args.mode refl c.turn_to.ensures

pub returns-clause-closed : goal.returns-clause-closed
returns-clause-closed c nodes closed = rw c.turn_to.ensures (closed_control nodes c.args.state.now (Wait c.args.mode) closed tt)
