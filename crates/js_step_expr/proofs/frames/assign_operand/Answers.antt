use Rattle.js_semantics.specs.Prog.{give}
use Rattle.js_machine.specs.Frames.{write_place}
use Rattle.js_step_expr.proofs.Applied.{moves_instance}
use Rattle.js_machine.proofs.Closing.{stays_closed}
use Rattle.js_step_expr.proofs.frames.assign_operand.Goals as goal

pub returns-in-InstanceOf-clause-does : goal.returns-in-InstanceOf-clause-does
returns-in-InstanceOf-clause-does c nodes = rw c.in-InstanceOf.is (moves_instance nodes c.args.old c.args.value (λ v. write_place nodes c.args.place v (give v)) c.args.state.now)

pub returns-in-InstanceOf-clause-closed : goal.returns-in-InstanceOf-clause-closed
returns-in-InstanceOf-clause-closed c nodes closed was place value = (stays_closed nodes c.args.state.now closed, (was, value, place))

pub returns-in_default-clause-closed : goal.returns-in_default-clause-closed
returns-in_default-clause-closed c nodes closed was place value = c.assigned.ensures.closed nodes closed was place value
