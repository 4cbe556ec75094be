use Rattle.js_semantics.specs.Prog.{give}
use Rattle.js_step_expr.proofs.Applied.{moves_instance}
use Rattle.js_machine.proofs.Closing.{stays_closed}
use Rattle.std.proofs.lemmas.Result.{err_from_is_err_and}
use Rattle.js_step_expr.proofs.frames.both_operands.Goals as goal

pub returns-in-InstanceOf-clause-does : goal.returns-in-InstanceOf-clause-does
returns-in-InstanceOf-clause-does c nodes = rw c.in-InstanceOf.is (moves_instance nodes c.args.left c.args.right (λ v. give v) c.args.state.now)

pub returns-in-InstanceOf-clause-closed : goal.returns-in-InstanceOf-clause-closed
returns-in-InstanceOf-clause-closed c nodes closed left right = (stays_closed nodes c.args.state.now closed, (left, right, tt))

pub returns-in_ok-binary_right-in_default-clause-closed : goal.returns-in_ok-binary_right-in_default-clause-closed
returns-in_ok-binary_right-in_default-clause-closed c nodes closed left right = (c.in_ok-binary_right-in_default.ensures.closed nodes closed left right, tt)

pub returns-in_err-binary_right-in_default-clause-closed : goal.returns-in_err-binary_right-in_default-clause-closed
returns-in_err-binary_right-in_default-clause-closed c nodes closed left right =
    let p = err_from_is_err_and c.from_residual.result c.from_residual.ensures.1 in rw (p.1, p.2) (c.in_err-binary_right-in_default.ensures.closed nodes closed left right)
