use Rattle.js_step_expr.proofs.Applied.{moves_nowhere}
use Rattle.std.proofs.lemmas.Result.{err_from_is_err_and}
use Rattle.js_machine.proofs.Closing.{stays_closed}
use Rattle.js_step_expr.proofs.properties.used.Goals as goal

pub returns-in_ok-enter_operand-in-Assign-clause-does : goal.returns-in_ok-enter_operand-in-Assign-clause-does
returns-in_ok-enter_operand-in-Assign-clause-does c nodes = rw c.in-Assign.is (c.in_ok-enter_operand-in-Assign.ensures.does nodes)

pub returns-in_default-clause-does : goal.returns-in_default-clause-does
returns-in_default-clause-does c nodes = moves_nowhere nodes _ _

pub returns-in_ok-enter_operand-in-Assign-clause-closed : goal.returns-in_ok-enter_operand-in-Assign-clause-closed
returns-in_ok-enter_operand-in-Assign-clause-closed c nodes closed base key scope = (c.in_ok-enter_operand-in-Assign.ensures.closed nodes closed (base, key) scope, tt)

pub returns-in_err-enter_operand-in-Assign-clause-closed : goal.returns-in_err-enter_operand-in-Assign-clause-closed
returns-in_err-enter_operand-in-Assign-clause-closed c nodes closed base key scope =
    let p = err_from_is_err_and c.from_residual.result c.from_residual.ensures.1 in rw (p.1, p.2) (c.in_err-enter_operand-in-Assign.ensures.closed nodes closed (base, key) scope)

pub returns-in_default-clause-closed : goal.returns-in_default-clause-closed
returns-in_default-clause-closed c nodes closed base key scope = (stays_closed nodes c.args.state.now closed, (base, key, scope))
