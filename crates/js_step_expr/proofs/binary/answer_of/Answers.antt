use Rattle.js_machine.specs.Does.{world_of}
use Rattle.js_step_expr.proofs.Applied.{moves_other, moves_in, moves_equal, moves_unequal}
use Rattle.std.proofs.lemmas.Result.{err_from_is_err_and}
use Rattle.js_step_expr.proofs.Numbers.{operands_answer}
use Rattle.js_step_expr.proofs.binary.answer_of.Goals as goal

pub returns-in_ok-membership-in-In-clause-is : goal.returns-in_ok-membership-in-In-clause-is
returns-in_ok-membership-in-In-clause-is c nodes k = rw c.in-In.is (moves_in nodes _ _ _ k _ (λ supply. c.in_ok-membership-in-In.ensures.is (world_of nodes supply c.args.state.now) k))

pub returns-in-StrictEqual-clause-is : goal.returns-in-StrictEqual-clause-is
returns-in-StrictEqual-clause-is c nodes k = rw c.in-StrictEqual.is (moves_equal nodes _ _ _ k _ c.strictly_equal.ensures)

pub returns-in-StrictNotEqual-clause-is : goal.returns-in-StrictNotEqual-clause-is
returns-in-StrictNotEqual-clause-is c nodes k = rw c.in-StrictNotEqual.is (moves_unequal nodes _ _ _ k _ c.strictly_equal-in-StrictNotEqual.ensures)

pub returns-in_ok-of_operands-in_default-clause-is : goal.returns-in_ok-of_operands-in_default-clause-is
returns-in_ok-of_operands-in_default-clause-is c nodes k = moves_other nodes c.args.operator c.args.left.now c.args.right.now _ k _ c.requires c.in_default.not-In c.in_default.not-StrictEqual c.in_default.not-StrictNotEqual c.in_ok-of_operands-in_default.ensures

pub returns-in_ok-membership-in-In-clause-closed : goal.returns-in_ok-membership-in-In-clause-closed
returns-in_ok-membership-in-In-clause-closed c left right = c.in_ok-membership-in-In.ensures.closed right

pub returns-in_err-membership-in-In-clause-closed : goal.returns-in_err-membership-in-In-clause-closed
returns-in_err-membership-in-In-clause-closed c left right =
    let p = err_from_is_err_and c.from_residual.result c.from_residual.ensures.1 in rw (p.1, p.2) (c.in_err-membership-in-In.ensures.closed right)

pub returns-in-StrictEqual-clause-closed : goal.returns-in-StrictEqual-clause-closed
returns-in-StrictEqual-clause-closed c left right = tt

pub returns-in-StrictNotEqual-clause-closed : goal.returns-in-StrictNotEqual-clause-closed
returns-in-StrictNotEqual-clause-closed c left right = tt

pub returns-in_ok-of_operands-in_default-clause-closed : goal.returns-in_ok-of_operands-in_default-clause-closed
returns-in_ok-of_operands-in_default-clause-closed c left right = operands_answer c.args.state.now.heap.cells c.args.operator c.args.left.now c.args.right.now _ c.in_ok-of_operands-in_default.ensures
