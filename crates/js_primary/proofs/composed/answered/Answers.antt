use Rattle.js_semantics.specs.Expressions.{compute}
use Rattle.js_step_expr.proofs.Applied.{moves_equal, moves_unequal}
use Rattle.js_primary.proofs.composed.answered.Goals as goal

pub returns-in-StrictEqual-clause-is : goal.returns-in-StrictEqual-clause-is
unfolding compute
returns-in-StrictEqual-clause-is c nodes k = rw c.in-StrictEqual.is (moves_equal nodes _ _ _ k _ c.strictly_equal.ensures)

pub returns-in-StrictNotEqual-clause-is : goal.returns-in-StrictNotEqual-clause-is
unfolding compute
returns-in-StrictNotEqual-clause-is c nodes k = rw c.in-StrictNotEqual.is (moves_unequal nodes _ _ _ k _ c.strictly_equal-in-StrictNotEqual.ensures)
