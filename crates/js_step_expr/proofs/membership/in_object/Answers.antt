use Rattle.std.proofs.Common.{Some}
use Rattle.js_semantics.specs.World.{over}
use Rattle.js_semantics.specs.Operators.{key_of}
use Rattle.js_step_expr.proofs.Applied.{has_no_key}
use Rattle.js_step_expr.proofs.membership.in_object.Goals as goal

pub returns-in-Str-clause-is : goal.returns-in-Str-clause-is
unfolding key_of
returns-in-Str-clause-is c w k = rw c.in-Str.is (c.has_key.ensures.is w k)

pub returns-in-None-clause-is : goal.returns-in-None-clause-is
returns-in-None-clause-is c w k = rw (← c.in_ok-text-in_default.ensures, c.in-None.is) (has_no_key (Some c.args.loc) (over c.args.heap.now w) k)

pub returns-in-Str-clause-closed : goal.returns-in-Str-clause-closed
returns-in-Str-clause-closed c = c.has_key.ensures.closed

pub returns-in-Some-clause-closed : goal.returns-in-Some-clause-closed
returns-in-Some-clause-closed c = c.has_key-in-Some.ensures.closed

pub returns-in-None-clause-closed : goal.returns-in-None-clause-closed
returns-in-None-clause-closed c = tt
