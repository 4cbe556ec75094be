use Rattle.js_semantics.specs.World.{over}
use Rattle.js_semantics.specs.Operators.{key_of}
use Rattle.js_step_expr.proofs.Applied.{has_key_nowhere}
use Rattle.std.proofs.lemmas.Result.{err_from_is_err_and}
use Rattle.js_step_expr.proofs.membership.membership.Goals as goal

pub returns-in-None-clause-is : goal.returns-in-None-clause-is
returns-in-None-clause-is c w k = rw (← c.in_ok-loc.ensures.is w, c.in-None.is) (has_key_nowhere (key_of c.args.key.now) (over c.args.heap.now w) k)

pub returns-in_err-loc-clause-closed : goal.returns-in_err-loc-clause-closed
returns-in_err-loc-clause-closed c fit =
    let p = err_from_is_err_and c.from_residual.result c.from_residual.ensures.1 in rw (p.1, p.2) (c.in_err-loc.ensures.closed fit)

pub returns-in-Some-clause-closed : goal.returns-in-Some-clause-closed
returns-in-Some-clause-closed c fit = c.in_object.ensures.closed

pub returns-in-None-clause-closed : goal.returns-in-None-clause-closed
returns-in-None-clause-closed c fit = tt
