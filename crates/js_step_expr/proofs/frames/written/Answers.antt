use Rattle.std.proofs.Common.{arith}
use Rattle.js_machine.proofs.Doing.{allowing}
use Rattle.js_step_expr.proofs.frames.written.Goals as goal

pub returns-in-Ok-clause-does : goal.returns-in-Ok-clause-does
returns-in-Ok-clause-does c nodes p old new h = rw c.in-Ok.is at h

pub returns-in-Err-clause-does : goal.returns-in-Err-clause-does
returns-in-Err-clause-does c nodes p old new h = allowing nodes 2 6 p old new _ (omega arith) (rw c.in-Err.is at h)

pub returns-in-Ok-clause-closed : goal.returns-in-Ok-clause-closed
returns-in-Ok-clause-closed c nodes cells place fit = (place, rw c.in-Ok.is at fit)

pub returns-in-Err-clause-closed : goal.returns-in-Err-clause-closed
returns-in-Err-clause-closed c nodes cells place fit = tt
