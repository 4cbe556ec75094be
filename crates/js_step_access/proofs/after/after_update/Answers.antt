use Rattle.std.proofs.Common.{sym, subst, to_z-of_z}
use Rattle.world_heap.specs.Over.{IsSafe}
use Rattle.js_step_access.proofs.Fitting.{wide}
use Rattle.js_names.specs.Patterns.{nodes_of}
use Rattle.js_step_access.proofs.after.after_update.Goals as goal

pub returns-in-Num-clause-closed : goal.returns-in-Num-clause-closed
returns-in-Num-clause-closed c closed place old = let fit = rw c.in-Num.is at old in c.update.ensures.closed closed place (subst IsSafe (sym (to_z-of_z (wide c.in-Num.number fit))) fit)

pub returns-in_default-clause-closed : goal.returns-in_default-clause-closed
returns-in_default-clause-closed c closed place old = c.throw.ensures.closed (nodes_of c.args.tree.now) closed
