use Rattle.std.proofs.Common.{sym, subst, to_z-of_z}
use Rattle.world_heap.specs.Over.{IsSafe}
use Rattle.std.proofs.lemmas.Result.{err_from_is_err_and}
use Rattle.js_step_access.proofs.Fitting.{chosen_fits}
use Rattle.js_step_access.proofs.after.write_update.Goals as goal

pub returns-in_err-value-clause-closed : goal.returns-in_err-value-clause-closed
returns-in_err-value-clause-closed c closed place changed number =
    let p = err_from_is_err_and c.from_residual.result c.from_residual.ensures.1 in rw (p.1, p.2) c.in_err-value.ensures

pub returns-clause-closed : goal.returns-clause-closed
returns-clause-closed c closed place changed number = c.write_place.ensures.closed closed place changed (rw c.in_ok-value.ensures (chosen_fits c.args.state.now.heap.cells c.args.before _ _ changed (subst IsSafe (sym (to_z-of_z c.ranges.number)) number)))
