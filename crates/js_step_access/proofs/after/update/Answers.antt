use Rattle.std.proofs.Common.{sym, subst, to_z-of_z}
use Rattle.std.specs.Prelude.{ℕ, if◌then◌else◌}
use Rattle.world_heap.specs.Over.{IsSafe}
use Rattle.world_heap.specs.declared.value.Value.{Value}
use Rattle.world_heap.specs.declared.value.Value.TheVariants.{Num}
use Rattle.js_names.specs.Patterns.{nodes_of}
use Rattle.js_semantics.specs.Prog.{Prog, give}
use Rattle.js_semantics.specs.Expressions.{moved_by}
use Rattle.js_machine.specs.Frames.{write_place}
use Rattle.js_step_access.proofs.Joining.{computed_ended, computed_ok}
use Rattle.std.proofs.lemmas.Result.{err_from_is_err_and}
use Rattle.js_machine.proofs.Closing.{lasts_on, place_fits_grown}
use Rattle.js_step_access.proofs.Fitting.{whole_fits}
use Rattle.js_step_access.proofs.after.update.Goals as goal

pub returns-in-Ok-clause-does : goal.returns-in-Ok-clause-does
returns-in-Ok-clause-does c =
    let nodes = nodes_of c.args.tree.now in
    let k : Value ℕ → Prog ℕ = λ new. write_place nodes c.args.place new (give (if c.args.before then new else Num c.args.number)) in
    computed_ok nodes _ _ k _ _ _ _ _ _ (rw (to_z-of_z c.ranges.number) at c.moved-answer.ensures) c.in-Ok.is (c.in_ok-changed.ensures.does nodes k) (rw (to_z-of_z c.ranges.number) at c.write_update.ensures.does)

pub returns-in-Err-clause-does : goal.returns-in-Err-clause-does
returns-in-Err-clause-does c =
    let nodes = nodes_of c.args.tree.now in
    let k : Value ℕ → Prog ℕ = λ new. write_place nodes c.args.place new (give (if c.args.before then new else Num c.args.number)) in
    computed_ended nodes _ _ k _ _ _ _ (rw (to_z-of_z c.ranges.number) at c.moved-answer.ensures) c.in-Err.is (c.in_ok-changed.ensures.does nodes k)

pub returns-in_err-changed-clause-closed : goal.returns-in_err-changed-clause-closed
returns-in_err-changed-clause-closed c closed place number =
    let p = err_from_is_err_and c.from_residual.result c.from_residual.ensures.1 in rw (p.1, p.2) (c.in_err-changed.ensures.closed (nodes_of c.args.tree.now) closed (whole_fits c.args.state.now.heap.cells c.moved-answer.result (moved_by c.args.operator c.args.number) (rw (to_z-of_z c.ranges.number) at c.moved-answer.ensures)))

pub returns-in-Ok-clause-closed : goal.returns-in-Ok-clause-closed
returns-in-Ok-clause-closed c closed place number =
    let nodes = nodes_of c.args.tree.now in
    let old = c.args.state.now in
    let mid = c.settle.new.state in
    let settled = c.in_ok-changed.ensures.closed nodes closed (whole_fits old.heap.cells c.moved-answer.result (moved_by c.args.operator c.args.number) (rw (to_z-of_z c.ranges.number) at c.moved-answer.ensures)) in
    let went = settled.0 in
    lasts_on nodes old mid c.write_update.new.state c.write_update.result went
    (c.write_update.ensures.closed went.closed (place_fits_grown nodes old.heap.cells mid.heap.cells went.grows c.args.place place) (rw c.in-Ok.is at settled.1) (subst IsSafe (sym (to_z-of_z c.ranges.number)) number))

pub returns-in-Err-clause-closed : goal.returns-in-Err-clause-closed
returns-in-Err-clause-closed c closed place number = (c.in_ok-changed.ensures.closed (nodes_of c.args.tree.now) closed (whole_fits c.args.state.now.heap.cells c.moved-answer.result (moved_by c.args.operator c.args.number) (rw (to_z-of_z c.ranges.number) at c.moved-answer.ensures))).0
