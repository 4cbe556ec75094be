use Rattle.std.proofs.Common.{arith}
use Rattle.std.proofs.lemmas.Result.{err_from_is_err_and}
use Rattle.js_names.specs.Patterns.{nodes_of}
use Rattle.std.specs.Prelude.{ℕ}
use Rattle.world_heap.specs.declared.value.Value.{Value}
use Rattle.js_semantics.specs.Prog.{Prog, give}
use Rattle.js_machine.specs.Frames.{write_place}
use Rattle.js_machine.proofs.Closing.{lasts_on, place_fits_grown}
use Rattle.js_machine.proofs.Doing.{allowing, does_move_ok}
use Rattle.js_step_access.proofs.after.write_applied.Goals as goal

pub returns-in-Ok-clause-does : goal.returns-in-Ok-clause-does
returns-in-Ok-clause-does c =
    let nodes = nodes_of c.args.tree.now in
    let k : Value ℕ → Prog ℕ = λ new. write_place nodes c.args.place new (give new) in
    does_move_ok nodes 4 _ (k c.in-Ok.changed) _ _ _ _ (rw c.in-Ok.is at (c.in_ok-changed.ensures.does nodes k)) c.assign_place.ensures.some

pub returns-in-Err-clause-does : goal.returns-in-Err-clause-does
returns-in-Err-clause-does c =
    let nodes = nodes_of c.args.tree.now in
    let k : Value ℕ → Prog ℕ = λ new. write_place nodes c.args.place new (give new) in
    allowing nodes 2 4 _ _ _ _ (omega arith) (rw c.in-Err.is at (c.in_ok-changed.ensures.does nodes k))

pub returns-in_err-changed-clause-closed : goal.returns-in_err-changed-clause-closed
returns-in_err-changed-clause-closed c closed place was value =
    let p = err_from_is_err_and c.from_residual.result c.from_residual.ensures.1 in rw (p.1, p.2) (c.in_err-changed.ensures.closed (nodes_of c.args.tree.now) closed was value)

pub returns-in-Ok-clause-closed : goal.returns-in-Ok-clause-closed
returns-in-Ok-clause-closed c closed place was value =
    let nodes = nodes_of c.args.tree.now in
    let old = c.args.state.now in
    let mid = c.apply.new.state in
    let went = c.in_ok-changed.ensures.closed nodes closed was value in
    lasts_on nodes old mid c.assign_place.new.state c.assign_place.result went.0
    (c.assign_place.ensures.closed went.0.closed (place_fits_grown nodes old.heap.cells mid.heap.cells went.0.grows c.args.place place) (rw c.in-Ok.is at went.1))

pub returns-in-Err-clause-closed : goal.returns-in-Err-clause-closed
returns-in-Err-clause-closed c closed place was value = (c.in_ok-changed.ensures.closed (nodes_of c.args.tree.now) closed was value).0
