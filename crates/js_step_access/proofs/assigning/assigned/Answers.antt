use Rattle.std.proofs.Common.{arith}
use Rattle.std.proofs.lemmas.Result.{err_from_is_err_and}
use Rattle.std.specs.Prelude.{ℕ}
use Rattle.world_heap.specs.declared.value.Value.{Value}
use Rattle.js_names.specs.Patterns.{nodes_of}
use Rattle.js_semantics.specs.Prog.{Prog, give}
use Rattle.js_machine.specs.Frames.{write_place}
use Rattle.js_machine.proofs.Closing.{lasts_on, place_fits_grown, scope_grown}
use Rattle.js_primary.proofs.Evaluating.{nothing_ok, taken_ended, taken_ok}
use Rattle.js_step_access.proofs.assigning.assigned.Goals as goal

pub returns-in-Value-clause-does : goal.returns-in-Value-clause-does
returns-in-Value-clause-does c =
    let nodes = nodes_of c.args.tree.now in
    let k : Value ℕ → Prog ℕ = λ v. write_place nodes c.args.place v (give v) in
    taken_ok nodes 6 c.args.value c.args.scope k _ _ _ _ c.in-Value.right _ c.in_ok-right.ensures.does c.in-Value.is c.assign_place.ensures.many

pub returns-in-Ended-clause-does : goal.returns-in-Ended-clause-does
returns-in-Ended-clause-does c =
    let nodes = nodes_of c.args.tree.now in
    let k : Value ℕ → Prog ℕ = λ v. write_place nodes c.args.place v (give v) in
    taken_ended nodes 6 c.args.value c.args.scope k _ _ _ _ (omega arith) c.in_ok-right.ensures.does c.in-Ended.is

pub returns-in-Nothing-clause-does : goal.returns-in-Nothing-clause-does
returns-in-Nothing-clause-does c =
    let nodes = nodes_of c.args.tree.now in
    nothing_ok nodes 6 _ c.args.value c.args.scope _ _ _ _ _ c.in_ok-right.ensures.does c.in-Nothing.is (c.enter_operand.ensures.does nodes)

pub returns-in_err-right-clause-closed : goal.returns-in_err-right-clause-closed
returns-in_err-right-clause-closed c closed place scope =
    let p = err_from_is_err_and c.from_residual.result c.from_residual.ensures.1 in rw (p.1, p.2) (c.in_err-right.ensures.closed closed scope)

pub returns-in-Value-clause-closed : goal.returns-in-Value-clause-closed
returns-in-Value-clause-closed c closed place scope =
    let nodes = nodes_of c.args.tree.now in
    let old = c.args.state.now in
    let mid = c.take_value.new.state in
    let went = c.in_ok-right.ensures.closed closed scope in
    lasts_on nodes old mid c.assign_place.new.state c.assign_place.result went.0
    (c.assign_place.ensures.closed went.0.closed (place_fits_grown nodes old.heap.cells mid.heap.cells went.0.grows c.args.place place) (rw c.in-Value.is at went.1))

pub returns-in-Ended-clause-closed : goal.returns-in-Ended-clause-closed
returns-in-Ended-clause-closed c closed place scope = (c.in_ok-right.ensures.closed closed scope).0

pub returns-in-Nothing-clause-closed : goal.returns-in-Nothing-clause-closed
returns-in-Nothing-clause-closed c closed place scope =
    let nodes = nodes_of c.args.tree.now in
    let old = c.args.state.now in
    let mid = c.take_value.new.state in
    let went = c.in_ok-right.ensures.closed closed scope in
    let around = scope_grown nodes old.heap.cells mid.heap.cells went.0.grows c.args.scope scope in
    lasts_on nodes old mid c.enter_operand.new.state c.enter_operand.result went.0
    (c.enter_operand.ensures.closed nodes went.0.closed (place_fits_grown nodes old.heap.cells mid.heap.cells went.0.grows c.args.place place) around)
