use Rattle.js_names.specs.Patterns.{nodes_of}
use Rattle.js_machine.proofs.Closing.{closed_step, lasts_on, place_fits_grown, scope_grown}
use Rattle.js_machine.proofs.Doing.{does_step_ok, not_stepped}
use Rattle.js_step_access.proofs.assigning.step_value.Goals as goal

pub returns-then-not-step_down-clause-does : goal.returns-then-not-step_down-clause-does
returns-then-not-step_down-clause-does c = rw c.stopped.ensures (not_stepped (nodes_of c.args.tree.now) _ _ _ (rw c.if-not-step_down.true at c.step_down.ensures))

pub returns-clause-does : goal.returns-clause-does
returns-clause-does c = does_step_ok (nodes_of c.args.tree.now) 6 _ _ _ _ _ (rw c.if-not-step_down.false at c.step_down.ensures) c.assigned.ensures.does

pub returns-then-not-step_down-clause-closed : goal.returns-then-not-step_down-clause-closed
returns-then-not-step_down-clause-closed c closed place scope = closed_step (nodes_of c.args.tree.now) c.args.state.now c.step_down.new.self c.step_down.result closed c.step_down.ensures

pub returns-clause-closed : goal.returns-clause-closed
returns-clause-closed c closed place scope =
    let nodes = nodes_of c.args.tree.now in
    let old = c.args.state.now in
    let mid = c.step_down.new.self in
    let went = closed_step nodes old mid c.step_down.result closed c.step_down.ensures in
    let still = scope_grown nodes old.heap.cells mid.heap.cells went.grows c.args.scope scope in
    let stands = place_fits_grown nodes old.heap.cells mid.heap.cells went.grows c.args.place place in
    lasts_on nodes old mid c.assigned.new.state c.assigned.result went (c.assigned.ensures.closed went.closed stands still)
