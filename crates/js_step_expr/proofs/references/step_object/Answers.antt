use Rattle.js_machine.proofs.Doing.{does_step_ok}
use Rattle.js_machine.proofs.Doing.{not_stepped}
use Rattle.js_machine.proofs.Closing.{closed_step, lasts_on, scope_grown}
use Rattle.js_step_expr.proofs.references.step_object.Goals as goal

pub returns-then-not-step_down-clause-does : goal.returns-then-not-step_down-clause-does
returns-then-not-step_down-clause-does c nodes = rw c.stopped.ensures (not_stepped nodes _ _ _ (rw c.if-not-step_down.true at c.step_down.ensures))

pub returns-clause-does : goal.returns-clause-does
returns-clause-does c nodes = does_step_ok nodes 6 _ _ _ _ _ (rw c.if-not-step_down.false at c.step_down.ensures) (c.enter_object.ensures.does nodes)

pub returns-then-not-step_down-clause-closed : goal.returns-then-not-step_down-clause-closed
returns-then-not-step_down-clause-closed c nodes closed named scope = closed_step nodes c.args.state.now c.step_down.new.self c.step_down.result closed c.step_down.ensures

pub returns-clause-closed : goal.returns-clause-closed
returns-clause-closed c nodes closed named scope =
    let old = c.args.state.now in
    let mid = c.step_down.new.self in
    let went = closed_step nodes old mid c.step_down.result closed c.step_down.ensures in
    let still = scope_grown nodes old.heap.cells mid.heap.cells went.grows c.args.scope scope in
    lasts_on nodes old mid c.enter_object.new.state c.enter_object.result went (c.enter_object.ensures.closed nodes went.closed named still)
