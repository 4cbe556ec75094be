use Rattle.std.proofs.Common.{refl}
use Rattle.js_machine.proofs.Closing.{closed_step, value_grown}
use Rattle.js_primary.proofs.taking.step_to.Goals as goal

pub returns-then-step_down-clause-does : goal.returns-then-step_down-clause-does
returns-then-step_down-clause-does c = (refl, rw c.if-step_down.true at c.step_down.ensures)

pub returns-else-step_down-clause-does : goal.returns-else-step_down-clause-does
returns-else-step_down-clause-does c = (c.stopped.ensures, rw c.if-step_down.false at c.step_down.ensures)

pub returns-then-step_down-clause-closed : goal.returns-then-step_down-clause-closed
returns-then-step_down-clause-closed c nodes closed value =
    let old = c.args.state.now in
    let new = c.step_down.new.self in
    let went = closed_step nodes old new c.step_down.result closed c.step_down.ensures in
    (went, value_grown nodes old.heap.cells new.heap.cells went.grows c.args.value value)

pub returns-else-step_down-clause-closed : goal.returns-else-step_down-clause-closed
returns-else-step_down-clause-closed c nodes closed value = (closed_step nodes c.args.state.now c.step_down.new.self c.step_down.result closed c.step_down.ensures, tt)
