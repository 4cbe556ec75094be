use Rattle.js_machine.proofs.Doing.{moves_step}
use Rattle.js_machine.proofs.Doing.{not_stepped}
use Rattle.js_machine.proofs.Closing.{closed_step, after_grown}
use Rattle.js_names.proofs.Growing.{cell_grown}
use Rattle.js_step_expr.proofs.references.step_name.Goals as goal

pub returns-then-not-step_down-clause-does : goal.returns-then-not-step_down-clause-does
returns-then-not-step_down-clause-does c nodes = rw c.stopped.ensures (not_stepped nodes _ _ _ (rw c.if-not-step_down.true at c.step_down.ensures))

pub returns-clause-does : goal.returns-clause-does
returns-clause-does c nodes = moves_step nodes _ _ _ (rw c.if-not-step_down.false at c.step_down.ensures)

pub returns-then-not-step_down-clause-closed : goal.returns-then-not-step_down-clause-closed
returns-then-not-step_down-clause-closed c nodes closed named env frame = (closed_step nodes c.args.state.now c.step_down.new.self c.step_down.result closed c.step_down.ensures, tt)

pub returns-clause-closed : goal.returns-clause-closed
returns-clause-closed c nodes closed named env frame =
    let old = c.args.state.now in
    let mid = c.step_down.new.self in
    let went = closed_step nodes old mid c.step_down.result closed c.step_down.ensures in
    (went, (named, cell_grown old.heap.cells mid.heap.cells went.grows c.args.env env, after_grown nodes old.heap.cells mid.heap.cells went.grows c.args.frame frame))
