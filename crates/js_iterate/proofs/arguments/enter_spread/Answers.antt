use Rattle.std.proofs.Common.{false, true, ◌++◌, arith}
use Rattle.js_semantics.specs.World.{cell_at}
use Rattle.js_semantics.specs.Prog.{Read, Step, eval}
use Rattle.js_semantics.specs.Iteration.{items_at, walk_value}
use Rattle.js_machine.specs.Does.{StepsDown}
use Rattle.js_machine.specs.Frames.{arguments_rest}
use Rattle.js_machine.proofs.Doing.{does_step_ok, not_entered}
use Rattle.std.proofs.lemmas.Result.{err_from_is_err_and}
use Rattle.js_iterate.proofs.Lasting.{pending_grown}
use Rattle.js_machine.proofs.Closing.{closed_step, lasts_on, scope_grown}
use Rattle.js_iterate.proofs.arguments.enter_spread.Goals as goal

pub returns-then-not-step_down-clause-does : goal.returns-then-not-step_down-clause-does
returns-then-not-step_down-clause-does c nodes =
    let h : StepsDown c.args.state.now c.step_down.new.self false = rw c.if-not-step_down.true at c.step_down.ensures in
    rw c.stopped.ensures (not_entered nodes 4 c.args.state.now c.step_down.new.self Step _ (omega arith) h.0 h.1)

pub returns-clause-does : goal.returns-clause-does
returns-clause-does c nodes =
    let h : StepsDown c.args.state.now c.step_down.new.self true = rw c.if-not-step_down.false at c.step_down.ensures in
    does_step_ok nodes 4 (eval c.args.list c.args.scope (λ v. walk_value v (λ array. Read (λ w. arguments_rest nodes c.args.pending.node c.args.next (c.args.pending.before ++ items_at (cell_at array w)) c.args.pending.target c.args.scope)))) c.args.state.now c.step_down.new.self c.enter.new.self c.enter.result h (rw (c.in_ok-inner.ensures, c.argument_frame-frame.ensures) at (c.enter.ensures.some nodes))

pub returns-in_err-inner-clause-closed : goal.returns-in_err-inner-clause-closed
returns-in_err-inner-clause-closed c nodes closed pending scope =
    let p = err_from_is_err_and c.from_residual.result c.from_residual.ensures.1 in rw (p.1, p.2) (c.in_err-inner.ensures)

pub returns-then-not-step_down-clause-closed : goal.returns-then-not-step_down-clause-closed
returns-then-not-step_down-clause-closed c nodes closed pending scope =
    closed_step nodes c.args.state.now c.step_down.new.self c.step_down.result closed c.step_down.ensures

pub returns-clause-closed : goal.returns-clause-closed
returns-clause-closed c nodes closed pending scope =
    let went = closed_step nodes c.args.state.now c.step_down.new.self c.step_down.result closed c.step_down.ensures in
    let around = scope_grown nodes c.args.state.now.heap.cells c.step_down.new.self.heap.cells went.grows c.args.scope scope in
    let still = pending_grown c.args.state.now.heap.cells c.step_down.new.self.heap.cells went.grows nodes c.args.pending pending in
    lasts_on nodes c.args.state.now c.step_down.new.self c.enter.new.self c.enter.result went
    (c.enter.ensures.closed nodes went.closed (rw c.argument_frame-frame.ensures (still.0, still.1, around)) (rw c.in_ok-inner.ensures around))
