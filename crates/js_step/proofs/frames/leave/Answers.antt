use Rattle.std.proofs.Common.{ap}
use Rattle.js_machine.specs.declared.state.State.{State}
use Rattle.js_step.proofs.Leaving.{leave_ok}
use Rattle.js_step.proofs.frames.leave.Goals as goal

pub returns-clause-does : goal.returns-clause-does
returns-clause-does c nodes =
    let s : State = c.args.state.now in
    leave_ok nodes c.args.outcome s _ _ _ (ap (λ d. record s { depth = d }) c.saturating_sub-state.ensures) (rw c.given_by.ensures.is at (c.give.ensures.few nodes))

pub returns-clause-closed : goal.returns-clause-closed
returns-clause-closed c nodes closed outcome =
    c.give.ensures.closed nodes (record { well = closed.well; realm = closed.realm; frames = closed.frames; control = closed.control }) (c.given_by.ensures.closed nodes c.args.state.now.heap.cells outcome)
