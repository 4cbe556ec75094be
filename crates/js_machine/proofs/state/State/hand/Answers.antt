use Rattle.std.proofs.Common.{ℕ, subst}
use Rattle.js_machine.specs.declared.frame.AfterFrame.{AfterFrame}
use Rattle.js_machine.specs.Closed.{AfterFits, ValueFits}
use Rattle.js_machine.proofs.state.State.hand.Goals as goal

pub returns-in-Give-clause-closed : goal.returns-in-Give-clause-closed
returns-in-Give-clause-closed c nodes closed fit given = c.give.ensures.closed nodes closed given

pub returns-in-Result-clause-closed : goal.returns-in-Result-clause-closed
returns-in-Result-clause-closed c nodes closed fit given =
    let kept : ValueFits c.args.self.now.heap.cells c.in-Result.kept = subst (λ (f : AfterFrame ℕ). AfterFits nodes c.args.self.now.heap.cells f) c.in-Result.is fit in
    c.give-in-Result.ensures.closed nodes closed kept
