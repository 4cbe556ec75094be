use Rattle.std.proofs.Common.{ap}
use Rattle.std.proofs.lemmas.Result.{err_from_is_err_and}
use Rattle.js_semantics.specs.declared.outcome.Outcome.TheVariants.{Normal}
use Rattle.js_machine.specs.declared.state.State.{State}
use Rattle.js_machine.specs.declared.state.Control.TheVariants as controls
use Rattle.js_machine.proofs.Doing.{handed}
use Rattle.js_machine.proofs.state.State.follow.Goals as goal

pub returns-clause-does : goal.returns-clause-does
returns-clause-does c nodes =
    handed nodes c.args.self.now _ c.args.frame c.args.value c.in_ok-push.ensures.frames (ap {A = State} (λ s. record s { control = controls.Give (Normal c.args.value) }) c.in_ok-push.ensures.rest)

pub returns-in_err-push-clause-closed : goal.returns-in_err-push-clause-closed
returns-in_err-push-clause-closed c nodes closed frame value =
    let p = err_from_is_err_and c.from_residual.result c.from_residual.ensures.1 in rw (p.1, p.2) (c.in_err-push.ensures.closed nodes closed frame)
