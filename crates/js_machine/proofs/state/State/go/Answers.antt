use Rattle.std.proofs.Common.{refl}
use Rattle.std.proofs.lemmas.Result.{err_from_is_err_and}
use Rattle.js_machine.proofs.Doing.{entered_by, not_entered}
use Rattle.js_machine.proofs.state.State.go.Goals as goal

pub returns-then-self-eq0-clause-does : goal.returns-then-self-eq0-clause-does
returns-then-self-eq0-clause-does c nodes n r le e = rw c.stopped.ensures (not_entered nodes n c.args.self.now _ r _ le c.if-self-eq0.true refl)

pub returns-clause-does : goal.returns-clause-does
returns-clause-does c nodes n r le e =
    entered_by nodes n c.args.self.now c.push.new.self c.turn_to.new.self r c.args.frame c.args.control le e c.if-self-eq0.false c.in_ok-push.ensures.frames c.in_ok-push.ensures.rest c.turn_to.ensures

pub returns-in_err-push-clause-closed : goal.returns-in_err-push-clause-closed
returns-in_err-push-clause-closed c nodes closed frame control =
    let p = err_from_is_err_and c.from_residual.result c.from_residual.ensures.1 in rw (p.1, p.2) (c.in_err-push.ensures.closed nodes closed frame)
