use Rattle.std.proofs.Common.{arith, Some}
use Rattle.std.proofs.lemmas.Result.{err_from_is_err_and}
use Rattle.js_machine.proofs.Errors.{does_throw_ok, does_not_throw}
use Rattle.js_machine.proofs.Closing.{error_fits, error_made, error_stopped, lasts_on}
use Rattle.js_machine.proofs.state.State.throw.Goals as goal

pub returns-in-Ok-clause-few : goal.returns-in-Ok-clause-few
returns-in-Ok-clause-few c nodes =
    does_throw_ok nodes 2 c.args.fault c.args.self.now c.make_error.new.self c.give.new.self c.in-Ok.loc c.give.result (λ supply. rw (c.kind.ensures, c.in_ok-message.ensures, c.in-Ok.is) at (c.in_ok-loc.ensures nodes supply)) (c.give.ensures.few nodes)

pub returns-in-Err-clause-few : goal.returns-in-Err-clause-few
returns-in-Err-clause-few c nodes =
    rw c.stopped.ensures (does_not_throw nodes 2 c.args.fault c.args.self.now c.make_error.new.self c.in-Err.stop (omega arith) (λ supply. rw (c.kind.ensures, c.in_ok-message.ensures, c.in-Err.is) at (c.in_ok-loc.ensures nodes supply)))

pub returns-in-Ok-clause-some : goal.returns-in-Ok-clause-some
returns-in-Ok-clause-some c nodes =
    does_throw_ok nodes 4 c.args.fault c.args.self.now c.make_error.new.self c.give.new.self c.in-Ok.loc c.give.result (λ supply. rw (c.kind.ensures, c.in_ok-message.ensures, c.in-Ok.is) at (c.in_ok-loc.ensures nodes supply)) (c.give.ensures.some nodes)

pub returns-in-Err-clause-some : goal.returns-in-Err-clause-some
returns-in-Err-clause-some c nodes =
    rw c.stopped.ensures (does_not_throw nodes 4 c.args.fault c.args.self.now c.make_error.new.self c.in-Err.stop (omega arith) (λ supply. rw (c.kind.ensures, c.in_ok-message.ensures, c.in-Err.is) at (c.in_ok-loc.ensures nodes supply)))

pub returns-in-Ok-clause-many : goal.returns-in-Ok-clause-many
returns-in-Ok-clause-many c nodes =
    does_throw_ok nodes 6 c.args.fault c.args.self.now c.make_error.new.self c.give.new.self c.in-Ok.loc c.give.result (λ supply. rw (c.kind.ensures, c.in_ok-message.ensures, c.in-Ok.is) at (c.in_ok-loc.ensures nodes supply)) (c.give.ensures.many nodes)

pub returns-in-Err-clause-many : goal.returns-in-Err-clause-many
returns-in-Err-clause-many c nodes =
    rw c.stopped.ensures (does_not_throw nodes 6 c.args.fault c.args.self.now c.make_error.new.self c.in-Err.stop (omega arith) (λ supply. rw (c.kind.ensures, c.in_ok-message.ensures, c.in-Err.is) at (c.in_ok-loc.ensures nodes supply)))

pub returns-in_err-loc-clause-closed : goal.returns-in_err-loc-clause-closed
returns-in_err-loc-clause-closed c nodes closed =
    let p = err_from_is_err_and c.from_residual-in_err-loc.result c.from_residual-in_err-loc.ensures.1 in
    rw (p.1, p.2) (c.in_err-loc.ensures nodes (λ n. n) (error_fits nodes (λ n. n) c.args.self.now c.kind.result (Some c.in_ok-message.message) closed))

pub returns-in-Ok-clause-closed : goal.returns-in-Ok-clause-closed
returns-in-Ok-clause-closed c nodes closed =
    let made = error_made nodes c.kind.result (Some c.in_ok-message.message) c.args.self.now c.make_error.new.self closed c.in-Ok.loc (λ supply. rw c.in-Ok.is at (c.in_ok-loc.ensures nodes supply)) in
    lasts_on nodes c.args.self.now c.make_error.new.self c.give.new.self c.give.result made.0 (c.give.ensures.closed nodes made.0.closed made.1)

pub returns-in-Err-clause-closed : goal.returns-in-Err-clause-closed
returns-in-Err-clause-closed c nodes closed =
    error_stopped nodes c.kind.result (Some c.in_ok-message.message) c.args.self.now c.make_error.new.self closed c.in-Err.stop (λ supply. rw c.in-Err.is at (c.in_ok-loc.ensures nodes supply))
