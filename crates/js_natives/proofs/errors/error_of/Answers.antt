use Rattle.std.proofs.Common.{arith}
use Rattle.world_heap.specs.declared.value.Value.TheVariants.{Ref}
use Rattle.js_semantics.specs.Prog.{give}
use Rattle.js_natives.proofs.Making.{does_error_ok, does_not_error}
use Rattle.std.proofs.lemmas.Result.{err_from_is_err_and}
use Rattle.js_machine.proofs.Closing.{error_fits, error_made, error_stopped, lasts_on}
use Rattle.js_natives.proofs.errors.error_of.Goals as goal

pub returns-in-Ok-clause-does : goal.returns-in-Ok-clause-does
returns-in-Ok-clause-does c nodes =
    does_error_ok nodes 6 c.args.error c.args.message (λ loc. give (Ref loc)) c.args.state.now c.make_error.new.self c.give.new.self c.in-Ok.loc c.give.result (λ supply. rw c.in-Ok.is at (c.in_ok-loc.ensures nodes supply)) (c.give.ensures.many nodes)

pub returns-in-Err-clause-does : goal.returns-in-Err-clause-does
returns-in-Err-clause-does c nodes =
    rw c.stopped.ensures (does_not_error nodes 6 c.args.error c.args.message (λ loc. give (Ref loc)) c.args.state.now c.make_error.new.self c.in-Err.stop (omega arith) (λ supply. rw c.in-Err.is at (c.in_ok-loc.ensures nodes supply)))

pub returns-in_err-loc-clause-closed : goal.returns-in_err-loc-clause-closed
returns-in_err-loc-clause-closed c nodes closed =
    let p = err_from_is_err_and c.from_residual.result c.from_residual.ensures.1 in rw (p.1, p.2) (c.in_err-loc.ensures nodes (λ n. n) (error_fits nodes (λ n. n) c.args.state.now c.args.error c.args.message closed))

pub returns-in-Ok-clause-closed : goal.returns-in-Ok-clause-closed
returns-in-Ok-clause-closed c nodes closed =
    let old = c.args.state.now in
    let mid = c.make_error.new.self in
    let (went, plain) = error_made nodes c.args.error c.args.message old mid closed c.in-Ok.loc (λ supply. rw c.in-Ok.is at (c.in_ok-loc.ensures nodes supply)) in
    lasts_on nodes old mid c.give.new.self c.give.result went (c.give.ensures.closed nodes went.closed plain)

pub returns-in-Err-clause-closed : goal.returns-in-Err-clause-closed
returns-in-Err-clause-closed c nodes closed =
    error_stopped nodes c.args.error c.args.message c.args.state.now c.make_error.new.self closed c.in-Err.stop (λ supply. rw c.in-Err.is at (c.in_ok-loc.ensures nodes supply))
