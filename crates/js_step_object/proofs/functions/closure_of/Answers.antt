use Rattle.js_step_object.proofs.Making.{closure_ok, closure_err}
use Rattle.std.proofs.lemmas.Result.{err_from_is_err_and}
use Rattle.js_step_object.proofs.Lasting.{closure_cell, closure_fits, made_lasts, made_plain, stop_lasts}
use Rattle.std.proofs.Common.{refl}
use Rattle.js_step_object.proofs.functions.closure_of.Goals as goal

pub returns-in-Ok-clause-does : goal.returns-in-Ok-clause-does
returns-in-Ok-clause-does c nodes =
    closure_ok nodes c.args.node c.args.env c.args.receiver c.args.state.now c.make_closure.new.self c.in-Ok.loc (λ supply. rw c.in-Ok.is at (c.in_ok-loc.ensures nodes supply))

pub returns-in-Err-clause-does : goal.returns-in-Err-clause-does
returns-in-Err-clause-does c nodes =
    closure_err nodes c.args.node c.args.env c.args.receiver c.args.state.now c.make_closure.new.self c.in-Err.stop c.stopped.result (λ supply. rw c.in-Err.is at (c.in_ok-loc.ensures nodes supply)) c.stopped.ensures

pub returns-in_err-loc-clause-closed : goal.returns-in_err-loc-clause-closed
returns-in_err-loc-clause-closed c nodes closed env receiver =
    let p = err_from_is_err_and c.from_residual.result c.from_residual.ensures.1 in rw (p.1, p.2) (c.in_err-loc.ensures nodes (λ n. n) (closure_fits nodes c.args.state.now c.args.node.0 c.args.env c.args.receiver closed env receiver))

pub returns-in-Ok-clause-closed : goal.returns-in-Ok-clause-closed
returns-in-Ok-clause-closed c nodes closed env receiver =
    made_lasts nodes (closure_cell nodes c.args.state.now c.args.node.0 c.args.env c.args.receiver) c.args.state.now c.make_closure.new.self _ (c.in_ok-loc.ensures nodes (λ n. n)) c.in-Ok.loc c.in-Ok.is closed (closure_fits nodes c.args.state.now c.args.node.0 c.args.env c.args.receiver closed env receiver)

pub returns-in-Err-clause-closed : goal.returns-in-Err-clause-closed
returns-in-Err-clause-closed c nodes closed env receiver =
    stop_lasts nodes (closure_cell nodes c.args.state.now c.args.node.0 c.args.env c.args.receiver) c.args.state.now c.make_closure.new.self _ (c.in_ok-loc.ensures nodes (λ n. n)) c.in-Err.stop c.in-Err.is closed

pub returns-in-Ok-clause-fits : goal.returns-in-Ok-clause-fits
returns-in-Ok-clause-fits c nodes closed =
    made_plain nodes (closure_cell nodes c.args.state.now c.args.node.0 c.args.env c.args.receiver) c.args.state.now c.make_closure.new.self _ (c.in_ok-loc.ensures nodes (λ n. n)) c.in-Ok.loc c.in-Ok.is refl
