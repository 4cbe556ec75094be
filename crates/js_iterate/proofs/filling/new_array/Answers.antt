use Rattle.js_iterate.proofs.Turns.{array_ok, array_err}
use Rattle.std.proofs.lemmas.Result.{err_from_is_err_and}
use Rattle.std.proofs.Common.{refl}
use Rattle.js_step_object.proofs.Lasting.{array_cell, made_lasts, made_open, made_plain, stop_lasts}
use Rattle.js_iterate.proofs.Lasting.{array_may}
use Rattle.js_iterate.proofs.filling.new_array.Goals as goal

pub returns-in-Ok-clause-does : goal.returns-in-Ok-clause-does
returns-in-Ok-clause-does c nodes = array_ok nodes c.args.items c.args.state.now c.make_array.new.self c.in-Ok.loc (λ supply. rw c.in-Ok.is at (c.in_ok-loc.ensures nodes supply))

pub returns-in-Err-clause-does : goal.returns-in-Err-clause-does
returns-in-Err-clause-does c nodes = array_err nodes c.args.items c.args.state.now c.make_array.new.self c.in-Err.stop c.stopped.result (λ supply. rw c.in-Err.is at (c.in_ok-loc.ensures nodes supply)) c.stopped.ensures

pub returns-in_err-loc-clause-closed : goal.returns-in_err-loc-clause-closed
returns-in_err-loc-clause-closed c nodes closed items =
    let p = err_from_is_err_and c.from_residual.result c.from_residual.ensures.1 in rw (p.1, p.2) (c.in_err-loc.ensures nodes (λ n. n) (array_may nodes c.args.state.now c.args.items closed items))

pub returns-in-Ok-clause-closed : goal.returns-in-Ok-clause-closed
returns-in-Ok-clause-closed c nodes closed items =
    let made = c.in_ok-loc.ensures nodes (λ n. n) in
    let went = made_lasts nodes (array_cell nodes c.args.state.now c.args.items) c.args.state.now c.make_array.new.self _ made c.in-Ok.loc c.in-Ok.is closed (array_may nodes c.args.state.now c.args.items closed items) in
    let plain = made_plain nodes (array_cell nodes c.args.state.now c.args.items) c.args.state.now c.make_array.new.self _ made c.in-Ok.loc c.in-Ok.is refl in
    (went, (plain, made_open nodes c.args.items c.args.state.now c.make_array.new.self _ c.in-Ok.loc made c.in-Ok.is))

pub returns-in-Err-clause-closed : goal.returns-in-Err-clause-closed
returns-in-Err-clause-closed c nodes closed items =
    stop_lasts nodes (array_cell nodes c.args.state.now c.args.items) c.args.state.now c.make_array.new.self _ (c.in_ok-loc.ensures nodes (λ n. n)) c.in-Err.stop c.in-Err.is closed
