use Rattle.js_semantics.specs.Prog.{give}
use Rattle.js_machine.specs.Frames.{write_place}
use Rattle.std.proofs.lemmas.Result.{err_from_is_err_and}
use Rattle.js_machine.proofs.Closing.{place_fits_grown}
use Rattle.js_step_expr.proofs.frames.assigned.Goals as goal

pub returns-clause-does : goal.returns-clause-does
returns-clause-does c nodes = c.written.ensures.does nodes _ _ _ (c.in_ok-settled.ensures.does nodes (λ v. write_place nodes c.args.place v (give v)))

pub returns-in_err-settled-clause-closed : goal.returns-in_err-settled-clause-closed
returns-in_err-settled-clause-closed c nodes closed was place value =
    let p = err_from_is_err_and c.from_residual.result c.from_residual.ensures.1 in rw (p.1, p.2) (c.in_err-settled.ensures.closed nodes closed was value)

pub returns-clause-closed : goal.returns-clause-closed
returns-clause-closed c nodes closed was place value =
    let old = c.args.state.now in
    let went = c.in_ok-settled.ensures.closed nodes closed was value in
    (went.0, c.written.ensures.closed nodes c.apply.new.state.heap.cells (place_fits_grown nodes old.heap.cells c.apply.new.state.heap.cells went.0.grows c.args.place place) went.1)
