use Rattle.std.proofs.lemmas.Result.{err_from_is_err_and}
use Rattle.js_iterate.proofs.arguments.enter_one.Goals as goal

pub returns-clause-does : goal.returns-clause-does
returns-clause-does c nodes = rw (c.in_ok-inner.ensures, c.argument_frame-frame.ensures) at (c.enter.ensures.some nodes)

pub returns-in_err-inner-clause-closed : goal.returns-in_err-inner-clause-closed
returns-in_err-inner-clause-closed c nodes closed pending scope =
    let p = err_from_is_err_and c.from_residual.result c.from_residual.ensures.1 in rw (p.1, p.2) (c.in_err-inner.ensures)

pub returns-clause-closed : goal.returns-clause-closed
returns-clause-closed c nodes closed pending scope =
    c.enter.ensures.closed nodes closed (rw c.argument_frame-frame.ensures (pending.0, pending.1, scope)) (rw c.in_ok-inner.ensures scope)
