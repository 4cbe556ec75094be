use Rattle.std.proofs.lemmas.Result.{err_from_is_err_and}
use Rattle.js_step_access.proofs.usage.read_for_update.Goals as goal

pub returns-in_err-place-clause-closed : goal.returns-in_err-place-clause-closed
returns-in_err-place-clause-closed c closed base key scope =
    let p = err_from_is_err_and c.from_residual.result c.from_residual.ensures.1 in rw (p.1, p.2) c.in_err-place.ensures

pub returns-clause-closed : goal.returns-clause-closed
returns-clause-closed c closed base key scope = c.read.ensures.closed closed base key (rw c.in_ok-place.ensures (base, key))
