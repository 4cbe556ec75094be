use Rattle.std.proofs.lemmas.Result.{err_from_is_err_and}
use Rattle.js_patterns.proofs.properties.read.Goals as goal

pub returns-in_err-frame-clause-closed : goal.returns-in_err-frame-clause-closed
returns-in_err-frame-clause-closed c closed of scope =
    let p = err_from_is_err_and c.from_residual.result c.from_residual.ensures.1 in rw (p.1, p.2) c.in_err-frame.ensures

pub returns-clause-closed : goal.returns-clause-closed
returns-clause-closed c closed of scope = c.get.ensures.closed closed of (rw c.in_ok-frame.ensures (of, scope))
