use Rattle.std.proofs.lemmas.Result.{err_from_is_err_and}
use Rattle.js_patterns.proofs.properties.bind_property.Goals as goal

pub returns-clause-some : goal.returns-clause-some
returns-clause-some c nodes = rw (c.pattern.ensures, c.in_ok-inner.ensures) at (c.bind.ensures.some nodes)

pub returns-clause-many : goal.returns-clause-many
returns-clause-many c nodes = rw (c.pattern.ensures, c.in_ok-inner.ensures) at (c.bind.ensures.many nodes)

pub returns-in_err-inner-clause-closed : goal.returns-in_err-inner-clause-closed
returns-in_err-inner-clause-closed c nodes closed of scope value =
    let p = err_from_is_err_and c.from_residual.result c.from_residual.ensures.1 in rw (p.1, p.2) c.in_err-inner.ensures

pub returns-clause-closed : goal.returns-clause-closed
returns-clause-closed c nodes closed of scope value = c.bind.ensures.closed nodes closed (rw c.pattern.ensures (of, scope)) value (rw c.in_ok-inner.ensures scope)
