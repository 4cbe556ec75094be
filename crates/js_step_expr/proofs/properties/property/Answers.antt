use Rattle.std.proofs.lemmas.Result.{err_from_is_err_and}
use Rattle.js_step_expr.proofs.properties.property.Goals as goal

pub returns-in-DotObject-clause-does : goal.returns-in-DotObject-clause-does
returns-in-DotObject-clause-does c nodes = rw c.in-DotObject.is (c.used.ensures.does nodes)

pub returns-in_ok-index_object-in-IndexObject-clause-does : goal.returns-in_ok-index_object-in-IndexObject-clause-does
returns-in_ok-index_object-in-IndexObject-clause-does c nodes = rw c.in-IndexObject.is (c.in_ok-index_object-in-IndexObject.ensures.does nodes)

pub returns-in-IndexKey-clause-does : goal.returns-in-IndexKey-clause-does
returns-in-IndexKey-clause-does c nodes = rw c.in-IndexKey.is (c.index_key.ensures.does nodes)

pub returns-in-DotObject-clause-closed : goal.returns-in-DotObject-clause-closed
returns-in-DotObject-clause-closed c nodes closed frame value =
    let h = rw c.in-DotObject.is at frame in
    c.used.ensures.closed nodes closed value h.0 h.1

pub returns-in_ok-index_object-in-IndexObject-clause-closed : goal.returns-in_ok-index_object-in-IndexObject-clause-closed
returns-in_ok-index_object-in-IndexObject-clause-closed c nodes closed frame value = (c.in_ok-index_object-in-IndexObject.ensures.closed nodes closed (rw c.in-IndexObject.is at frame) value, tt)

pub returns-in_err-index_object-in-IndexObject-clause-closed : goal.returns-in_err-index_object-in-IndexObject-clause-closed
returns-in_err-index_object-in-IndexObject-clause-closed c nodes closed frame value =
    let p = err_from_is_err_and c.from_residual.result c.from_residual.ensures.1 in rw (p.1, p.2) (c.in_err-index_object-in-IndexObject.ensures.closed nodes closed (rw c.in-IndexObject.is at frame) value)

pub returns-in-IndexKey-clause-closed : goal.returns-in-IndexKey-clause-closed
returns-in-IndexKey-clause-closed c nodes closed frame value =
    let h = rw c.in-IndexKey.is at frame in
    c.index_key.ensures.closed nodes closed h.0 h.1 value
