use Rattle.js_calls.proofs.binding.bind_parameter.Goals as goal

pub returns-clause-few : goal.returns-clause-few
returns-clause-few c nodes = rw c.in_ok-inner.ensures at (c.bind_part.ensures.few nodes)

pub returns-clause-many : goal.returns-clause-many
returns-clause-many c nodes = rw c.in_ok-inner.ensures at (c.bind_part.ensures.many nodes)

pub returns-clause-closed : goal.returns-clause-closed
returns-clause-closed c nodes closed value arguments scope = c.bind_part.ensures.closed nodes closed (arguments, scope) value (rw c.in_ok-inner.ensures scope)
