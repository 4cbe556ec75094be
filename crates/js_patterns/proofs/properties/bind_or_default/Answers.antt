use Rattle.std.proofs.lemmas.Result.{err_from_is_err_and}
use Rattle.js_machine.specs.Parts.{entries_of}
use Rattle.js_semantics.specs.Access.{bind_value}
use Rattle.js_semantics.specs.Statements.{bind_properties}
use Rattle.std.specs.Prelude.{drop, slice_get, ◌+◌}
use Rattle.js_patterns.proofs.Destructuring.{property_default}
use Rattle.js_patterns.proofs.properties.bind_or_default.Goals as goal

pub returns-in_ok-inner-in-Some-clause-does : goal.returns-in_ok-inner-in-Some-clause-does
returns-in_ok-inner-in-Some-clause-does c nodes h =
    let entries = entries_of (slice_get nodes c.args.node.0) in
    rw (c.in-Some.ensures c.args.scope (λ y. bind_value c.args.part.now.bind y c.args.scope (bind_properties (drop (c.args.at + 1) entries) c.args.of c.args.scope)), property_default nodes (drop c.args.at entries) (drop (c.args.at + 1) entries) c.args.part.now c.args.of c.args.scope c.in-Some.default h)
    (rw (c.pattern.ensures, c.in_ok-inner-in-Some.ensures) at (c.enter.ensures.some nodes))

pub returns-in_err-inner-in-Some-clause-closed : goal.returns-in_err-inner-in-Some-clause-closed
returns-in_err-inner-in-Some-clause-closed c nodes closed of scope value =
    let p = err_from_is_err_and c.from_residual.result c.from_residual.ensures.1 in rw (p.1, p.2) c.in_err-inner-in-Some.ensures

pub returns-in_ok-inner-in-Some-clause-closed : goal.returns-in_ok-inner-in-Some-clause-closed
returns-in_ok-inner-in-Some-clause-closed c nodes closed of scope value = c.enter.ensures.closed nodes closed (rw c.pattern.ensures (of, scope)) (rw c.in_ok-inner-in-Some.ensures scope)

pub returns-in-None-clause-closed : goal.returns-in-None-clause-closed
returns-in-None-clause-closed c nodes closed of scope value = c.bind_property.ensures.closed nodes closed of scope value
