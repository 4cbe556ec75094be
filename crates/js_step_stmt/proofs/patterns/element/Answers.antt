use Rattle.js_step_stmt.proofs.Choosing.{element_default}
use Rattle.js_semantics.specs.Statements.{bind_elements}
use Rattle.js_semantics.specs.Access.{bind_value}
use Rattle.js_machine.specs.Parts.{elements_of}
use Rattle.std.specs.Prelude.{drop, slice_get, ◌+◌}
use Rattle.js_step_stmt.proofs.patterns.element.Goals as goal

pub returns-in_ok-inner-in-Some-clause-does : goal.returns-in_ok-inner-in-Some-clause-does
returns-in_ok-inner-in-Some-clause-does c nodes h = rw (c.in-Some.ensures c.args.scope (λ y. bind_value c.args.part.bind y c.args.scope (bind_elements (drop (c.args.at + 1) (elements_of (slice_get nodes c.args.node.0))) (c.args.at + 1) c.args.array c.args.scope)), element_default nodes (drop c.args.at (elements_of (slice_get nodes c.args.node.0))) (drop (c.args.at + 1) (elements_of (slice_get nodes c.args.node.0))) c.args.part c.args.at c.args.array c.args.scope c.in-Some.default h) (rw (c.pattern.ensures, c.in_ok-inner-in-Some.ensures) at (c.enter.ensures.many nodes))

pub returns-in_ok-inner-in-Some-clause-closed : goal.returns-in_ok-inner-in-Some-clause-closed
returns-in_ok-inner-in-Some-clause-closed c nodes closed array scope value = c.enter.ensures.closed nodes closed (rw c.pattern.ensures (array, scope)) (rw c.in_ok-inner-in-Some.ensures scope)
