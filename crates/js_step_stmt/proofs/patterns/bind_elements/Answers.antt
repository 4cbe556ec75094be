use Rattle.std.proofs.Common.{sym, ap, ◌∙◌}
use Rattle.js_step_stmt.proofs.Choosing.{next_is, elements_some}
use Rattle.js_machine.proofs.Doing.{does_read_ok}
use Rattle.js_semantics.specs.Statements.{bind_elements, item_or_undefined}
use Rattle.js_semantics.specs.Access.{bind_value, or_default}
use Rattle.js_machine.specs.Parts.{elements_of}
use Rattle.js_names.specs.Patterns.{nodes_of}
use Rattle.std.specs.Prelude.{drop, slice_get, ◌+◌}
use Rattle.js_step_stmt.proofs.Fitting.{item_fits, value_fits}
use Rattle.js_step_stmt.proofs.patterns.bind_elements.Goals as goal

pub returns-in_ok-item_at-in-Some-clause-does : goal.returns-in_ok-item_at-in-Some-clause-does
returns-in_ok-item_at-in-Some-clause-does c =
    let h = next_is _ (elements_of (slice_get (nodes_of c.args.tree.now) c.args.node.0)) c.args.at _ c.in-Some.found.0 c.elements_of.ensures c.in-Some.ensures in
    rw (elements_some (drop c.args.at (elements_of (slice_get (nodes_of c.args.tree.now) c.args.node.0))) (drop (c.args.at + 1) (elements_of (slice_get (nodes_of c.args.tree.now) c.args.node.0))) c.in-Some.found.0 c.args.at c.args.array c.args.scope h) (does_read_ok (nodes_of c.args.tree.now) 6 _ _ _ _ _ (λ supply. ap (λ x. or_default c.in-Some.found.0.default x c.args.scope (λ y. bind_value c.in-Some.found.0.bind y c.args.scope (bind_elements (drop (c.args.at + 1) (elements_of (slice_get (nodes_of c.args.tree.now) c.args.node.0))) (c.args.at + 1) c.args.array c.args.scope))) (sym (c.value_of-value.ensures ∙ ap item_or_undefined c.in_ok-item_at-in-Some.ensures))) (c.element.ensures.does (nodes_of c.args.tree.now) h))

pub returns-in_ok-item_at-in-Some-clause-closed : goal.returns-in_ok-item_at-in-Some-clause-closed
returns-in_ok-item_at-in-Some-clause-closed c closed array scope =
    let cells = c.args.state.now.heap.cells in
    let item = item_fits cells closed.well c.args.array c.args.at _ c.in_ok-item_at-in-Some.ensures in
    c.element.ensures.closed (nodes_of c.args.tree.now) closed array scope (rw c.value_of-value.ensures (value_fits cells _ item))

pub returns-in-None-clause-closed : goal.returns-in-None-clause-closed
returns-in-None-clause-closed c closed array scope = c.done.ensures.closed (nodes_of c.args.tree.now) closed
