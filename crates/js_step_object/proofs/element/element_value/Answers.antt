use Rattle.std.proofs.Common.{drop}
use Rattle.std.specs.Prelude.{slice_get}
use Rattle.world_heap.specs.declared.value.Value.TheVariants.{Ref}
use Rattle.js_names.specs.Patterns.{nodes_of}
use Rattle.js_semantics.specs.Iteration.{elements_into, push_item}
use Rattle.js_semantics.specs.Prog.{give}
use Rattle.js_machine.specs.Parts.{items_of}
use Rattle.js_step_object.proofs.Going.{comes_ok, comes_ended}
use Rattle.std.proofs.lemmas.Result.{err_from_is_err_and}
use Rattle.js_machine.proofs.Closing.{lasts_on, scope_grown}
use Rattle.js_step_object.proofs.element.element_value.Goals as goal

pub returns-in-None-clause-does : goal.returns-in-None-clause-does
returns-in-None-clause-does c =
    let nodes = nodes_of c.args.tree.now in
    comes_ok nodes (λ p. push_item c.args.array c.args.value p) (elements_into c.args.array (drop c.args.next (items_of (slice_get nodes c.args.node.0))) c.args.scope (give (Ref c.args.array))) c.args.state.now c.push.new.state c.elements_from.new.state _ c.elements_from.result (c.in_ok-push.ensures.does nodes) c.in-None.is c.elements_from.ensures.does

pub returns-in-Some-clause-does : goal.returns-in-Some-clause-does
returns-in-Some-clause-does c =
    let nodes = nodes_of c.args.tree.now in
    comes_ended nodes (λ p. push_item c.args.array c.args.value p) (elements_into c.args.array (drop c.args.next (items_of (slice_get nodes c.args.node.0))) c.args.scope (give (Ref c.args.array))) c.args.state.now c.push.new.state _ c.in-Some.ended (c.in_ok-push.ensures.does nodes) c.in-Some.is

pub returns-in_err-push-clause-closed : goal.returns-in_err-push-clause-closed
returns-in_err-push-clause-closed c closed array unfrozen scope fit =
    let p = err_from_is_err_and c.from_residual.result c.from_residual.ensures.1 in rw (p.1, p.2) (c.in_err-push.ensures.closed (nodes_of c.args.tree.now) closed unfrozen fit)

pub returns-in-None-clause-closed : goal.returns-in-None-clause-closed
returns-in-None-clause-closed c closed array unfrozen scope fit =
    let nodes = nodes_of c.args.tree.now in
    let went = c.in_ok-push.ensures.closed nodes closed unfrozen fit in
    lasts_on nodes c.args.state.now c.push.new.state c.elements_from.new.state c.elements_from.result went
    (c.elements_from.ensures.closed went.closed (went.grows.no_env c.args.array array) (went.grows.open_array c.args.array unfrozen) (scope_grown nodes c.args.state.now.heap.cells c.push.new.state.heap.cells went.grows c.args.scope scope))

pub returns-in-Some-clause-closed : goal.returns-in-Some-clause-closed
returns-in-Some-clause-closed c closed array unfrozen scope fit =
    c.in_ok-push.ensures.closed (nodes_of c.args.tree.now) closed unfrozen fit
