use Rattle.std.proofs.Common.{drop}
use Rattle.std.specs.Prelude.{slice_get}
use Rattle.world_heap.specs.declared.value.Value.TheVariants.{Ref}
use Rattle.js_names.specs.Patterns.{nodes_of}
use Rattle.js_semantics.specs.Iteration.{elements_into}
use Rattle.js_semantics.specs.Prog.{give}
use Rattle.js_machine.specs.Parts.{items_of}
use Rattle.js_iterate.proofs.Walks.{spread_ok, spread_ended}
use Rattle.std.proofs.lemmas.Result.{err_from_is_err_and}
use Rattle.js_iterate.proofs.Lasting.{items_fit}
use Rattle.js_machine.proofs.Closing.{lasts_on, scope_grown}
use Rattle.js_iterate.proofs.rests.spread_into.Goals as goal

pub returns-in-None-clause-does : goal.returns-in-None-clause-does
returns-in-None-clause-does c =
    let nodes = nodes_of c.args.tree.now in
    spread_ok nodes c.args.array c.args.walked c.as_slice.result.now (elements_into c.args.array (drop c.args.next (items_of (slice_get nodes c.args.node.0))) c.args.scope (give (Ref c.args.array))) c.args.state.now c.push_values.new.state _ (cc (c.as_slice.ensures, c.in_ok-items.ensures)) (c.in_ok-push_values.ensures.does nodes) c.elements_from.new.state c.elements_from.result c.in-None.is c.elements_from.ensures.does

pub returns-clause-does : goal.returns-clause-does
returns-clause-does c =
    let nodes = nodes_of c.args.tree.now in
    spread_ended nodes c.args.array c.args.walked c.as_slice.result.now (elements_into c.args.array (drop c.args.next (items_of (slice_get nodes c.args.node.0))) c.args.scope (give (Ref c.args.array))) c.args.state.now c.push_values.new.state _ (cc (c.as_slice.ensures, c.in_ok-items.ensures)) (c.in_ok-push_values.ensures.does nodes) c.in-Some.ended c.in-Some.is

pub returns-in_err-items-clause-closed : goal.returns-in_err-items-clause-closed
returns-in_err-items-clause-closed c closed array unfrozen scope =
    let p = err_from_is_err_and c.from_residual.result c.from_residual.ensures.1 in rw (p.1, p.2) (c.in_err-items.ensures)

pub returns-in_err-push_values-clause-closed : goal.returns-in_err-push_values-clause-closed
returns-in_err-push_values-clause-closed c closed array unfrozen scope =
    let p = err_from_is_err_and c.from_residual-in_err-push_values.result c.from_residual-in_err-push_values.ensures.1 in rw (p.1, p.2) (c.in_err-push_values.ensures.closed (nodes_of c.args.tree.now) closed unfrozen (items_fit c.args.state.now.heap.cells closed.well c.args.walked c.as_slice.result.now (cc (c.as_slice.ensures, c.in_ok-items.ensures))))

pub returns-in-None-clause-closed : goal.returns-in-None-clause-closed
returns-in-None-clause-closed c closed array unfrozen scope =
    let nodes = nodes_of c.args.tree.now in
    let went = c.in_ok-push_values.ensures.closed nodes closed unfrozen (items_fit c.args.state.now.heap.cells closed.well c.args.walked c.as_slice.result.now (cc (c.as_slice.ensures, c.in_ok-items.ensures))) in
    lasts_on nodes c.args.state.now c.push_values.new.state c.elements_from.new.state c.elements_from.result went
    (c.elements_from.ensures.closed went.closed (went.grows.no_env c.args.array array) (went.grows.open_array c.args.array unfrozen) (scope_grown nodes c.args.state.now.heap.cells c.push_values.new.state.heap.cells went.grows c.args.scope scope))

pub returns-clause-closed : goal.returns-clause-closed
returns-clause-closed c closed array unfrozen scope =
    c.in_ok-push_values.ensures.closed (nodes_of c.args.tree.now) closed unfrozen (items_fit c.args.state.now.heap.cells closed.well c.args.walked c.as_slice.result.now (cc (c.as_slice.ensures, c.in_ok-items.ensures)))
