use Rattle.std.proofs.Common.{[]}
use Rattle.std.specs.Prelude.{slice_get}
use Rattle.world_heap.specs.declared.value.Value.TheVariants.{Ref}
use Rattle.js_names.specs.Patterns.{nodes_of}
use Rattle.js_semantics.specs.Access.{make_array}
use Rattle.js_semantics.specs.Iteration.{elements_into}
use Rattle.js_semantics.specs.Objects.{row_array}
use Rattle.js_semantics.specs.Prog.{give}
use Rattle.js_machine.specs.Parts.{items_of}
use Rattle.js_step_object.proofs.Going.{then_ok, then_err}
use Rattle.std.proofs.lemmas.Result.{err_from_is_err_and}
use Rattle.js_machine.proofs.Closing.{lasts_on, scope_grown}
use Rattle.js_step_object.proofs.element.row_array.Goals as goal

pub returns-in-Ok-clause-does : goal.returns-in-Ok-clause-does
unfolding row_array
returns-in-Ok-clause-does c =
    let nodes = nodes_of c.args.tree.now in
    then_ok nodes (λ k. make_array [] k) (λ loc. elements_into loc (items_of (slice_get nodes c.args.node.0)) c.args.scope (give (Ref loc))) c.args.state.now c.empty_array.new.state c.elements_from.new.state _ c.in-Ok.array c.elements_from.result (c.in_ok-array.ensures.does nodes) c.in-Ok.is c.elements_from.ensures.does

pub returns-in-Err-clause-does : goal.returns-in-Err-clause-does
unfolding row_array
returns-in-Err-clause-does c =
    let nodes = nodes_of c.args.tree.now in
    then_err nodes (λ k. make_array [] k) (λ loc. elements_into loc (items_of (slice_get nodes c.args.node.0)) c.args.scope (give (Ref loc))) c.args.state.now c.empty_array.new.state _ c.in-Err.next (c.in_ok-array.ensures.does nodes) c.in-Err.is

pub returns-in_err-array-clause-closed : goal.returns-in_err-array-clause-closed
returns-in_err-array-clause-closed c closed scope =
    let p = err_from_is_err_and c.from_residual.result c.from_residual.ensures.1 in rw (p.1, p.2) (c.in_err-array.ensures.closed (nodes_of c.args.tree.now) closed)

pub returns-in-Ok-clause-closed : goal.returns-in-Ok-clause-closed
returns-in-Ok-clause-closed c closed scope =
    let nodes = nodes_of c.args.tree.now in
    let went = c.in_ok-array.ensures.closed nodes closed in
    let (plain, unfrozen) = rw c.in-Ok.is at (c.in_ok-array.ensures.fits nodes closed) in
    lasts_on nodes c.args.state.now c.empty_array.new.state c.elements_from.new.state c.elements_from.result went
    (c.elements_from.ensures.closed went.closed plain unfrozen (scope_grown nodes c.args.state.now.heap.cells c.empty_array.new.state.heap.cells went.grows c.args.scope scope))

pub returns-in-Err-clause-closed : goal.returns-in-Err-clause-closed
returns-in-Err-clause-closed c closed scope =
    c.in_ok-array.ensures.closed (nodes_of c.args.tree.now) closed
