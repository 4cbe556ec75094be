use Rattle.std.specs.Prelude.{slice_get}
use Rattle.world_heap.specs.declared.value.Value.TheVariants.{Ref}
use Rattle.js_names.specs.Patterns.{nodes_of}
use Rattle.js_semantics.specs.Objects.{make_object, members_into, row_object}
use Rattle.js_semantics.specs.Prog.{give}
use Rattle.js_machine.specs.Parts.{items_of}
use Rattle.js_step_object.proofs.Going.{then_ok, then_err}
use Rattle.std.proofs.lemmas.Result.{err_from_is_err_and}
use Rattle.js_machine.proofs.Closing.{lasts_on, scope_grown}
use Rattle.js_step_object.proofs.member.row_object.Goals as goal

pub returns-in-Ok-clause-does : goal.returns-in-Ok-clause-does
unfolding row_object
returns-in-Ok-clause-does c =
    let nodes = nodes_of c.args.tree.now in
    then_ok nodes (λ k. make_object k) (λ loc. members_into loc (items_of (slice_get nodes c.args.node.0)) c.args.scope (give (Ref loc))) c.args.state.now c.plain_object.new.state c.members_from.new.state _ c.in-Ok.object c.members_from.result (c.in_ok-object.ensures.does nodes) c.in-Ok.is c.members_from.ensures.does

pub returns-in-Err-clause-does : goal.returns-in-Err-clause-does
unfolding row_object
returns-in-Err-clause-does c =
    let nodes = nodes_of c.args.tree.now in
    then_err nodes (λ k. make_object k) (λ loc. members_into loc (items_of (slice_get nodes c.args.node.0)) c.args.scope (give (Ref loc))) c.args.state.now c.plain_object.new.state _ c.in-Err.next (c.in_ok-object.ensures.does nodes) c.in-Err.is

pub returns-in_err-object-clause-closed : goal.returns-in_err-object-clause-closed
returns-in_err-object-clause-closed c closed scope =
    let p = err_from_is_err_and c.from_residual.result c.from_residual.ensures.1 in rw (p.1, p.2) (c.in_err-object.ensures.closed (nodes_of c.args.tree.now) closed)

pub returns-in-Ok-clause-closed : goal.returns-in-Ok-clause-closed
returns-in-Ok-clause-closed c closed scope =
    let nodes = nodes_of c.args.tree.now in
    let went = c.in_ok-object.ensures.closed nodes closed in
    lasts_on nodes c.args.state.now c.plain_object.new.state c.members_from.new.state c.members_from.result went
    (c.members_from.ensures.closed went.closed (rw c.in-Ok.is at (c.in_ok-object.ensures.fits nodes closed)) (scope_grown nodes c.args.state.now.heap.cells c.plain_object.new.state.heap.cells went.grows c.args.scope scope))

pub returns-in-Err-clause-closed : goal.returns-in-Err-clause-closed
returns-in-Err-clause-closed c closed scope =
    c.in_ok-object.ensures.closed (nodes_of c.args.tree.now) closed
