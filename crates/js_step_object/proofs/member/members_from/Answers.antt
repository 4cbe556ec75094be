use Rattle.std.proofs.Common.{◌≡◌, ◌∷◌, drop, IfOk, sym, subst}
use Rattle.std.specs.Prelude.{slice_get}
use Rattle.world_heap.specs.declared.value.Value.TheVariants.{Ref}
use Rattle.js_names.specs.Patterns.{nodes_of}
use Rattle.js_semantics.specs.Objects.{members_into}
use Rattle.js_semantics.specs.Prog.{give}
use Rattle.js_machine.specs.Does.{Does}
use Rattle.js_machine.specs.Parts.{items_of}
use Rattle.std.proofs.lemmas.Result.{err_from_is_err_and}
use Rattle.js_step_object.proofs.member.members_from.Goals as goal

pub returns-in_ok-inner-in-Some-clause-does : goal.returns-in_ok-inner-in-Some-clause-does
returns-in_ok-inner-in-Some-clause-does c =
    let nodes = nodes_of c.args.tree.now in
    let list : drop c.args.at (items_of (slice_get nodes c.args.node.0)) ≡ c.in-Some.member ∷ drop c.in-Some.next (items_of (slice_get nodes c.args.node.0)) = cc (c.items_of.ensures, c.in-Some.ensures.0) in
    subst (λ members. IfOk c.enter_member.result (λ next. Does nodes 6 (members_into c.args.object members c.args.scope (give (Ref c.args.object))) c.args.state.now c.enter_member.new.self next)) (sym list) (rw (c.in_ok-inner-in-Some.ensures, c.literal.ensures) at (c.enter_member.ensures.many nodes))

pub returns-in_err-inner-in-Some-clause-closed : goal.returns-in_err-inner-in-Some-clause-closed
returns-in_err-inner-in-Some-clause-closed c closed object scope =
    let p = err_from_is_err_and c.from_residual.result c.from_residual.ensures.1 in rw (p.1, p.2) (c.in_err-inner-in-Some.ensures)

pub returns-in_ok-inner-in-Some-clause-closed : goal.returns-in_ok-inner-in-Some-clause-closed
returns-in_ok-inner-in-Some-clause-closed c closed object scope =
    c.enter_member.ensures.closed (nodes_of c.args.tree.now) closed (rw c.literal.ensures (object, scope)) object (rw c.in_ok-inner-in-Some.ensures scope)

pub returns-in-None-clause-closed : goal.returns-in-None-clause-closed
returns-in-None-clause-closed c closed object scope =
    c.give.ensures.closed (nodes_of c.args.tree.now) closed object
