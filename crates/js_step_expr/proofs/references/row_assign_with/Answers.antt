use Rattle.std.proofs.Common.{List, refl, sym, ap, ◌∙◌}
use Rattle.std.specs.Prelude.{slice_get}
use Rattle.js_tree.specs.declared.node.Node.{Node}
use Rattle.js_names.specs.Patterns.{nodes_of}
use Rattle.js_semantics.specs.Expressions.{row_assign_with}
use Rattle.js_machine.proofs.Doing.{does_read}
use Rattle.js_step_expr.specs.Targets.{assign_by_at}
use Rattle.js_step_expr.proofs.Written.{assign_by_is, comes_read}
use Rattle.js_step_expr.proofs.Fitted.{name_named, dot_named}
use Rattle.std.proofs.lemmas.Result.{err_from_is_err_and}
use Rattle.js_step_expr.proofs.references.row_assign_with.Goals as goal

pub returns-in-Name-clause-does : goal.returns-in-Name-clause-does
unfolding row_assign_with
returns-in-Name-clause-does c =
    let nodes : List Node = nodes_of c.args.tree.now in
    let here = assign_by_is nodes c.args.target (slice_get nodes c.args.target.0) c.args.operator c.args.value c.args.scope refl ∙ ap (λ t. assign_by_at nodes c.args.target t c.args.operator c.args.value c.args.scope) (sym c.target_of.ensures ∙ c.in-Name.is) in
    comes_read nodes _ _ _ _ _ (λ supply. here) (c.step_name.ensures.does nodes)

pub returns-in_ok-step_object-in-Dot-clause-does : goal.returns-in_ok-step_object-in-Dot-clause-does
unfolding row_assign_with
returns-in_ok-step_object-in-Dot-clause-does c =
    let nodes : List Node = nodes_of c.args.tree.now in
    let here = assign_by_is nodes c.args.target (slice_get nodes c.args.target.0) c.args.operator c.args.value c.args.scope refl ∙ ap (λ t. assign_by_at nodes c.args.target t c.args.operator c.args.value c.args.scope) (sym c.target_of.ensures ∙ c.in-Dot.is) in
    does_read nodes 6 _ _ _ _ _ (λ supply. here) (c.in_ok-step_object-in-Dot.ensures.does nodes)

pub returns-in_ok-step_indexed-in-Index-clause-does : goal.returns-in_ok-step_indexed-in-Index-clause-does
unfolding row_assign_with
returns-in_ok-step_indexed-in-Index-clause-does c =
    let nodes : List Node = nodes_of c.args.tree.now in
    let here = assign_by_is nodes c.args.target (slice_get nodes c.args.target.0) c.args.operator c.args.value c.args.scope refl ∙ ap (λ t. assign_by_at nodes c.args.target t c.args.operator c.args.value c.args.scope) (sym c.target_of.ensures ∙ c.in-Index.is) in
    does_read nodes 6 _ _ _ _ _ (λ supply. here) (c.in_ok-step_indexed-in-Index.ensures.does nodes)

pub returns-in_ok-throw-in-Other-clause-does : goal.returns-in_ok-throw-in-Other-clause-does
unfolding row_assign_with
returns-in_ok-throw-in-Other-clause-does c =
    let nodes : List Node = nodes_of c.args.tree.now in
    let here = assign_by_is nodes c.args.target (slice_get nodes c.args.target.0) c.args.operator c.args.value c.args.scope refl ∙ ap (λ t. assign_by_at nodes c.args.target t c.args.operator c.args.value c.args.scope) (sym c.target_of.ensures ∙ c.in-Other.is) in
    does_read nodes 6 _ _ _ _ _ (λ supply. here) (c.in_ok-throw-in-Other.ensures.many nodes)

pub returns-in-Name-clause-closed : goal.returns-in-Name-clause-closed
returns-in-Name-clause-closed c closed scope =
    let nodes = nodes_of c.args.tree.now in
    let named = name_named nodes c.args.target (sym c.in-Name.is ∙ c.target_of.ensures) in
    c.step_name.ensures.closed nodes closed named scope.0 ((named, scope.0), scope)

pub returns-in_ok-step_object-in-Dot-clause-closed : goal.returns-in_ok-step_object-in-Dot-clause-closed
returns-in_ok-step_object-in-Dot-clause-closed c closed scope =
    let nodes = nodes_of c.args.tree.now in
    let named = dot_named nodes c.args.target c.in-Dot.object (sym c.in-Dot.is ∙ c.target_of.ensures) in
    (c.in_ok-step_object-in-Dot.ensures.closed nodes closed named scope, tt)

pub returns-in_err-step_object-in-Dot-clause-closed : goal.returns-in_err-step_object-in-Dot-clause-closed
returns-in_err-step_object-in-Dot-clause-closed c closed scope =
    let p = err_from_is_err_and c.from_residual.result c.from_residual.ensures.1 in rw (p.1, p.2) (c.in_err-step_object-in-Dot.ensures.closed (nodes_of c.args.tree.now) closed (dot_named (nodes_of c.args.tree.now) c.args.target c.in-Dot.object (sym c.in-Dot.is ∙ c.target_of.ensures)) scope)

pub returns-in_ok-step_indexed-in-Index-clause-closed : goal.returns-in_ok-step_indexed-in-Index-clause-closed
returns-in_ok-step_indexed-in-Index-clause-closed c closed scope = (c.in_ok-step_indexed-in-Index.ensures.closed (nodes_of c.args.tree.now) closed scope, tt)

pub returns-in_err-step_indexed-in-Index-clause-closed : goal.returns-in_err-step_indexed-in-Index-clause-closed
returns-in_err-step_indexed-in-Index-clause-closed c closed scope =
    let p = err_from_is_err_and c.from_residual-in_err-step_indexed-in-Index.result c.from_residual-in_err-step_indexed-in-Index.ensures.1 in rw (p.1, p.2) (c.in_err-step_indexed-in-Index.ensures.closed (nodes_of c.args.tree.now) closed scope)

pub returns-in_ok-throw-in-Other-clause-closed : goal.returns-in_ok-throw-in-Other-clause-closed
returns-in_ok-throw-in-Other-clause-closed c closed scope = (c.in_ok-throw-in-Other.ensures.closed (nodes_of c.args.tree.now) closed, tt)

pub returns-in_err-throw-in-Other-clause-closed : goal.returns-in_err-throw-in-Other-clause-closed
returns-in_err-throw-in-Other-clause-closed c closed scope =
    let p = err_from_is_err_and c.from_residual-in_err-throw-in-Other.result c.from_residual-in_err-throw-in-Other.ensures.1 in rw (p.1, p.2) (c.in_err-throw-in-Other.ensures.closed (nodes_of c.args.tree.now) closed)
