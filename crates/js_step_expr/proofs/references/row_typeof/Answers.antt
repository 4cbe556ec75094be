use Rattle.std.proofs.Common.{List, refl, sym, ap, ◌∙◌}
use Rattle.std.specs.Prelude.{slice_get}
use Rattle.js_tree.specs.declared.node.Node.{Node}
use Rattle.js_names.specs.Patterns.{nodes_of}
use Rattle.js_semantics.specs.Expressions.{row_typeof}
use Rattle.js_machine.proofs.Doing.{does_read}
use Rattle.js_step_expr.specs.Targets.{typeof_at}
use Rattle.js_step_expr.proofs.Written.{typeof_is, comes_read}
use Rattle.js_step_expr.proofs.Fitted.{name_named}
use Rattle.std.proofs.lemmas.Result.{err_from_is_err_and}
use Rattle.js_step_expr.proofs.references.row_typeof.Goals as goal

pub returns-in-Name-clause-does : goal.returns-in-Name-clause-does
unfolding row_typeof
returns-in-Name-clause-does c =
    let nodes : List Node = nodes_of c.args.tree.now in
    let here = typeof_is nodes c.args.operand (slice_get nodes c.args.operand.0) c.args.scope refl ∙ ap (λ t. typeof_at nodes c.args.operand t c.args.scope) (sym c.target_of.ensures ∙ c.in-Name.is) in
    comes_read nodes _ _ _ _ _ (λ supply. here) (c.step_name.ensures.does nodes)

pub returns-in_ok-row_typeof_value-in-Dot-clause-does : goal.returns-in_ok-row_typeof_value-in-Dot-clause-does
unfolding row_typeof
returns-in_ok-row_typeof_value-in-Dot-clause-does c =
    let nodes : List Node = nodes_of c.args.tree.now in
    let here = typeof_is nodes c.args.operand (slice_get nodes c.args.operand.0) c.args.scope refl ∙ ap (λ t. typeof_at nodes c.args.operand t c.args.scope) (sym c.target_of.ensures ∙ c.in-Dot.is) in
    does_read nodes 6 _ _ _ _ _ (λ supply. here) (c.in_ok-row_typeof_value-in-Dot.ensures.does nodes)

pub returns-in_ok-row_typeof_value-in-Index-clause-does : goal.returns-in_ok-row_typeof_value-in-Index-clause-does
unfolding row_typeof
returns-in_ok-row_typeof_value-in-Index-clause-does c =
    let nodes : List Node = nodes_of c.args.tree.now in
    let here = typeof_is nodes c.args.operand (slice_get nodes c.args.operand.0) c.args.scope refl ∙ ap (λ t. typeof_at nodes c.args.operand t c.args.scope) (sym c.target_of.ensures ∙ c.in-Index.is) in
    does_read nodes 6 _ _ _ _ _ (λ supply. here) (c.in_ok-row_typeof_value-in-Index.ensures.does nodes)

pub returns-in_ok-row_typeof_value-in-Other-clause-does : goal.returns-in_ok-row_typeof_value-in-Other-clause-does
unfolding row_typeof
returns-in_ok-row_typeof_value-in-Other-clause-does c =
    let nodes : List Node = nodes_of c.args.tree.now in
    let here = typeof_is nodes c.args.operand (slice_get nodes c.args.operand.0) c.args.scope refl ∙ ap (λ t. typeof_at nodes c.args.operand t c.args.scope) (sym c.target_of.ensures ∙ c.in-Other.is) in
    does_read nodes 6 _ _ _ _ _ (λ supply. here) (c.in_ok-row_typeof_value-in-Other.ensures.does nodes)

pub returns-in-Name-clause-closed : goal.returns-in-Name-clause-closed
returns-in-Name-clause-closed c closed scope =
    let nodes = nodes_of c.args.tree.now in
    let named = name_named nodes c.args.operand (sym c.in-Name.is ∙ c.target_of.ensures) in
    c.step_name.ensures.closed nodes closed named scope.0 tt

pub returns-in_ok-row_typeof_value-in-Dot-clause-closed : goal.returns-in_ok-row_typeof_value-in-Dot-clause-closed
returns-in_ok-row_typeof_value-in-Dot-clause-closed c closed scope = (c.in_ok-row_typeof_value-in-Dot.ensures.closed (nodes_of c.args.tree.now) closed scope, tt)

pub returns-in_err-row_typeof_value-in-Dot-clause-closed : goal.returns-in_err-row_typeof_value-in-Dot-clause-closed
returns-in_err-row_typeof_value-in-Dot-clause-closed c closed scope =
    let p = err_from_is_err_and c.from_residual.result c.from_residual.ensures.1 in rw (p.1, p.2) (c.in_err-row_typeof_value-in-Dot.ensures.closed (nodes_of c.args.tree.now) closed scope)

pub returns-in_ok-row_typeof_value-in-Index-clause-closed : goal.returns-in_ok-row_typeof_value-in-Index-clause-closed
returns-in_ok-row_typeof_value-in-Index-clause-closed c closed scope = (c.in_ok-row_typeof_value-in-Index.ensures.closed (nodes_of c.args.tree.now) closed scope, tt)

pub returns-in_err-row_typeof_value-in-Index-clause-closed : goal.returns-in_err-row_typeof_value-in-Index-clause-closed
returns-in_err-row_typeof_value-in-Index-clause-closed c closed scope =
    let p = err_from_is_err_and c.from_residual-in_err-row_typeof_value-in-Index.result c.from_residual-in_err-row_typeof_value-in-Index.ensures.1 in rw (p.1, p.2) (c.in_err-row_typeof_value-in-Index.ensures.closed (nodes_of c.args.tree.now) closed scope)

pub returns-in_ok-row_typeof_value-in-Other-clause-closed : goal.returns-in_ok-row_typeof_value-in-Other-clause-closed
returns-in_ok-row_typeof_value-in-Other-clause-closed c closed scope = (c.in_ok-row_typeof_value-in-Other.ensures.closed (nodes_of c.args.tree.now) closed scope, tt)

pub returns-in_err-row_typeof_value-in-Other-clause-closed : goal.returns-in_err-row_typeof_value-in-Other-clause-closed
returns-in_err-row_typeof_value-in-Other-clause-closed c closed scope =
    let p = err_from_is_err_and c.from_residual-in_err-row_typeof_value-in-Other.result c.from_residual-in_err-row_typeof_value-in-Other.ensures.1 in rw (p.1, p.2) (c.in_err-row_typeof_value-in-Other.ensures.closed (nodes_of c.args.tree.now) closed scope)
