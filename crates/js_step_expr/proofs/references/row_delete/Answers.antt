use Rattle.std.proofs.Common.{List, refl, sym, ap, ◌∙◌}
use Rattle.std.specs.Prelude.{slice_get}
use Rattle.js_tree.specs.declared.node.Node.{Node}
use Rattle.js_names.specs.Patterns.{nodes_of}
use Rattle.js_semantics.specs.Expressions.{row_delete}
use Rattle.js_machine.proofs.Doing.{does_read_ok}
use Rattle.js_step_expr.specs.Targets.{delete_at}
use Rattle.js_step_expr.proofs.Written.{delete_is}
use Rattle.js_step_expr.proofs.Fitted.{dot_named}
use Rattle.js_step_expr.proofs.references.row_delete.Goals as goal

pub returns-in-Dot-clause-does : goal.returns-in-Dot-clause-does
unfolding row_delete
returns-in-Dot-clause-does c =
    let nodes : List Node = nodes_of c.args.tree.now in
    let here = delete_is nodes c.args.operand (slice_get nodes c.args.operand.0) c.args.scope refl ∙ ap (λ t. delete_at nodes c.args.operand t c.args.scope) (sym c.target_of.ensures ∙ c.in-Dot.is) in
    does_read_ok nodes 6 _ _ _ _ _ (λ supply. here) (c.step_object.ensures.does nodes)

pub returns-in-Index-clause-does : goal.returns-in-Index-clause-does
unfolding row_delete
returns-in-Index-clause-does c =
    let nodes : List Node = nodes_of c.args.tree.now in
    let here = delete_is nodes c.args.operand (slice_get nodes c.args.operand.0) c.args.scope refl ∙ ap (λ t. delete_at nodes c.args.operand t c.args.scope) (sym c.target_of.ensures ∙ c.in-Index.is) in
    does_read_ok nodes 6 _ _ _ _ _ (λ supply. here) (c.step_indexed.ensures.does nodes)

pub returns-in-Name-clause-does : goal.returns-in-Name-clause-does
unfolding row_delete
returns-in-Name-clause-does c =
    let nodes : List Node = nodes_of c.args.tree.now in
    let here = delete_is nodes c.args.operand (slice_get nodes c.args.operand.0) c.args.scope refl ∙ ap (λ t. delete_at nodes c.args.operand t c.args.scope) (sym c.target_of.ensures ∙ c.in-Name.is) in
    does_read_ok nodes 6 _ _ _ _ _ (λ supply. here) (c.row_delete_value.ensures.does nodes)

pub returns-in-Other-clause-does : goal.returns-in-Other-clause-does
unfolding row_delete
returns-in-Other-clause-does c =
    let nodes : List Node = nodes_of c.args.tree.now in
    let here = delete_is nodes c.args.operand (slice_get nodes c.args.operand.0) c.args.scope refl ∙ ap (λ t. delete_at nodes c.args.operand t c.args.scope) (sym c.target_of.ensures ∙ c.in-Other.is) in
    does_read_ok nodes 6 _ _ _ _ _ (λ supply. here) (c.row_delete_value-in-Other.ensures.does nodes)

pub returns-in-Dot-clause-closed : goal.returns-in-Dot-clause-closed
returns-in-Dot-clause-closed c closed scope =
    let nodes = nodes_of c.args.tree.now in
    let named = dot_named nodes c.args.operand c.in-Dot.object (sym c.in-Dot.is ∙ c.target_of.ensures) in
    c.step_object.ensures.closed nodes closed named scope

pub returns-in-Index-clause-closed : goal.returns-in-Index-clause-closed
returns-in-Index-clause-closed c closed scope = c.step_indexed.ensures.closed (nodes_of c.args.tree.now) closed scope

pub returns-in-Name-clause-closed : goal.returns-in-Name-clause-closed
returns-in-Name-clause-closed c closed scope = c.row_delete_value.ensures.closed (nodes_of c.args.tree.now) closed scope

pub returns-in-Other-clause-closed : goal.returns-in-Other-clause-closed
returns-in-Other-clause-closed c closed scope = c.row_delete_value-in-Other.ensures.closed (nodes_of c.args.tree.now) closed scope
