use Rattle.std.proofs.Common.{List, refl, sym, ap, ◌∙◌}
use Rattle.std.specs.Prelude.{slice_get}
use Rattle.js_tree.specs.declared.node.Node.{Node}
use Rattle.js_names.specs.Patterns.{nodes_of}
use Rattle.js_semantics.specs.Expressions.{row_assign}
use Rattle.js_machine.proofs.Doing.{does_read_ok}
use Rattle.js_step_expr.specs.Targets.{assign_at}
use Rattle.js_step_expr.proofs.Written.{assign_is}
use Rattle.js_step_expr.proofs.Fitted.{name_named, dot_named}
use Rattle.js_step_access.proofs.assigning.row_assign.Goals as goal

pub returns-in-Name-clause-does : goal.returns-in-Name-clause-does
unfolding row_assign
returns-in-Name-clause-does c =
    let nodes : List Node = nodes_of c.args.tree.now in
    let here = assign_is nodes c.args.target (slice_get nodes c.args.target.0) c.args.value c.args.scope refl ∙ ap (λ t. assign_at nodes c.args.target t c.args.value c.args.scope) (sym c.target_of.ensures ∙ c.in-Name.is) in
    does_read_ok nodes 6 _ _ _ _ _ (λ supply. here) c.step_value.ensures.does

pub returns-in-Dot-clause-does : goal.returns-in-Dot-clause-does
unfolding row_assign
returns-in-Dot-clause-does c =
    let nodes : List Node = nodes_of c.args.tree.now in
    let here = assign_is nodes c.args.target (slice_get nodes c.args.target.0) c.args.value c.args.scope refl ∙ ap (λ t. assign_at nodes c.args.target t c.args.value c.args.scope) (sym c.target_of.ensures ∙ c.in-Dot.is) in
    does_read_ok nodes 6 _ _ _ _ _ (λ supply. here) c.step_object.ensures.does

pub returns-in-Index-clause-does : goal.returns-in-Index-clause-does
unfolding row_assign
returns-in-Index-clause-does c =
    let nodes : List Node = nodes_of c.args.tree.now in
    let here = assign_is nodes c.args.target (slice_get nodes c.args.target.0) c.args.value c.args.scope refl ∙ ap (λ t. assign_at nodes c.args.target t c.args.value c.args.scope) (sym c.target_of.ensures ∙ c.in-Index.is) in
    does_read_ok nodes 6 _ _ _ _ _ (λ supply. here) c.step_indexed.ensures.does

pub returns-in-Other-clause-does : goal.returns-in-Other-clause-does
returns-in-Other-clause-does c = c.row_assign.ensures.does

pub returns-in-Name-clause-closed : goal.returns-in-Name-clause-closed
returns-in-Name-clause-closed c closed scope =
    let nodes = nodes_of c.args.tree.now in
    let named = name_named nodes c.args.target (sym c.in-Name.is ∙ c.target_of.ensures) in
    c.step_value.ensures.closed closed (named, scope.0) scope

pub returns-in-Dot-clause-closed : goal.returns-in-Dot-clause-closed
returns-in-Dot-clause-closed c closed scope =
    let nodes = nodes_of c.args.tree.now in
    let named = dot_named nodes c.args.target c.in-Dot.object (sym c.in-Dot.is ∙ c.target_of.ensures) in
    c.step_object.ensures.closed closed named scope

pub returns-in-Index-clause-closed : goal.returns-in-Index-clause-closed
returns-in-Index-clause-closed c closed scope = c.step_indexed.ensures.closed closed scope

pub returns-in-Other-clause-closed : goal.returns-in-Other-clause-closed
returns-in-Other-clause-closed c closed scope = c.row_assign.ensures.closed closed scope
