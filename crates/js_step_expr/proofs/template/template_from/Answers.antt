use Rattle.std.proofs.Common.{List, ℕ, map, sym}
use Rattle.std.specs.Prelude.{slice_get}
use Rattle.js_tree.specs.declared.node.Node.{Node}
use Rattle.js_machine.specs.Parts.{parts_of, texts_of}
use Rattle.js_step_expr.proofs.Templates.{template_step, template_end}
use Rattle.std.proofs.lemmas.Result.{err_from_is_err_and}
use Rattle.js_names.specs.Patterns.{nodes_of}
use Rattle.js_step_expr.proofs.template.template_from.Goals as goal

pub returns-in_ok-inner-in-Some-clause-does : goal.returns-in_ok-inner-in-Some-clause-does
returns-in_ok-inner-in-Some-clause-does c =
    let nodes : List Node = map (λ (n : Node × ℕ). n.0) c.args.tree.now in
    let node = slice_get nodes c.args.node.0 in
    let here = rw c.parts_of.ensures at (sym c.in-Some.ensures) in
    rw (template_step c.args.before (texts_of node) (parts_of node) c.args.place c.in-Some.part.now c.args.scope here) (rw (c.in_ok-inner-in-Some.ensures, c.in_ok-before.ensures.is, c.texts_of.ensures) at (c.enter_operand.ensures.does nodes))

pub returns-in-None-clause-does : goal.returns-in-None-clause-does
returns-in-None-clause-does c =
    let nodes : List Node = map (λ (n : Node × ℕ). n.0) c.args.tree.now in
    let node = slice_get nodes c.args.node.0 in
    let here = rw c.parts_of.ensures at (sym c.in-None.ensures) in
    rw (template_end c.args.before (texts_of node) (parts_of node) c.args.place c.args.scope here) (rw (c.as_slice.ensures, c.in_ok-before.ensures.is, c.texts_of.ensures) at (c.give_text.ensures.does nodes))

pub returns-in_err-before-clause-closed : goal.returns-in_err-before-clause-closed
returns-in_err-before-clause-closed c closed scope =
    let p = err_from_is_err_and c.from_residual.result c.from_residual.ensures.1 in rw (p.1, p.2) c.in_err-before.ensures.closed

pub returns-in_err-inner-in-Some-clause-closed : goal.returns-in_err-inner-in-Some-clause-closed
returns-in_err-inner-in-Some-clause-closed c closed scope =
    let p = err_from_is_err_and c.from_residual-in_err-inner-in-Some.result c.from_residual-in_err-inner-in-Some.ensures.1 in rw (p.1, p.2) c.in_err-inner-in-Some.ensures

pub returns-in_ok-inner-in-Some-clause-closed : goal.returns-in_ok-inner-in-Some-clause-closed
returns-in_ok-inner-in-Some-clause-closed c closed scope = c.enter_operand.ensures.closed (nodes_of c.args.tree.now) closed scope (rw c.in_ok-inner-in-Some.ensures scope)

pub returns-in-None-clause-closed : goal.returns-in-None-clause-closed
returns-in-None-clause-closed c closed scope = c.give_text.ensures.closed (nodes_of c.args.tree.now) closed
