use Rattle.std.proofs.Common.{sym, ◌∙◌}
use Rattle.js_names.specs.Patterns.{nodes_of}
use Rattle.js_step_expr.specs.declared.targets.Target.TheVariants.{Dot, Index, Name, Other}
use Rattle.js_step_expr.proofs.Fitted.{dot_named}
use Rattle.js_step_call.specs.Called.{call_at}
use Rattle.js_step_call.proofs.Calling.{row_ok}
use Rattle.js_step_call.proofs.rows.row_call.Goals as goal

pub returns-in-Dot-clause-does : goal.returns-in-Dot-clause-does
returns-in-Dot-clause-does c =
    row_ok (nodes_of c.args.tree.now) c.args.node c.args.callee c.args.scope (Dot c.in-Dot.object) c.args.state.now c.dot_object.new.state c.dot_object.result (sym c.in-Dot.is ∙ c.target_of.ensures) c.dot_object.ensures.does

pub returns-in-Index-clause-does : goal.returns-in-Index-clause-does
returns-in-Index-clause-does c =
    row_ok (nodes_of c.args.tree.now) c.args.node c.args.callee c.args.scope (Index c.in-Index.object c.in-Index.key) c.args.state.now c.index_object.new.state c.index_object.result (sym c.in-Index.is ∙ c.target_of.ensures) (c.index_object.ensures.does c.args.callee)

pub returns-in-Name-clause-does : goal.returns-in-Name-clause-does
unfolding call_at
returns-in-Name-clause-does c =
    row_ok (nodes_of c.args.tree.now) c.args.node c.args.callee c.args.scope Name c.args.state.now c.plain_callee.new.state c.plain_callee.result (sym c.in-Name.is ∙ c.target_of.ensures) c.plain_callee.ensures.does

pub returns-in-Other-clause-does : goal.returns-in-Other-clause-does
unfolding call_at
returns-in-Other-clause-does c =
    row_ok (nodes_of c.args.tree.now) c.args.node c.args.callee c.args.scope Other c.args.state.now c.plain_callee-in-Other.new.state c.plain_callee-in-Other.result (sym c.in-Other.is ∙ c.target_of.ensures) c.plain_callee-in-Other.ensures.does

pub returns-in-Dot-clause-closed : goal.returns-in-Dot-clause-closed
returns-in-Dot-clause-closed c closed scope =
    c.dot_object.ensures.closed closed (dot_named (nodes_of c.args.tree.now) c.args.callee c.in-Dot.object (sym c.in-Dot.is ∙ c.target_of.ensures)) scope

pub returns-in-Index-clause-closed : goal.returns-in-Index-clause-closed
returns-in-Index-clause-closed c closed scope = c.index_object.ensures.closed closed scope

pub returns-in-Name-clause-closed : goal.returns-in-Name-clause-closed
returns-in-Name-clause-closed c closed scope = c.plain_callee.ensures.closed closed scope

pub returns-in-Other-clause-closed : goal.returns-in-Other-clause-closed
returns-in-Other-clause-closed c closed scope = c.plain_callee-in-Other.ensures.closed closed scope
