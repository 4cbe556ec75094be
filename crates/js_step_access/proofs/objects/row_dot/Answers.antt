use Rattle.std.proofs.Common.{arith}
use Rattle.std.proofs.lemmas.Result.{err_from_is_err_and}
use Rattle.js_names.specs.Patterns.{nodes_of}
use Rattle.std.specs.Prelude.{ℕ}
use Rattle.world_heap.specs.declared.value.Value.{Value}
use Rattle.js_semantics.specs.Prog.{Prog}
use Rattle.js_semantics.specs.Expressions.{row_dot}
use Rattle.js_machine.specs.declared.frame.Key.TheVariants.{Named}
use Rattle.js_machine.specs.declared.frame.Use.TheVariants.{Get}
use Rattle.js_machine.specs.Frames.{use_rest}
use Rattle.js_machine.proofs.Closing.{lasts_on, scope_grown}
use Rattle.js_primary.proofs.Evaluating.{nothing_ok, taken_ended, taken_ok}
use Rattle.js_step_access.proofs.objects.row_dot.Goals as goal

pub returns-in-Value-clause-does : goal.returns-in-Value-clause-does
unfolding row_dot
returns-in-Value-clause-does c =
    let nodes = nodes_of c.args.tree.now in
    let k : Value ℕ → Prog ℕ = λ base. use_rest nodes Get base (Named c.args.node) c.args.scope in
    taken_ok nodes 6 c.args.object c.args.scope k _ _ _ _ c.in-Value.base _ c.in_ok-base.ensures.does c.in-Value.is c.use_property.ensures.does

pub returns-in-Ended-clause-does : goal.returns-in-Ended-clause-does
unfolding row_dot
returns-in-Ended-clause-does c =
    let nodes = nodes_of c.args.tree.now in
    let k : Value ℕ → Prog ℕ = λ base. use_rest nodes Get base (Named c.args.node) c.args.scope in
    taken_ended nodes 6 c.args.object c.args.scope k _ _ _ _ (omega arith) c.in_ok-base.ensures.does c.in-Ended.is

pub returns-in-Nothing-clause-does : goal.returns-in-Nothing-clause-does
returns-in-Nothing-clause-does c =
    let nodes = nodes_of c.args.tree.now in
    nothing_ok nodes 6 _ c.args.object c.args.scope _ _ _ _ _ c.in_ok-base.ensures.does c.in-Nothing.is (c.row_dot.ensures.does nodes)

pub returns-in_err-base-clause-closed : goal.returns-in_err-base-clause-closed
returns-in_err-base-clause-closed c closed named scope =
    let p = err_from_is_err_and c.from_residual.result c.from_residual.ensures.1 in rw (p.1, p.2) (c.in_err-base.ensures.closed closed scope)

pub returns-in-Value-clause-closed : goal.returns-in-Value-clause-closed
returns-in-Value-clause-closed c closed named scope =
    let nodes = nodes_of c.args.tree.now in
    let old = c.args.state.now in
    let mid = c.take_value.new.state in
    let went = c.in_ok-base.ensures.closed closed scope in
    let around = scope_grown nodes old.heap.cells mid.heap.cells went.0.grows c.args.scope scope in
    lasts_on nodes old mid c.use_property.new.state c.use_property.result went.0
    (c.use_property.ensures.closed went.0.closed (rw c.in-Value.is at went.1) named around)

pub returns-in-Ended-clause-closed : goal.returns-in-Ended-clause-closed
returns-in-Ended-clause-closed c closed named scope = (c.in_ok-base.ensures.closed closed scope).0

pub returns-in-Nothing-clause-closed : goal.returns-in-Nothing-clause-closed
returns-in-Nothing-clause-closed c closed named scope =
    let nodes = nodes_of c.args.tree.now in
    let old = c.args.state.now in
    let mid = c.take_value.new.state in
    let went = c.in_ok-base.ensures.closed closed scope in
    let around = scope_grown nodes old.heap.cells mid.heap.cells went.0.grows c.args.scope scope in
    lasts_on nodes old mid c.row_dot.new.state c.row_dot.result went.0
    (c.row_dot.ensures.closed nodes went.0.closed named around)
