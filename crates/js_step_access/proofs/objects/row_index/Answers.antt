use Rattle.std.proofs.Common.{arith}
use Rattle.std.proofs.lemmas.Result.{err_from_is_err_and}
use Rattle.js_names.specs.Patterns.{nodes_of}
use Rattle.std.specs.Prelude.{ℕ}
use Rattle.world_heap.specs.declared.value.Value.{Value}
use Rattle.js_semantics.specs.Prog.{Prog}
use Rattle.js_semantics.specs.Expressions.{row_index}
use Rattle.js_machine.specs.declared.frame.PropertyFrame.TheVariants.{IndexObject}
use Rattle.js_machine.specs.declared.frame.Use.TheVariants.{Get}
use Rattle.js_machine.specs.Frames.{property_rest}
use Rattle.js_machine.proofs.Closing.{lasts_on, scope_grown}
use Rattle.js_primary.proofs.Evaluating.{nothing_ok, taken_ended, taken_ok}
use Rattle.js_step_access.proofs.objects.row_index.Goals as goal

pub returns-in-Value-clause-does : goal.returns-in-Value-clause-does
unfolding row_index
returns-in-Value-clause-does c =
    let nodes = nodes_of c.args.tree.now in
    let k : Value ℕ → Prog ℕ = λ base. property_rest nodes (IndexObject c.args.key Get c.args.scope) base in
    taken_ok nodes 6 c.args.object c.args.scope k _ _ _ _ c.in-Value.base _ c.in_ok-base.ensures.does c.in-Value.is c.key_operand.ensures.does

pub returns-in-Ended-clause-does : goal.returns-in-Ended-clause-does
unfolding row_index
returns-in-Ended-clause-does c =
    let nodes = nodes_of c.args.tree.now in
    let k : Value ℕ → Prog ℕ = λ base. property_rest nodes (IndexObject c.args.key Get c.args.scope) base in
    taken_ended nodes 6 c.args.object c.args.scope k _ _ _ _ (omega arith) c.in_ok-base.ensures.does c.in-Ended.is

pub returns-in-Nothing-clause-does : goal.returns-in-Nothing-clause-does
returns-in-Nothing-clause-does c =
    let nodes = nodes_of c.args.tree.now in
    nothing_ok nodes 6 _ c.args.object c.args.scope _ _ _ _ _ c.in_ok-base.ensures.does c.in-Nothing.is (c.row_index.ensures.does nodes)

pub returns-in_err-base-clause-closed : goal.returns-in_err-base-clause-closed
returns-in_err-base-clause-closed c closed scope =
    let p = err_from_is_err_and c.from_residual.result c.from_residual.ensures.1 in rw (p.1, p.2) (c.in_err-base.ensures.closed closed scope)

pub returns-in-Value-clause-closed : goal.returns-in-Value-clause-closed
returns-in-Value-clause-closed c closed scope =
    let nodes = nodes_of c.args.tree.now in
    let old = c.args.state.now in
    let mid = c.take_value.new.state in
    let went = c.in_ok-base.ensures.closed closed scope in
    let around = scope_grown nodes old.heap.cells mid.heap.cells went.0.grows c.args.scope scope in
    lasts_on nodes old mid c.key_operand.new.state c.key_operand.result went.0
    (c.key_operand.ensures.closed went.0.closed around (rw c.in-Value.is at went.1))

pub returns-in-Ended-clause-closed : goal.returns-in-Ended-clause-closed
returns-in-Ended-clause-closed c closed scope = (c.in_ok-base.ensures.closed closed scope).0

pub returns-in-Nothing-clause-closed : goal.returns-in-Nothing-clause-closed
returns-in-Nothing-clause-closed c closed scope =
    let nodes = nodes_of c.args.tree.now in
    let old = c.args.state.now in
    let mid = c.take_value.new.state in
    let went = c.in_ok-base.ensures.closed closed scope in
    let around = scope_grown nodes old.heap.cells mid.heap.cells went.0.grows c.args.scope scope in
    lasts_on nodes old mid c.row_index.new.state c.row_index.result went.0
    (c.row_index.ensures.closed nodes went.0.closed around)
