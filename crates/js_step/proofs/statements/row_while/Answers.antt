use Rattle.std.proofs.Common.{ℕ, Ok, arith}
use Rattle.js_names.specs.Patterns.{nodes_of}
use Rattle.world_heap.specs.declared.value.Value.{Value}
use Rattle.js_semantics.specs.Prog.{Prog}
use Rattle.js_semantics.specs.Statements.{row_while, while_turn}
use Rattle.js_machine.proofs.Closing.{lasts_on, scope_grown}
use Rattle.js_primary.proofs.Evaluating.{nothing_ok, taken_ended, taken_ok}
use Rattle.js_step_stmt.proofs.Looping.{does_while_ok}
use Rattle.js_step.proofs.statements.row_while.Goals as goal

pub returns-in-Value-clause-does : goal.returns-in-Value-clause-does
unfolding row_while
returns-in-Value-clause-does c =
    let nodes = nodes_of c.args.tree.now in
    let k : Value ℕ → Prog ℕ = λ v. while_turn c.args.test c.args.body c.args.scope v in
    does_while_ok nodes 6 c.args.test c.args.body c.args.scope _ _ _
    (taken_ok nodes 6 c.args.test c.args.scope k _ _ _ _ c.in-Value.value _ c.in_ok-value.ensures.does c.in-Value.is (c.while_tested.ensures.does nodes))

pub returns-in-Ended-clause-does : goal.returns-in-Ended-clause-does
unfolding row_while
returns-in-Ended-clause-does c =
    let nodes = nodes_of c.args.tree.now in
    let k : Value ℕ → Prog ℕ = λ v. while_turn c.args.test c.args.body c.args.scope v in
    does_while_ok nodes 6 c.args.test c.args.body c.args.scope _ _ (Ok c.in-Ended.next)
    (taken_ended nodes 6 c.args.test c.args.scope k _ _ _ _ (omega arith) c.in_ok-value.ensures.does c.in-Ended.is)

pub returns-in-Nothing-clause-does : goal.returns-in-Nothing-clause-does
returns-in-Nothing-clause-does c =
    let nodes = nodes_of c.args.tree.now in
    nothing_ok nodes 6 _ c.args.test c.args.scope _ _ _ _ _ c.in_ok-value.ensures.does c.in-Nothing.is (c.row_while.ensures.does nodes)

pub returns-in-Value-clause-closed : goal.returns-in-Value-clause-closed
returns-in-Value-clause-closed c closed scope =
    let nodes = nodes_of c.args.tree.now in
    let old = c.args.state.now in
    let mid = c.take_value.new.state in
    let went = c.in_ok-value.ensures.closed closed scope in
    let around = scope_grown nodes old.heap.cells mid.heap.cells went.0.grows c.args.scope scope in
    lasts_on nodes old mid c.while_tested.new.state c.while_tested.result went.0
    (c.while_tested.ensures.closed nodes went.0.closed around (rw c.in-Value.is at went.1))

pub returns-in-Nothing-clause-closed : goal.returns-in-Nothing-clause-closed
returns-in-Nothing-clause-closed c closed scope =
    let nodes = nodes_of c.args.tree.now in
    let old = c.args.state.now in
    let mid = c.take_value.new.state in
    let went = c.in_ok-value.ensures.closed closed scope in
    let around = scope_grown nodes old.heap.cells mid.heap.cells went.0.grows c.args.scope scope in
    lasts_on nodes old mid c.row_while.new.state c.row_while.result went.0
    (c.row_while.ensures.closed nodes went.0.closed around)
