use Rattle.std.proofs.Common.{arith}
use Rattle.std.proofs.lemmas.Result.{err_from_is_err_and}
use Rattle.js_names.specs.Patterns.{nodes_of}
use Rattle.std.proofs.Common.{refl}
use Rattle.std.specs.Prelude.{ℕ, List, Option}
use Rattle.world_heap.specs.declared.value.Value.{Value}
use Rattle.js_tree.specs.declared.node.Node.{Node}
use Rattle.js_semantics.specs.Prog.{Prog}
use Rattle.js_semantics.specs.Access.{write_name}
use Rattle.js_semantics.specs.Expressions.{row_update, update_target, updated}
use Rattle.js_machine.proofs.Closing.{lasts_on, scope_grown}
use Rattle.js_machine.proofs.Doing.{allowing_ok}
use Rattle.js_step_access.proofs.Bound.{bound_ended, bound_named, bound_ok, not_bound_ok}
use Rattle.js_step_access.proofs.rows.row_update.Goals as goal

pub returns-in-Value-clause-does : goal.returns-in-Value-clause-does
unfolding row_update
returns-in-Value-clause-does c =
    let nodes = nodes_of c.args.tree.now in
    let f : Option Node → Prog ℕ = λ n. update_target c.args.operator c.args.before n c.args.scope in
    let k : List ℕ → Value ℕ → Prog ℕ = λ name old. updated c.args.operator c.args.before old (λ new p. write_name c.args.scope.env name new p) in
    bound_ok nodes 6 f c.args.target c.args.scope.env k (λ name. refl) _ _ _ _ c.in-Value.old _ c.in_ok-old.ensures.does c.in-Value.is (allowing_ok nodes 4 6 _ _ _ _ (omega arith) c.after_update.ensures.does)

pub returns-in-Ended-clause-does : goal.returns-in-Ended-clause-does
unfolding row_update
returns-in-Ended-clause-does c =
    let nodes = nodes_of c.args.tree.now in
    let f : Option Node → Prog ℕ = λ n. update_target c.args.operator c.args.before n c.args.scope in
    let k : List ℕ → Value ℕ → Prog ℕ = λ name old. updated c.args.operator c.args.before old (λ new p. write_name c.args.scope.env name new p) in
    bound_ended nodes 6 f c.args.target c.args.scope.env k (λ name. refl) _ _ _ _ (omega arith) c.in_ok-old.ensures.does c.in-Ended.is

pub returns-in-Nothing-clause-does : goal.returns-in-Nothing-clause-does
returns-in-Nothing-clause-does c = not_bound_ok (nodes_of c.args.tree.now) 6 _ c.args.target c.args.scope.env _ _ _ _ _ c.in_ok-old.ensures.does c.in-Nothing.is c.update_target.ensures.does

pub returns-in_err-old-clause-closed : goal.returns-in_err-old-clause-closed
returns-in_err-old-clause-closed c closed scope =
    let p = err_from_is_err_and c.from_residual.result c.from_residual.ensures.1 in rw (p.1, p.2) (c.in_err-old.ensures.closed closed)

pub returns-in-Value-clause-closed : goal.returns-in-Value-clause-closed
returns-in-Value-clause-closed c closed scope =
    let nodes = nodes_of c.args.tree.now in
    let old = c.args.state.now in
    let mid = c.take_bound.new.state in
    let went = c.in_ok-old.ensures.closed closed in
    let around = scope_grown nodes old.heap.cells mid.heap.cells went.0.grows c.args.scope scope in
    let named = bound_named nodes c.args.target c.args.scope.env old mid _ c.in-Value.old c.in_ok-old.ensures.does c.in-Value.is in
    lasts_on nodes old mid c.after_update.new.state c.after_update.result went.0
    (c.after_update.ensures.closed went.0.closed (named, around.0) (rw c.in-Value.is at went.1))

pub returns-in-Ended-clause-closed : goal.returns-in-Ended-clause-closed
returns-in-Ended-clause-closed c closed scope = (c.in_ok-old.ensures.closed closed).0

pub returns-in-Nothing-clause-closed : goal.returns-in-Nothing-clause-closed
returns-in-Nothing-clause-closed c closed scope =
    let nodes = nodes_of c.args.tree.now in
    let old = c.args.state.now in
    let mid = c.take_bound.new.state in
    let went = c.in_ok-old.ensures.closed closed in
    lasts_on nodes old mid c.update_target.new.state c.update_target.result went.0
    (c.update_target.ensures.closed went.0.closed (scope_grown nodes old.heap.cells mid.heap.cells went.0.grows c.args.scope scope))
