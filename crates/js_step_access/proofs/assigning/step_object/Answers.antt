use Rattle.std.proofs.Common.{ℕ, arith}
use Rattle.std.proofs.lemmas.Result.{err_from_is_err_and}
use Rattle.world_heap.specs.declared.value.Value.{Value}
use Rattle.js_names.specs.Patterns.{nodes_of}
use Rattle.js_semantics.specs.Prog.{Prog, eval, step}
use Rattle.js_machine.specs.declared.frame.Key.TheVariants.{Named}
use Rattle.js_machine.specs.declared.frame.Use.TheVariants.{Assign}
use Rattle.js_machine.specs.Frames.{use_rest}
use Rattle.js_machine.proofs.Closing.{closed_step, goes_on, lasts_on, scope_grown}
use Rattle.js_machine.proofs.Doing.{does_move, does_step_ok, moves_step, not_stepped}
use Rattle.js_primary.proofs.Evaluating.{nothing_ok, taken_ended, taken_ok}
use Rattle.js_step_access.proofs.assigning.step_object.Goals as goal

pub returns-then-not-step_down-clause-does : goal.returns-then-not-step_down-clause-does
returns-then-not-step_down-clause-does c = rw c.stopped.ensures (not_stepped (nodes_of c.args.tree.now) _ _ _ (rw c.if-not-step_down.true at c.step_down.ensures))

pub returns-in-Value-clause-does : goal.returns-in-Value-clause-does
returns-in-Value-clause-does c =
    let nodes = nodes_of c.args.tree.now in
    let k : Value ℕ → Prog ℕ = λ base. use_rest nodes (Assign c.args.value) base (Named c.args.node) c.args.scope in
    does_step_ok nodes 6 (eval c.args.object c.args.scope k) _ _ _ _ (rw c.if-not-step_down.false at c.step_down.ensures)
    (taken_ok nodes 6 c.args.object c.args.scope k _ _ _ _ c.in-Value.base _ c.in_ok-base.ensures.does c.in-Value.is c.use_property.ensures.does)

pub returns-in-Ended-clause-does : goal.returns-in-Ended-clause-does
returns-in-Ended-clause-does c =
    let nodes = nodes_of c.args.tree.now in
    let k : Value ℕ → Prog ℕ = λ base. use_rest nodes (Assign c.args.value) base (Named c.args.node) c.args.scope in
    let p : Prog ℕ = eval c.args.object c.args.scope k in
    does_move nodes 6 (step p) p _ c.step_down.new.self _ _ (moves_step nodes p _ _ (rw c.if-not-step_down.false at c.step_down.ensures))
    (taken_ended nodes 6 c.args.object c.args.scope k _ _ _ _ (omega arith) c.in_ok-base.ensures.does c.in-Ended.is)

pub returns-in_ok-inner-in-Nothing-clause-does : goal.returns-in_ok-inner-in-Nothing-clause-does
returns-in_ok-inner-in-Nothing-clause-does c =
    let nodes = nodes_of c.args.tree.now in
    let k : Value ℕ → Prog ℕ = λ base. use_rest nodes (Assign c.args.value) base (Named c.args.node) c.args.scope in
    does_step_ok nodes 6 (eval c.args.object c.args.scope k) _ _ _ _ (rw c.if-not-step_down.false at c.step_down.ensures)
    (nothing_ok nodes 6 _ c.args.object c.args.scope _ _ _ _ _ c.in_ok-base.ensures.does c.in-Nothing.is (rw c.in_ok-inner-in-Nothing.ensures at (c.enter.ensures.many nodes)))

pub returns-then-not-step_down-clause-closed : goal.returns-then-not-step_down-clause-closed
returns-then-not-step_down-clause-closed c closed named scope = closed_step (nodes_of c.args.tree.now) c.args.state.now c.step_down.new.self c.step_down.result closed c.step_down.ensures

pub returns-in_err-base-clause-closed : goal.returns-in_err-base-clause-closed
returns-in_err-base-clause-closed c closed named scope =
    let nodes = nodes_of c.args.tree.now in
    let old = c.args.state.now in
    let stepped = closed_step nodes old c.step_down.new.self c.step_down.result closed c.step_down.ensures in
    let p = err_from_is_err_and c.from_residual.result c.from_residual.ensures.1 in
    rw (p.1, p.2) (c.in_err-base.ensures.closed stepped.closed (scope_grown nodes old.heap.cells c.step_down.new.self.heap.cells stepped.grows c.args.scope scope))

pub returns-in-Value-clause-closed : goal.returns-in-Value-clause-closed
returns-in-Value-clause-closed c closed named scope =
    let nodes = nodes_of c.args.tree.now in
    let old = c.args.state.now in
    let mid = c.take_value.new.state in
    let stepped = closed_step nodes old c.step_down.new.self c.step_down.result closed c.step_down.ensures in
    let went = c.in_ok-base.ensures.closed stepped.closed (scope_grown nodes old.heap.cells c.step_down.new.self.heap.cells stepped.grows c.args.scope scope) in
    let so = goes_on nodes old c.step_down.new.self mid stepped went.0 in
    let around = scope_grown nodes old.heap.cells mid.heap.cells so.grows c.args.scope scope in
    lasts_on nodes old mid c.use_property.new.state c.use_property.result so (c.use_property.ensures.closed so.closed (rw c.in-Value.is at went.1) named around)

pub returns-in-Ended-clause-closed : goal.returns-in-Ended-clause-closed
returns-in-Ended-clause-closed c closed named scope =
    let nodes = nodes_of c.args.tree.now in
    let old = c.args.state.now in
    let stepped = closed_step nodes old c.step_down.new.self c.step_down.result closed c.step_down.ensures in
    goes_on nodes old c.step_down.new.self c.take_value.new.state stepped (c.in_ok-base.ensures.closed stepped.closed (scope_grown nodes old.heap.cells c.step_down.new.self.heap.cells stepped.grows c.args.scope scope)).0

pub returns-in_err-inner-in-Nothing-clause-closed : goal.returns-in_err-inner-in-Nothing-clause-closed
returns-in_err-inner-in-Nothing-clause-closed c closed named scope =
    let p = err_from_is_err_and c.from_residual-in_err-inner-in-Nothing.result c.from_residual-in_err-inner-in-Nothing.ensures.1 in rw (p.1, p.2) (c.in_err-inner-in-Nothing.ensures)

pub returns-in_ok-inner-in-Nothing-clause-closed : goal.returns-in_ok-inner-in-Nothing-clause-closed
returns-in_ok-inner-in-Nothing-clause-closed c closed named scope =
    let nodes = nodes_of c.args.tree.now in
    let old = c.args.state.now in
    let mid = c.take_value.new.state in
    let stepped = closed_step nodes old c.step_down.new.self c.step_down.result closed c.step_down.ensures in
    let went = c.in_ok-base.ensures.closed stepped.closed (scope_grown nodes old.heap.cells c.step_down.new.self.heap.cells stepped.grows c.args.scope scope) in
    let so = goes_on nodes old c.step_down.new.self mid stepped went.0 in
    let around = scope_grown nodes old.heap.cells mid.heap.cells so.grows c.args.scope scope in
    lasts_on nodes old mid c.enter.new.self c.enter.result so (c.enter.ensures.closed nodes so.closed (named, around) (rw c.in_ok-inner-in-Nothing.ensures around))
