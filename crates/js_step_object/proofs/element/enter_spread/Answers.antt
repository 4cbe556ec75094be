use Rattle.std.proofs.Common.{false, true, drop, arith}
use Rattle.std.specs.Prelude.{slice_get}
use Rattle.world_heap.specs.declared.value.Value.TheVariants.{Ref}
use Rattle.js_semantics.specs.World.{cell_at}
use Rattle.js_semantics.specs.Prog.{Read, Step, eval, give}
use Rattle.js_semantics.specs.Iteration.{elements_into, items_at, push_items, walk_value}
use Rattle.js_machine.specs.Does.{StepsDown}
use Rattle.js_machine.specs.Parts.{items_of}
use Rattle.js_machine.proofs.Doing.{does_step_ok, not_entered}
use Rattle.std.proofs.lemmas.Result.{err_from_is_err_and}
use Rattle.js_machine.proofs.Closing.{closed_step, lasts_on, scope_grown}
use Rattle.js_step_object.proofs.element.enter_spread.Goals as goal

pub returns-then-not-step_down-clause-does : goal.returns-then-not-step_down-clause-does
returns-then-not-step_down-clause-does c nodes =
    let h : StepsDown c.args.state.now c.step_down.new.self false = rw c.if-not-step_down.true at c.step_down.ensures in
    rw c.stopped.ensures (not_entered nodes 6 c.args.state.now c.step_down.new.self Step _ (omega arith) h.0 h.1)

pub returns-clause-does : goal.returns-clause-does
returns-clause-does c nodes =
    let h : StepsDown c.args.state.now c.step_down.new.self true = rw c.if-not-step_down.false at c.step_down.ensures in
    does_step_ok nodes 6 (eval c.args.list c.args.scope (λ v. walk_value v (λ walked. Read (λ w. push_items c.args.array (items_at (cell_at walked w)) (elements_into c.args.array (drop c.args.next (items_of (slice_get nodes c.args.node.0))) c.args.scope (give (Ref c.args.array))))))) c.args.state.now c.step_down.new.self c.enter.new.self c.enter.result h (rw (c.in_ok-inner.ensures, c.literal.ensures) at (c.enter.ensures.many nodes))

pub returns-in_err-inner-clause-closed : goal.returns-in_err-inner-clause-closed
returns-in_err-inner-clause-closed c nodes closed array unfrozen scope =
    let p = err_from_is_err_and c.from_residual.result c.from_residual.ensures.1 in rw (p.1, p.2) (c.in_err-inner.ensures)

pub returns-then-not-step_down-clause-closed : goal.returns-then-not-step_down-clause-closed
returns-then-not-step_down-clause-closed c nodes closed array unfrozen scope =
    closed_step nodes c.args.state.now c.step_down.new.self c.step_down.result closed c.step_down.ensures

pub returns-clause-closed : goal.returns-clause-closed
returns-clause-closed c nodes closed array unfrozen scope =
    let went = closed_step nodes c.args.state.now c.step_down.new.self c.step_down.result closed c.step_down.ensures in
    let still = scope_grown nodes c.args.state.now.heap.cells c.step_down.new.self.heap.cells went.grows c.args.scope scope in
    lasts_on nodes c.args.state.now c.step_down.new.self c.enter.new.self c.enter.result went
    (c.enter.ensures.closed nodes went.closed (rw c.literal.ensures (went.grows.no_env c.args.array array, went.grows.open_array c.args.array unfrozen, still)) (rw c.in_ok-inner.ensures still))
