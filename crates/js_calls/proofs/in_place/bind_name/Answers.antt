use Rattle.std.proofs.Common.{refl, arith}
use Rattle.js_semantics.specs.Prog.{Bind, on_value}
use Rattle.js_machine.proofs.Closing.{closed_grown, closed_step, goes_on, value_grown}
use Rattle.js_machine.proofs.Doing.{not_entered}
use Rattle.js_calls.proofs.Placing.{name_bound}
use Rattle.js_calls.proofs.in_place.bind_name.Goals as goal

pub returns-then-not-step_down-clause-does : goal.returns-then-not-step_down-clause-does
returns-then-not-step_down-clause-does c nodes pattern p named =
    let (none, is) = rw c.if-not-step_down.true at c.step_down.ensures in
    rw c.stopped.ensures (not_entered nodes 2 c.args.state.now c.step_down.new.self (Bind pattern c.args.value c.args.scope.now) (λ o. on_value (λ u. p) o) (omega arith) none is)

pub returns-clause-does : goal.returns-clause-does
returns-clause-does c nodes pattern p named =
    name_bound nodes pattern c.args.name.now c.args.value c.args.scope.now p c.args.state.now c.step_down.new.self c.fill_name.new.heap named (rw c.if-not-step_down.false at c.step_down.ensures) c.in_ok-fill_name.ensures.rest c.in_ok-fill_name.ensures.is

pub returns-then-not-step_down-clause-closed : goal.returns-then-not-step_down-clause-closed
returns-then-not-step_down-clause-closed c nodes closed value = closed_step nodes c.args.state.now c.step_down.new.self c.step_down.result closed c.step_down.ensures

pub returns-clause-closed : goal.returns-clause-closed
returns-clause-closed c nodes closed value =
    let old = c.args.state.now in
    let mid = c.step_down.new.self in
    let new = record mid { heap = c.fill_name.new.heap } in
    let stepped = closed_step nodes old mid c.step_down.result closed c.step_down.ensures in
    let went = closed_grown nodes mid new stepped.closed (c.in_ok-fill_name.ensures.closed (value_grown nodes old.heap.cells mid.heap.cells stepped.grows c.args.value value)) refl refl refl in
    goes_on nodes old mid new stepped went
