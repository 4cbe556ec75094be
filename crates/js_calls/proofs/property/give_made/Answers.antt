use Rattle.std.proofs.Common.{arith, true, false}
use Rattle.js_machine.specs.Frames.{after_rest}
use Rattle.js_calls.proofs.Reading.{made_ok, not_made, unmade_ok}
use Rattle.js_machine.proofs.Closing.{after_grown, closed_units, lasts_on, value_grown}
use Rattle.js_calls.proofs.property.give_made.Goals as goal

pub returns-then-not-count_units-clause-does : goal.returns-then-not-count_units-clause-does
returns-then-not-count_units-clause-does c nodes =
    rw (c.if-made.true, c.stopped.ensures) (not_made nodes 6 c.args.value (λ v. after_rest nodes c.args.frame v) c.args.state.now c.count_units.new.self (omega arith) c.if-not-count_units.ensures)

pub returns-then-made-clause-does : goal.returns-then-made-clause-does
returns-then-made-clause-does c nodes =
    rw c.if-made.true (made_ok nodes 6 c.args.value (λ v. after_rest nodes c.args.frame v) c.args.state.now c.count_units.new.self c.hand.new.self c.hand.result c.if-not-count_units.ensures (c.hand.ensures.does nodes))

pub returns-clause-does : goal.returns-clause-does
returns-clause-does c nodes = rw c.if-made.false (unmade_ok nodes 6 c.args.value (λ v. after_rest nodes c.args.frame v) c.args.state.now c.hand-2.new.self c.hand-2.result (c.hand-2.ensures.does nodes))

pub returns-then-not-count_units-clause-closed : goal.returns-then-not-count_units-clause-closed
returns-then-not-count_units-clause-closed c nodes closed value frame = closed_units nodes 1 c.args.state.now c.count_units.new.self false closed c.if-not-count_units.ensures

pub returns-then-made-clause-closed : goal.returns-then-made-clause-closed
returns-then-made-clause-closed c nodes closed value frame =
    let old = c.args.state.now in
    let mid = c.count_units.new.self in
    let went = closed_units nodes 1 old mid true closed c.if-not-count_units.ensures in
    lasts_on nodes old mid c.hand.new.self c.hand.result went
    (c.hand.ensures.closed nodes went.closed (after_grown nodes old.heap.cells mid.heap.cells went.grows c.args.frame frame) (value_grown nodes old.heap.cells mid.heap.cells went.grows c.args.value value))

pub returns-clause-closed : goal.returns-clause-closed
returns-clause-closed c nodes closed value frame = c.hand-2.ensures.closed nodes closed frame value
