use Rattle.std.proofs.Common.{length, arith}
use Rattle.js_machine.proofs.Allocating.{does_units_ok, does_not_units}
use Rattle.js_machine.proofs.Closing.{closed_units, lasts_on}
use Rattle.js_natives.proofs.require.throw_message.Goals as goal

pub returns-then-count_units-clause-does : goal.returns-then-count_units-clause-does
returns-then-count_units-clause-does c nodes = does_units_ok nodes 6 (length c.args.message) _ _ _ _ _ (rw (c.if-count_units.true, c.len.ensures.value) at c.count_units.ensures) (c.thrown.ensures.does nodes)

pub returns-else-count_units-clause-does : goal.returns-else-count_units-clause-does
returns-else-count_units-clause-does c nodes = rw c.stopped.ensures (does_not_units nodes 6 (length c.args.message) _ _ _ (omega arith) (rw (c.if-count_units.false, c.len.ensures.value) at c.count_units.ensures))

pub returns-then-count_units-clause-closed : goal.returns-then-count_units-clause-closed
returns-then-count_units-clause-closed c nodes closed =
    let old = c.args.state.now in
    let mid = c.count_units.new.self in
    let went = closed_units nodes c.len.result old mid c.count_units.result closed c.count_units.ensures in
    lasts_on nodes old mid c.thrown.new.state c.thrown.result went (c.thrown.ensures.closed nodes went.closed)

pub returns-else-count_units-clause-closed : goal.returns-else-count_units-clause-closed
returns-else-count_units-clause-closed c nodes closed = closed_units nodes c.len.result c.args.state.now c.count_units.new.self c.count_units.result closed c.count_units.ensures
