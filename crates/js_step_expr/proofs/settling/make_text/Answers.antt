use Rattle.js_step_expr.proofs.Settled.{moves_text, does_not_text}
use Rattle.js_machine.proofs.Closing.{closed_units}
use Rattle.js_step_expr.proofs.settling.make_text.Goals as goal

pub returns-then-count_units-clause-does : goal.returns-then-count_units-clause-does
returns-then-count_units-clause-does c nodes k = moves_text nodes c.args.text k _ _ (rw c.len.ensures.value at c.len.ensures.limit) (rw (c.if-count_units.true, c.len.ensures.value) at c.count_units.ensures)

pub returns-else-count_units-clause-does : goal.returns-else-count_units-clause-does
returns-else-count_units-clause-does c nodes k = rw c.stopped.ensures (does_not_text nodes c.args.text k _ _ (rw c.len.ensures.value at c.len.ensures.limit) (rw (c.if-count_units.false, c.len.ensures.value) at c.count_units.ensures))

pub returns-then-count_units-clause-closed : goal.returns-then-count_units-clause-closed
returns-then-count_units-clause-closed c nodes closed = (closed_units nodes c.len.result c.args.state.now c.count_units.new.self c.count_units.result closed c.count_units.ensures, tt)

pub returns-else-count_units-clause-closed : goal.returns-else-count_units-clause-closed
returns-else-count_units-clause-closed c nodes closed = (closed_units nodes c.len.result c.args.state.now c.count_units.new.self c.count_units.result closed c.count_units.ensures, tt)
