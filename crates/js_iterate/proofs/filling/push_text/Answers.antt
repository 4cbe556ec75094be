use Rattle.std.proofs.Common.{true, false}
use Rattle.js_semantics.specs.Iteration.{push_item}
use Rattle.js_machine.specs.Does.{CountsUnits}
use Rattle.js_iterate.proofs.Turns.{text_comes, text_not}
use Rattle.js_machine.proofs.Closing.{closed_units, lasts_on}
use Rattle.js_iterate.proofs.filling.push_text.Goals as goal

pub returns-then-not-count_units-clause-does : goal.returns-then-not-count_units-clause-does
returns-then-not-count_units-clause-does c nodes =
    let h : CountsUnits c.len-units.result c.args.state.now c.count_units.new.self false = rw c.if-not-count_units.true at c.count_units.ensures in
    rw c.stopped.ensures (text_not nodes c.args.text c.len-units.result (λ v p. push_item c.args.array v p) c.args.state.now c.count_units.new.self c.len-units.ensures.value c.len-units.ensures.limit h)

pub returns-clause-does : goal.returns-clause-does
returns-clause-does c nodes =
    let h : CountsUnits c.len-units.result c.args.state.now c.count_units.new.self true = rw c.if-not-count_units.false at c.count_units.ensures in
    text_comes nodes c.args.text c.len-units.result (λ v p. push_item c.args.array v p) c.args.state.now c.count_units.new.self c.push.new.state c.push.result c.len-units.ensures.value c.len-units.ensures.limit h (c.push.ensures.does nodes)

pub returns-then-not-count_units-clause-closed : goal.returns-then-not-count_units-clause-closed
returns-then-not-count_units-clause-closed c nodes closed unfrozen =
    closed_units nodes c.len-units.result c.args.state.now c.count_units.new.self c.count_units.result closed c.count_units.ensures

pub returns-clause-closed : goal.returns-clause-closed
returns-clause-closed c nodes closed unfrozen =
    let went = closed_units nodes c.len-units.result c.args.state.now c.count_units.new.self c.count_units.result closed c.count_units.ensures in
    lasts_on nodes c.args.state.now c.count_units.new.self c.push.new.state c.push.result went (c.push.ensures.closed nodes went.closed (went.grows.open_array c.args.array unfrozen) tt)
