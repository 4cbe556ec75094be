use Rattle.std.proofs.Common.{refl}
use Rattle.js_semantics.specs.Prog.{give}
use Rattle.js_calls.proofs.Rebinding.{bound_ok}
use Rattle.js_machine.specs.declared.state.State.{State}
use Rattle.js_machine.proofs.Closing.{closed_grown, lasts_on, value_grown}
use Rattle.js_calls.proofs.assigning.rebind.Goals as goal

pub returns-clause-does : goal.returns-clause-does
returns-clause-does c nodes =
    bound_ok nodes 4 c.args.env c.args.name.now c.args.value (give c.args.result_value) c.args.state.now _ c.give.new.self c.give.result c.in_ok-bind_in.ensures.is c.bind_in.ensures.rest refl (c.give.ensures.some nodes)

pub returns-clause-closed : goal.returns-clause-closed
returns-clause-closed c nodes closed value result_value =
    let old = c.args.state.now in
    let mid : State = record old { heap = c.bind_in.new.heap } in
    let went = closed_grown nodes old mid closed (c.in_ok-bind_in.ensures.closed value) refl refl refl in
    lasts_on nodes old mid c.give.new.self c.give.result went (c.give.ensures.closed nodes went.closed (value_grown nodes old.heap.cells mid.heap.cells went.grows c.args.result_value result_value))
