use Rattle.std.proofs.Common.{refl}
use Rattle.js_step_object.proofs.Pushing.{push_ok, push_full}
use Rattle.js_step_object.proofs.Lasting.{push_lasts, push_stops}
use Rattle.js_step_object.proofs.element.push.Goals as goal

pub returns-in-Ok-clause-does : goal.returns-in-Ok-clause-does
returns-in-Ok-clause-does c nodes =
    push_ok nodes c.args.array c.args.value c.args.state.now (record c.args.state.now { heap = c.push_item.new.heap }) c.push_item.new.heap c.push_item.result _ (c.is_open.ensures.fits c.if-not-is_open.false) c.push_item.ensures c.in-Ok.is refl

pub returns-in-Err-Places-clause-does : goal.returns-in-Err-Places-clause-does
returns-in-Err-Places-clause-does c nodes =
    push_full nodes c.args.array c.args.value c.args.state.now (record c.args.state.now { heap = c.push_item.new.heap }) c.turn_to.new.self c.push_item.new.heap c.push_item.result _ c.stopped.result (c.is_open.ensures.fits c.if-not-is_open.false) c.push_item.ensures c.in-Err-Places.is c.in-Err-Places.field-0-is refl c.turn_to.ensures c.stopped.ensures

pub returns-in-Ok-clause-closed : goal.returns-in-Ok-clause-closed
returns-in-Ok-clause-closed c nodes closed unfrozen fit =
    push_lasts nodes c.args.array c.args.value c.args.state.now c.push_item.new.heap c.push_item.result closed unfrozen c.push_item.ensures _ fit c.in-Ok.is

pub returns-in-Err-Places-clause-closed : goal.returns-in-Err-Places-clause-closed
returns-in-Err-Places-clause-closed c nodes closed unfrozen fit =
    push_stops nodes c.args.array c.args.value c.args.state.now c.push_item.new.heap c.push_item.result closed unfrozen c.push_item.ensures c.turn_to.new.self _ c.in-Err-Places.is c.turn_to.ensures
