use Rattle.std.proofs.Common.{refl, false}
use Rattle.js_step_object.proofs.Defined.{has_body, add_ok, add_full}
use Rattle.js_step_object.proofs.Lasting.{add_lasts, add_stops}
use Rattle.js_step_object.proofs.defining.add_at.Goals as goal

pub add_property-requires : goal.add_property-requires
add_property-requires c = record {
  body = has_body c.args.state.now.heap.cells c.args.loc c.args.key false c.requires.stands;
  fits = c.requires.fits;
}

pub returns-in-Ok-clause-does : goal.returns-in-Ok-clause-does
returns-in-Ok-clause-does c nodes =
    add_ok nodes c.args.loc c.args.key c.args.property c.args.state.now (record c.args.state.now { heap = c.add_property.new.heap }) c.add_property.new.heap c.add_property.result _ c.requires.stands c.add_property.ensures c.in-Ok.is refl

pub returns-in-Err-Places-clause-does : goal.returns-in-Err-Places-clause-does
returns-in-Err-Places-clause-does c nodes =
    add_full nodes c.args.loc c.args.key c.args.property c.args.state.now (record c.args.state.now { heap = c.add_property.new.heap }) c.turn_to.new.self c.add_property.new.heap c.add_property.result _ c.stopped.result c.requires.stands c.add_property.ensures c.in-Err-Places.is c.in-Err-Places.field-0-is refl c.turn_to.ensures c.stopped.ensures

pub returns-in-Ok-clause-closed : goal.returns-in-Ok-clause-closed
returns-in-Ok-clause-closed c nodes closed =
    add_lasts nodes c.args.loc c.args.key c.args.property c.args.state.now c.add_property.new.heap c.add_property.result closed _ c.requires.stands c.requires.fits c.add_property.ensures c.in-Ok.is

pub returns-in-Err-Places-clause-closed : goal.returns-in-Err-Places-clause-closed
returns-in-Err-Places-clause-closed c nodes closed =
    add_stops nodes c.args.loc c.args.key c.args.property c.args.state.now c.add_property.new.heap c.add_property.result closed c.turn_to.new.self _ c.requires.stands c.add_property.ensures c.in-Err-Places.is c.turn_to.ensures
