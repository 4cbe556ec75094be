use Rattle.std.proofs.Common.{refl, true}
use Rattle.js_step_object.proofs.Defined.{has_body, put_ok}
use Rattle.js_step_object.proofs.Lasting.{put_lasts}
use Rattle.js_step_object.proofs.defining.put_at.Goals as goal

pub put_property-requires : goal.put_property-requires
put_property-requires c = record {
  body = has_body c.args.state.now.heap.cells c.args.loc c.args.key true c.requires.stands;
  fits = c.requires.fits;
}

pub returns-in-Ok-clause-does : goal.returns-in-Ok-clause-does
returns-in-Ok-clause-does c nodes =
    put_ok nodes c.args.loc c.args.key c.args.property c.args.state.now (record c.args.state.now { heap = c.put_property.new.heap }) c.put_property.new.heap c.put_property.result _ c.requires.stands c.put_property.ensures c.in-Ok.is refl

pub returns-in-Ok-clause-closed : goal.returns-in-Ok-clause-closed
returns-in-Ok-clause-closed c nodes closed =
    put_lasts nodes c.args.loc c.args.key c.args.property c.args.state.now c.put_property.new.heap c.put_property.result closed _ c.requires.stands c.requires.fits c.put_property.ensures c.in-Ok.is
