use Rattle.js_step_object.proofs.Making.{object_ok, object_err}
use Rattle.std.proofs.lemmas.Result.{err_from_is_err_and}
use Rattle.js_step_object.proofs.Lasting.{made_lasts, made_plain, plain_cell, proto_fits, stop_lasts}
use Rattle.std.proofs.Common.{refl}
use Rattle.world_heap.specs.declared.builtin.BuiltIn.TheVariants.{ObjectPrototype}
use Rattle.js_step_object.proofs.functions.plain_object.Goals as goal

pub returns-in-Ok-clause-does : goal.returns-in-Ok-clause-does
returns-in-Ok-clause-does c nodes =
    object_ok nodes c.built_in-proto.result c.args.state.now c.make_object.new.self c.in-Ok.loc (λ supply. c.built_in-proto.ensures nodes supply) (rw c.in-Ok.is at c.in_ok-loc.ensures)

pub returns-in-Err-clause-does : goal.returns-in-Err-clause-does
returns-in-Err-clause-does c nodes =
    object_err nodes c.built_in-proto.result c.args.state.now c.make_object.new.self c.in-Err.stop c.stopped.result (λ supply. c.built_in-proto.ensures nodes supply) (rw c.in-Err.is at c.in_ok-loc.ensures) c.stopped.ensures

pub returns-in_err-loc-clause-closed : goal.returns-in_err-loc-clause-closed
returns-in_err-loc-clause-closed c nodes closed =
    let p = err_from_is_err_and c.from_residual.result c.from_residual.ensures.1 in rw (p.1, p.2) (c.in_err-loc.ensures (proto_fits nodes c.args.state.now ObjectPrototype c.built_in-proto.result closed (c.built_in-proto.ensures nodes (λ n. n)), tt))

pub returns-in-Ok-clause-closed : goal.returns-in-Ok-clause-closed
returns-in-Ok-clause-closed c nodes closed =
    made_lasts nodes (plain_cell c.built_in-proto.result) c.args.state.now c.make_object.new.self _ c.in_ok-loc.ensures c.in-Ok.loc c.in-Ok.is closed (proto_fits nodes c.args.state.now ObjectPrototype c.built_in-proto.result closed (c.built_in-proto.ensures nodes (λ n. n)), tt)

pub returns-in-Err-clause-closed : goal.returns-in-Err-clause-closed
returns-in-Err-clause-closed c nodes closed =
    stop_lasts nodes (plain_cell c.built_in-proto.result) c.args.state.now c.make_object.new.self _ c.in_ok-loc.ensures c.in-Err.stop c.in-Err.is closed

pub returns-in-Ok-clause-fits : goal.returns-in-Ok-clause-fits
returns-in-Ok-clause-fits c nodes closed =
    made_plain nodes (plain_cell c.built_in-proto.result) c.args.state.now c.make_object.new.self _ c.in_ok-loc.ensures c.in-Ok.loc c.in-Ok.is refl
