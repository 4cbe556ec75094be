use Rattle.std.proofs.Common.{◌∙◌, Some, sym, ap, subst, nat_eq}
use Rattle.world_heap.specs.Heaps.{Fits}
use Rattle.proto_props.proofs.Turns.{within_stands}
use Rattle.proto_props.proofs.Deciding.{keys_carried, sets_element, sets_named, sets_other}
use Rattle.proto_props.proofs.setting.set_step.Goals as goal

pub set_element-requires : goal.set_element-requires
set_element-requires c =
    let fit = subst (Fits nat_eq c.args.heap.now.cells) c.in-View.is c.cell.ensures.fits in
    within_stands c.args.heap.now.cells c.in-View.buffer c.in-View.offset c.in-View.length fit.1

pub returns-in-Some-clause-is : goal.returns-in-Some-clause-is
returns-in-Some-clause-is c =
    let found = c.cell.ensures.found ∙ ap Some c.in-View.is in
    let v = c.in-View in
    rw (sets_element c.args.heap.now.cells c.args.loc c.args.key c.args.value v.body v.buffer v.offset v.length c.in-Some.index found (sym c.index_of.ensures.value ∙ c.in-Some.is)) c.set_element.ensures

pub returns-in-Some-clause-keys : goal.returns-in-Some-clause-keys
returns-in-Some-clause-keys c = keys_carried _ c.args.heap.now c.set_element.new.heap c.set_element.result c.set_element.ensures

pub returns-in-None-clause-is : goal.returns-in-None-clause-is
returns-in-None-clause-is c =
    rw (sets_named c.args.heap.now.cells c.args.loc c.args.key c.args.value (sym c.index_of.ensures.value ∙ c.in-None.is)) c.set_reached.ensures

pub returns-in-None-clause-keys : goal.returns-in-None-clause-keys
returns-in-None-clause-keys c = keys_carried _ c.args.heap.now c.set_reached.new.heap c.set_reached.result c.set_reached.ensures

pub returns-in_default : goal.returns-in_default
returns-in_default c = record {
  is = rw (sets_other c.args.heap.now.cells c.args.loc c.args.key c.args.value c.cell.result.now c.cell.ensures.found c.in_default.not-View) c.set_reached-in_default.ensures;
  keys = keys_carried _ c.args.heap.now c.set_reached-in_default.new.heap c.set_reached-in_default.result c.set_reached-in_default.ensures;
}
