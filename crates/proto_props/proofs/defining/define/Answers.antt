use Rattle.std.proofs.Common.{◌∙◌, Some, None, refl, sym, ap}
use Rattle.world_heap.specs.declared.cell.Cell.TheVariants.{View}
use Rattle.proto_props.proofs.Deciding.{keys_carried, defines_array, defines_view, defines_other}
use Rattle.proto_props.proofs.defining.define.Goals as goal

pub returns-in-Array-clause-is : goal.returns-in-Array-clause-is
returns-in-Array-clause-is c = rw (sym (defines_array c.args.heap.now.cells c.args.loc c.args.key c.args.property)) c.define_item.ensures

pub returns-in-Array-clause-keys : goal.returns-in-Array-clause-keys
returns-in-Array-clause-keys c = keys_carried _ c.args.heap.now c.define_item.new.heap c.define_item.result c.define_item.ensures

pub returns-in-Some-clause-is : goal.returns-in-Some-clause-is
returns-in-Some-clause-is c =
    let found = c.cell.ensures.found ∙ ap Some c.in-View.is in
    let v = c.in-View in
    rw (defines_view c.args.heap.now.cells c.args.loc c.args.key c.args.property v.body v.buffer v.offset v.length (Some c.in-Some.field-0) found (sym c.index_of.ensures.value ∙ c.in-Some.is)) (refl, refl)

pub returns-in-None-clause-is : goal.returns-in-None-clause-is
returns-in-None-clause-is c =
    let found = c.cell.ensures.found ∙ ap Some c.in-View.is in
    let v = c.in-View in
    rw (defines_view c.args.heap.now.cells c.args.loc c.args.key c.args.property v.body v.buffer v.offset v.length None found (sym c.index_of.ensures.value ∙ c.in-None.is)) (c.define_in.ensures (View v.body v.buffer v.offset v.length) found)

pub returns-in-None-clause-keys : goal.returns-in-None-clause-keys
returns-in-None-clause-keys c = keys_carried _ c.args.heap.now c.define_in.new.heap c.define_in.result (c.define_in.ensures c.cell.result.now c.cell.ensures.found)

pub returns-in_default : goal.returns-in_default
returns-in_default c =
    let done = c.define_in-in_default.ensures c.cell.result.now c.cell.ensures.found in
    record {
      is = rw (defines_other c.args.heap.now.cells c.args.loc c.args.key c.args.property c.cell.result.now c.cell.ensures.found c.in_default.not-Array c.in_default.not-View) done;
      keys = keys_carried _ c.args.heap.now c.define_in-in_default.new.heap c.define_in-in_default.result done;
    }
