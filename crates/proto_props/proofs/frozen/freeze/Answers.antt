use Rattle.std.proofs.Common.{◌∙◌, sym, ap}
use Rattle.std.specs.Option.{option_and_then}
use Rattle.world_heap.specs.Maps.{keys}
use Rattle.world_heap.specs.Bodies.{body_of}
use Rattle.world_heap.specs.Views.{HeapView}
use Rattle.proto_props.proofs.Exchanges.{frozen_none, none_frozen, keys_frozen}
use Rattle.proto_props.proofs.frozen.freeze.Goals as goal

pub freeze_body-requires : goal.freeze_body-requires
freeze_body-requires c = (c.in-Some.field-0.now, ap (option_and_then body_of) c.cell.ensures.found ∙ sym c.in-Some.ensures)

pub returns-in-None-clause-is : goal.returns-in-None-clause-is
returns-in-None-clause-is c =
    let same = frozen_none c.cell.result.now (sym c.in-None.ensures) c.in_default.not-Array in
    let cells = none_frozen c.args.heap.now.cells c.args.loc c.cell.result.now c.cell.ensures.found same in
    sym (ap (λ cs. record c.args.heap.now { cells = cs }) cells)

pub returns-in-Array-clause-keys : goal.returns-in-Array-clause-keys
returns-in-Array-clause-keys c = ap (λ (v : HeapView). keys v.cells) c.freeze_array.ensures ∙ keys_frozen c.args.heap.now.cells c.args.loc

pub returns-in-Some : goal.returns-in-Some
returns-in-Some c = record {
  is = c.freeze_body.ensures;
  keys = ap (λ (v : HeapView). keys v.cells) c.freeze_body.ensures ∙ keys_frozen c.args.heap.now.cells c.args.loc;
}
