use Rattle.std.proofs.Common.{◌∙◌, sym, ap}
use Rattle.std.specs.Option.{option_and_then}
use Rattle.world_heap.specs.Maps.{keys}
use Rattle.world_heap.specs.Views.{HeapView}
use Rattle.proto_props.specs.declared.remove.Removal.TheVariants.{Free}
use Rattle.world_heap.specs.Bodies.{body_of}
use Rattle.proto_props.proofs.Exchanges.{free_body, keys_removed}
use Rattle.proto_props.proofs.remove.delete.Goals as goal

pub take_out-requires : goal.take_out-requires
take_out-requires c =
    let b = free_body c.cell.result.now c.args.key.now (sym c.cell_removal.ensures ∙ c.in-Free.is) in
    (b.0, ap (option_and_then body_of) c.cell.ensures.found ∙ b.1)

pub returns-in-Free-clause-keys : goal.returns-in-Free-clause-keys
returns-in-Free-clause-keys c = ap (λ (v : HeapView). keys v.cells) c.take_out.ensures ∙ keys_removed Free c.args.heap.now.cells c.args.loc c.args.key.now
