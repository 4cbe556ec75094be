use Rattle.proto_props.proofs.Exchanges.{body_stands}
use Rattle.proto_props.proofs.remove.blank.Goals as goal

pub cell-requires : goal.cell-requires
cell-requires c = body_stands c.args.heap.now.cells c.args.loc c.requires
