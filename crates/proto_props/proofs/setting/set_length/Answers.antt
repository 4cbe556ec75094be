use Rattle.proto_props.proofs.Arrays.{array_stands}
use Rattle.proto_props.proofs.setting.set_length.Goals as goal

pub cell-requires : goal.cell-requires
cell-requires c = array_stands c.args.heap.now.cells c.args.loc c.requires
