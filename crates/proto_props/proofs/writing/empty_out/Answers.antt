use Rattle.std.proofs.Common.{◌∙◌, Some, ap, false, []}
use Rattle.proto_props.proofs.Exchanges.{well_array}
use Rattle.proto_props.proofs.Arrays.{array_stands}
use Rattle.proto_props.proofs.writing.empty_out.Goals as goal

pub cell-requires : goal.cell-requires
cell-requires c = array_stands c.args.heap.now.cells c.args.loc c.requires

pub replace-requires-clause-stands : goal.replace-requires-clause-stands
replace-requires-clause-stands c = array_stands c.args.heap.now.cells c.args.loc c.requires

pub replace-requires-clause-keeps : goal.replace-requires-clause-keeps
replace-requires-clause-keeps c = λ well.
    let found = c.cell.ensures.found ∙ ap Some c.in-Array.is in
    rw c.new.ensures (well_array c.args.heap.now.cells c.args.loc c.in-Array.proto c.in-Array.items c.in-Array.frozen found [] false tt well)
