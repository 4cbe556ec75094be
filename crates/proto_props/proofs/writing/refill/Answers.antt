use Rattle.std.proofs.Common.{[], false}
use Rattle.proto_props.proofs.Exchanges.{well_array}
use Rattle.proto_props.proofs.Arrays.{array_stands}
use Rattle.proto_props.proofs.writing.refill.Goals as goal

pub replace-requires-clause-stands : goal.replace-requires-clause-stands
replace-requires-clause-stands c = array_stands c.args.heap.now.cells c.args.loc (c.args.array.proto, [], false, c.requires.array)

pub replace-requires-clause-keeps : goal.replace-requires-clause-keeps
replace-requires-clause-keeps c = λ well.
    well_array c.args.heap.now.cells c.args.loc c.args.array.proto [] false c.requires.array c.args.array.items false c.requires.fits well
