use Rattle.std.proofs.Common.{Some}
use Rattle.cell_chunks.proofs.Stacks.{slice_get_same}
use Rattle.cell_chunks.proofs.tests.fills_again.Goals as goal

pub get-before-requires : goal.get-before-requires
get-before-requires c = (7, c.in-Ok.ensures.stands)

pub get-changed-requires : goal.get-changed-requires
get-changed-requires c = (8, slice_get_same c.put.new.self c.in-Ok.slot.0 (Some 7) (Some 8) c.in-Ok.ensures.stands)
