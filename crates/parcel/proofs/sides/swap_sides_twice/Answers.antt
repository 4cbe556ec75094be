use Rattle.parcel.proofs.Turning.{swapped-twice}
use Rattle.parcel.proofs.sides.swap_sides_twice.Goals as goal

pub returns : goal.returns
returns c = swapped-twice
