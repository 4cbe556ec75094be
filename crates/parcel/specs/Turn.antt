-- What becomes of a side in a copy.
use Rattle.parcel.specs.Sides.{other_side}
use Rattle.parcel.specs.declared.parcel.Side.{Side}
use Rattle.parcel.specs.declared.sides.Turn.{Turn}
use Rattle.parcel.specs.declared.sides.Turn.TheVariants.{Kept, Exchanged}

abbrev pub side_by : Turn → Side → Side
side_by Kept side = side
side_by Exchanged side = other_side side
