use Rattle.std.proofs.Common.{◌≡◌, map, take}
use Rattle.parcel.specs.Sides.{turned_item}
use Rattle.parcel.specs.Turn.{side_by}
use Rattle.parcel.proofs.sides.turned_properties.Given as goal

abbrev pub invariant-properties : goal.invariant-properties
invariant-properties l = l.copy ≡ map (λ property. (property.0, turned_item (side_by l.turn) property.1)) (take l.key-index l.properties)
