use Rattle.std.proofs.Common.{◌≡◌, map, take}
use Rattle.parcel.specs.Sides.{turned_item}
use Rattle.parcel.specs.Turn.{side_by}
use Rattle.parcel.proofs.sides.turned_items.Given as goal

abbrev pub invariant-items : goal.invariant-items
invariant-items l = l.copy ≡ map (turned_item (side_by l.turn)) (take l.item-index l.items)
