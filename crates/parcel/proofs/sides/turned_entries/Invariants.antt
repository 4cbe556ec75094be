use Rattle.std.proofs.Common.{◌≡◌, map, take}
use Rattle.parcel.specs.Sides.{turned_item}
use Rattle.parcel.specs.Turn.{side_by}
use Rattle.parcel.proofs.sides.turned_entries.Given as goal

abbrev pub invariant-entries : goal.invariant-entries
invariant-entries l = l.copy ≡ map (λ entry. (turned_item (side_by l.turn) entry.0, turned_item (side_by l.turn) entry.1)) (take l.key-index l.entries)
