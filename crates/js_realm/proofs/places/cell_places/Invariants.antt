use Rattle.std.proofs.Common.{◌≡◌, ◌-◌, length, take}
use Rattle.world_heap.specs.Maps.{keys}
use Rattle.js_realm.proofs.places.cell_places.Given as goal

abbrev pub invariant-cells : goal.invariant-cells
invariant-cells l = l.places.items ≡ take (length l.places.items) (keys l.heap.cells)

abbrev pub decreases-cells : goal.decreases-cells
decreases-cells l = length (keys l.heap.cells) - length l.places.items
