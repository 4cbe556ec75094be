use Rattle.std.proofs.Common.{ap}
use Rattle.parcel.specs.Sides.{turned_node}
use Rattle.parcel.specs.declared.parcel.PNode.TheVariants.{Object, Array, Map, Set}
use Rattle.parcel.proofs.sides.turned_node.Goals as goal

pub returns-in_ok-properties-in-Object : goal.returns-in_ok-properties-in-Object
unfolding turned_node
returns-in_ok-properties-in-Object c =
    rw (c.in-Object.is, ← c.as_slice.ensures) (ap (λ found. Object found) c.in_ok-properties-in-Object.ensures)

pub returns-in_ok-items-in-Array : goal.returns-in_ok-items-in-Array
unfolding turned_node
returns-in_ok-items-in-Array c =
    rw (c.in-Array.is, ← c.as_slice-in-Array.ensures) (ap (λ found. Array found) c.in_ok-items-in-Array.ensures)

pub returns-in_ok-entries-in-Map : goal.returns-in_ok-entries-in-Map
unfolding turned_node
returns-in_ok-entries-in-Map c =
    rw (c.in-Map.is, ← c.as_slice-in-Map.ensures) (ap (λ found. Map found) c.in_ok-entries-in-Map.ensures)

pub returns-in_ok-items-in-Set : goal.returns-in_ok-items-in-Set
unfolding turned_node
returns-in_ok-items-in-Set c =
    rw (c.in-Set.is, ← c.as_slice-in-Set.ensures) (ap (λ found. Set found) c.in_ok-items-in-Set.ensures)
