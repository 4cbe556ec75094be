use Rattle.std.proofs.Common.{◌≡◌, map, take}
use Rattle.parcel.specs.Sides.{turned_node}
use Rattle.parcel.specs.Turn.{side_by}
use Rattle.parcel.proofs.sides.turned_nodes.Given as goal

abbrev pub invariant-nodes : goal.invariant-nodes
invariant-nodes l = l.copy ≡ map (turned_node (side_by l.turn)) (take l.node-index l.nodes)
