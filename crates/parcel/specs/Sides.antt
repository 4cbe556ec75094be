-- The sides of a parcel's functions and promises. What is the sender's own is far to the receiver.
use Rattle.std.specs.Prelude.{map}
use Rattle.parcel.specs.declared.parcel.Side.{Side}
use Rattle.parcel.specs.declared.parcel.Side.TheVariants.{Own, Far}
use Rattle.parcel.specs.declared.parcel.Item.{Item}
use Rattle.parcel.specs.declared.parcel.Item.TheVariants.{Fn, Prom}
use Rattle.parcel.specs.declared.parcel.PNode.{PNode}
use Rattle.parcel.specs.declared.parcel.PNode.TheVariants.{Object, Array, Map, Set}
use Rattle.parcel.specs.declared.parcel.Parcel.{Parcel}

-- the other side
abbrev pub other_side : Side → Side
other_side Own = Far
other_side Far = Own

-- An item, a node, a parcel, with each side turned as `side` says.
unfoldable pub turned_item : (Side → Side) → Item → Item
turned_item side (Fn where_it_stands number) = Fn (side where_it_stands) number
turned_item side (Prom where_it_stands number) = Prom (side where_it_stands) number
turned_item side item = item

unfoldable pub turned_node : (Side → Side) → PNode → PNode
turned_node side (Object properties) = Object (map (λ property. (property.0, turned_item side property.1)) properties)
turned_node side (Array items) = Array (map (turned_item side) items)
turned_node side (Map entries) = Map (map (λ entry. (turned_item side entry.0, turned_item side entry.1)) entries)
turned_node side (Set items) = Set (map (turned_item side) items)
turned_node side node = node

unfoldable pub turned : (Side → Side) → Parcel → Parcel
turned side parcel = record { root = turned_item side parcel.root; nodes = map (turned_node side) parcel.nodes }

-- the parcel with Own and Far exchanged
unfoldable pub swapped : Parcel → Parcel
swapped parcel = turned other_side parcel
