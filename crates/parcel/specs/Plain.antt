-- What an IPC message may not hold: functions and promises (HTML, 2.7.3 StructuredSerializeInternal, DataCloneError).
use Rattle.std.specs.Prelude.{ℕ, ◌&&◌, nat_lt, Bool as Boolean, true, false, IsTrue, List, [], ◌∷◌, map}
use Rattle.std.specs.List.{list_all, flat_map}
use Rattle.parcel.specs.declared.parcel.Item.{Item}
use Rattle.parcel.specs.declared.parcel.Item.TheVariants.{Fn, Prom}
use Rattle.parcel.specs.declared.parcel.PNode.{PNode}
use Rattle.parcel.specs.declared.parcel.PNode.TheVariants.{Object, Array, Map, Set, Port}
use Rattle.parcel.specs.declared.parcel.Parcel.{Parcel}

-- the items of a node, in order
unfoldable pub items_of : PNode → List Item
items_of (Object properties) = map (λ property. property.1) properties
items_of (Array items) = items
items_of (Map entries) = flat_map (λ entry. entry.0 ∷ entry.1 ∷ []) entries
items_of (Set items) = items
items_of _ = []

-- no function and no promise
abbrev pub is_plain_item : Item → Boolean
is_plain_item (Fn side number) = false
is_plain_item (Prom side number) = false
is_plain_item _ = true

unfoldable pub is_plain : Parcel → Boolean
is_plain parcel = is_plain_item parcel.root && list_all (λ node. list_all is_plain_item (items_of node)) parcel.nodes

abbrev pub IsPlain : Parcel → Type 0
IsPlain parcel = IsTrue (is_plain parcel)

-- a port's place below `count`
abbrev pub is_port_below : ℕ → PNode → Boolean
is_port_below count (Port place) = nat_lt place count
is_port_below count _ = true

-- each port's place below `count`; below 0: no port
unfoldable pub ports_below : ℕ → Parcel → Boolean
ports_below count parcel = list_all (is_port_below count) parcel.nodes
