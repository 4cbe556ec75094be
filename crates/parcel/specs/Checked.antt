-- Which parcels are checked: a walk from the root visits values as structured clone does (HTML, 2.7.3
-- StructuredSerializeInternal), and each node has the number of its first visit.
use Rattle.std.specs.Prelude.{ℕ, ℤ, pos, negsuc, zero, suc, ◌+◌, ◌==◌, ◌&&◌, nat_lt, nat_le, Bool as Boolean, false, IsTrue, List, [], ◌∷◌, length, map, slice_get, Option, Some, None, if◌then◌else◌}
use Rattle.std.specs.List.{list_all}
use Rattle.parcel.specs.Keys.{are_keys}
use Rattle.parcel.specs.declared.parcel.Item.{Item}
use Rattle.parcel.specs.declared.parcel.Item.TheVariants.{Num, Str, Node, Fn, Prom}
use Rattle.parcel.specs.declared.parcel.PNode.{PNode}
use Rattle.parcel.specs.declared.parcel.PNode.TheVariants.{Object, Array, Error, Map, Set, Port, Buffer, View}
use Rattle.parcel.specs.declared.parcel.Parcel.{Parcel}
use Rattle.parcel.specs.declared.tally.Tally.{Tally}

infixl 10 ◌>>=◌
abbrev pub ◌>>=◌ : {A B : Type 0} → Option A → (A → Option B) → Option B
None >>= f = None
(Some x) >>= f = f x

-- Nothing was met yet.
abbrev pub nothing_met : Tally
nothing_met = record { nodes = 0; items = 0; units = 0 }

-- One node, item or text more, within the limits of a copy.
abbrev pub with_node : Tally → Option Tally
with_node met = if nat_lt met.nodes 100_000 then Some (record met { nodes = met.nodes + 1 }) else None

abbrev pub with_item : Tally → Option Tally
with_item met = if nat_lt met.items 1_000_000 then Some (record met { items = met.items + 1 }) else None

abbrev pub with_units : ℕ → Tally → Option Tally
with_units more met = if nat_le (met.units + more) 16_777_216 then Some (record met { units = met.units + more }) else None

-- Only where a test holds.
abbrev pub only_if : Boolean → Tally → Option Tally
only_if test met = if test then Some met else None

-- a text: 16-bit units, at most 1,048,576 of them
abbrev pub is_text : List ℕ → Boolean
is_text units = nat_le (length units) 1_048_576 && list_all (λ unit. nat_lt unit 65_536) units

-- the contents of a buffer: at most 1,048,576 bytes
abbrev pub is_contents : List ℕ → Boolean
is_contents bytes = nat_le (length bytes) 1_048_576 && list_all (λ byte. nat_lt byte 256) bytes

-- an integer that a number holds exactly (ECMA-262, 21.1.2.5 Number.isSafeInteger)
abbrev pub is_safe : ℤ → Boolean
is_safe (pos n) = nat_le n 9_007_199_254_740_991
is_safe (negsuc n) = nat_lt n 9_007_199_254_740_991

-- a number of 32 bits
abbrev pub is_word : ℕ → Boolean
is_word n = nat_lt n 4_294_967_296

abbrev pub with_text : List ℕ → Tally → Option Tally
with_text units met = only_if (is_text units) met >>= with_units (length units)

abbrev pub with_contents : List ℕ → Tally → Option Tally
with_contents bytes met = only_if (is_contents bytes) met >>= with_units (length bytes)

abbrev pub with_message : Option (List ℕ) → Tally → Option Tally
with_message None met = Some met
with_message (Some message) met = with_text message met

-- Node `number` is met for the first time: its number is the next one.
abbrev pub numbered : ℕ → Tally → Option Tally
numbered number met = only_if (number == met.nodes) met >>= with_node

-- one visit after another
unfoldable pub in_turn : {A : Type 0} → (A → Tally → Option Tally) → List A → Tally → Option Tally
in_turn visit [] met = Some met
in_turn visit (x ∷ xs) met = visit x met >>= in_turn visit xs

-- a property: its key, then its value
abbrev pub visit_property : (Item → Tally → Option Tally) → List ℕ × Item → Tally → Option Tally
visit_property visit property met = with_text property.0 met >>= visit property.1

-- an entry of a Map: its key, then its value
abbrev pub visit_entry : (Item → Tally → Option Tally) → Item × Item → Tally → Option Tally
visit_entry visit entry met = visit entry.0 met >>= visit entry.1

-- What stands in a node that was given its number, where `visit` visits an item.
unfoldable pub contents_met : (Item → Tally → Option Tally) → PNode → Tally → Option Tally
contents_met visit (Object properties) met =
    only_if (are_keys (map (λ property. property.0) properties)) met >>= in_turn (visit_property visit) properties
contents_met visit (Array items) met = in_turn visit items met
contents_met visit (Error kind message) met = with_message message met
contents_met visit (Map entries) met = in_turn (visit_entry visit) entries met
contents_met visit (Set items) met = in_turn visit items met
contents_met visit (Port place) met = only_if (is_word place) met
contents_met visit (Buffer bytes) met = with_contents bytes met
contents_met visit (View buffer offset size) met = Some met

-- The buffer of a view takes its number before the view, unless it has one.
unfoldable pub buffer_met : ℕ → ℕ → ℕ → Option PNode → Tally → Option Tally
buffer_met buffer offset size (Some (Buffer bytes)) met = only_if (nat_le (offset + size) (length bytes)) met
    >>= λ met. if nat_lt buffer met.nodes then Some met else numbered buffer met >>= with_contents bytes
buffer_met buffer offset size _ met = None

-- The first visit of a node: the view's buffer, the node's own number, what stands in it.
unfoldable pub node_met : (Item → Tally → Option Tally) → List PNode → ℕ → PNode → Tally → Option Tally
node_met visit nodes number (View buffer offset size) met =
    buffer_met buffer offset size (slice_get nodes buffer) met >>= numbered number
node_met visit nodes number node met = numbered number met >>= contents_met visit node

-- A node by its number: one that was met before isn't visited again.
abbrev pub reference_met : (Item → Tally → Option Tally) → List PNode → ℕ → Tally → Option Tally
reference_met visit nodes number met = if nat_lt number met.nodes then Some met
    else slice_get nodes number >>= λ node. node_met visit nodes number node met

-- What an item is, once it was counted.
unfoldable pub value_met : (Item → Tally → Option Tally) → List PNode → Item → Tally → Option Tally
value_met visit nodes (Num n) met = only_if (is_safe n) met
value_met visit nodes (Str units) met = with_text units met
value_met visit nodes (Fn side number) met = only_if (is_word number) met
value_met visit nodes (Prom side number) met = only_if (is_word number) met
value_met visit nodes (Node number) met = reference_met visit nodes number met
value_met visit nodes _ met = Some met

-- An item where `depth` levels are left, its own among them.
unfoldable pub item_met : ℕ → List PNode → Item → Tally → Option Tally
item_met zero nodes item met = None
item_met (suc depth) nodes item met = with_item met >>= value_met (item_met depth nodes) nodes item

-- what is met from the root; its nesting is 0, and 1,000 levels may follow
unfoldable pub all_met : Parcel → Option Tally
all_met parcel = item_met 1_001 parcel.nodes parcel.root nothing_met

-- whether the walk came to its end, with so many nodes met
abbrev pub ends_with : ℕ → Option Tally → Boolean
ends_with count None = false
ends_with count (Some met) = met.nodes == count

-- The walk succeeds and meets every node.
unfoldable pub is_checked : Parcel → Boolean
is_checked parcel = ends_with (length parcel.nodes) (all_met parcel)

abbrev pub IsChecked : Parcel → Type 0
IsChecked parcel = IsTrue (is_checked parcel)
