-- Nodes with items (ValueDeserializer::ReadJSObject, ReadDenseJSArray, ReadSparseJSArray, ReadJSMap, ReadJSSet).
use Rattle.std.specs.Prelude.{ℕ, zero, suc, ◌+◌, ◌*◌, ◌==◌, ◌&&◌, nat_lt, nat_le, not, if◌then◌else◌, Bool, List, [], ◌∷◌, ◌++◌, length, map, Option, Some, None, is_none, is_some, Result, Ok, ℤ, pos, negsuc, nat_eq, false}
use Rattle.std.specs.List.{list_any}
use Rattle.std.specs.Fmt.{signed_decimal}
use Rattle.std.specs.Cmp.Lexicographic.{pointwise}
use Rattle.wl_text.specs.Number.{index_of}
use Rattle.parcel.specs.Keys.{may_come}
use Rattle.parcel.specs.declared.parcel.Item.{Item}
use Rattle.parcel.specs.declared.parcel.PNode.{PNode}
use Rattle.parcel.specs.declared.parcel.PNode.TheVariants as nodes
use Rattle.v8_wire.specs.declared.kind.WireKind.TheVariants.{Tag, Count, Hole, Key}
use Rattle.v8_wire.specs.declared.fault.Fault.{Fault}
use Rattle.v8_wire.specs.declared.met.Met.{Met}
use Rattle.v8_wire.specs.declared.open.Open.{Open}
use Rattle.v8_wire.specs.declared.open.Open.TheVariants.{Object, Array, Sparse, Map, Set}
use Rattle.v8_wire.specs.declared.open.Turn.{Turn}
use Rattle.v8_wire.specs.declared.open.Turn.TheVariants.{More, End}
use Rattle.v8_wire.specs.Faults.{◌>>=◌, fault, cut}
use Rattle.v8_wire.specs.Number.{varint_at, number_at}
use Rattle.v8_wire.specs.Text.{string_at}
use Rattle.v8_wire.specs.Met.{with_units}
use Rattle.v8_wire.specs.Leaf.{unpadded, is_number_tag, is_text_tag, refused}

-- What a reader of one item answers from what was met, and the bytes.
abbrev pub ItemReader : Type 0
ItemReader = Met → List ℕ → Result (Item × Met × List ℕ) Fault

-- A count behind an end tag, at which `left` bytes are left, that has to be this one.
unfoldable pub count_at : ℕ → ℕ → List ℕ → Result (List ℕ) Fault
count_at count left bytes = varint_at bytes >>= λ n. if n.0 == count then Ok n.1 else fault left Count

-- What a node with items begins with, behind its tag.
unfoldable pub opened_at : ℕ → List ℕ → Result (Open × List ℕ) Fault
opened_at tag bytes = if tag == 111 then Ok (Object [] (Some 0), bytes)
    else if tag == 59 then Ok (Map [], bytes)
    else if tag == 39 then Ok (Set [], bytes)
    else if tag == 65 then (varint_at bytes >>= λ n. Ok (Array n.0 [], n.1))
    else (varint_at bytes >>= λ n. Ok (Sparse n.0 [], n.1))

-- A key that is a number: an array index, where one from `least` on may come. Its text, and the least one after it.
unfoldable pub index_key : Option ℕ → ℕ → ℤ → Result (List ℕ × Option ℕ) Fault
index_key least left (pos n) = if nat_le n 4_294_967_294 && may_come least (Some n)
    then Ok (signed_decimal (pos n), Some (n + 1)) else fault left Key
index_key least left (negsuc n) = fault left Key

-- A key that is a string: no text of an array index. No array index comes after it.
unfoldable pub text_key : ℕ → List ℕ → Result (List ℕ × Option ℕ) Fault
text_key left text = if is_none (index_of text) then Ok (text, None) else fault left Key

-- no key of the properties is this one
abbrev pub is_new : List ℕ → List (List ℕ × Item) → Bool
is_new key properties = not (list_any (pointwise nat_eq key) (map (λ property. property.0) properties))

-- A key that is new counts its units.
unfoldable pub new_key : List (List ℕ × Item) → Met → ℕ → List ℕ → Result Met Fault
new_key properties met left key = if is_new key properties then with_units left (length key) met else fault left Key

-- a number, where an array index may still come
unfoldable pub may_be_index : ℕ → Option ℕ → Bool
may_be_index tag least = is_number_tag tag && is_some least

-- A property's key behind its tag: the key, and the least index that may come after it.
unfoldable pub key_at : Option ℕ → ℕ → Met → ℕ → List ℕ → Result ((List ℕ × Option ℕ) × List ℕ) Fault
key_at least tag met left bytes = if may_be_index tag least
    then (number_at tag left bytes >>= λ n. index_key least left n.0 >>= λ key. Ok (key, n.1))
    else if is_text_tag tag
    then (string_at tag left bytes >>= λ s. text_key left s.0 >>= λ key. Ok (key, s.1))
    else refused Key tag met left bytes

-- One turn over an object: a property more, or its end `{`.
unfoldable pub object_turn : ItemReader → List (List ℕ × Item) → Option ℕ → Met → ℕ → ℕ → List ℕ → Result (Turn × Met × List ℕ) Fault
object_turn inner properties least met tag left bytes = if tag == 123
    then (count_at (length properties) left bytes >>= λ rest. Ok (End (nodes.Object properties), met, rest))
    else (key_at least tag met left bytes >>= λ key. new_key properties met left key.0.0 >>= λ counted. inner counted key.1
    >>= λ x. Ok (More (Object (properties ++ (key.0.0, x.0) ∷ []) key.0.1), x.1, x.2))

-- One turn over an array: an element more, or its end `$`, with no properties.
unfoldable pub array_turn : ItemReader → ℕ → List Item → Met → ℕ → ℕ → List ℕ → Result (Turn × Met × List ℕ) Fault
array_turn inner size items met tag left bytes = if tag == 45 then fault left Hole
    else if nat_lt (length items) size
    then (inner met (tag ∷ bytes) >>= λ x. Ok (More (Array size (items ++ x.0 ∷ [])), x.1, x.2))
    else if tag == 36
    then (count_at 0 left bytes >>= λ rest. count_at size left rest >>= λ rest. Ok (End (nodes.Array items), met, rest))
    else refused Key tag met left bytes

abbrev pub is_index : ℤ → ℕ → Bool
is_index (pos n) index = n == index
is_index (negsuc n) index = false

-- a number, where an element is still missing
unfoldable pub may_be_next : ℕ → ℕ → List Item → Bool
may_be_next tag size items = is_number_tag tag && nat_lt (length items) size

-- One turn over an array whose elements stand with their indices: an element more, or its end `@`.
unfoldable pub sparse_turn : ItemReader → ℕ → List Item → Met → ℕ → ℕ → List ℕ → Result (Turn × Met × List ℕ) Fault
sparse_turn inner size items met tag left bytes = if tag == 45 then fault left Hole
    else if tag == 64 then (if nat_lt (length items) size then fault left Tag
    else (count_at size left bytes >>= λ rest. count_at size left rest >>= λ rest. Ok (End (nodes.Array items), met, rest)))
    else if may_be_next tag size items
    then (number_at tag left bytes >>= λ n. if is_index n.0 (length items)
    then (inner met n.1 >>= λ x. Ok (More (Sparse size (items ++ x.0 ∷ [])), x.1, x.2))
    else fault left Hole)
    else refused Hole tag met left bytes

-- One turn over a Map: an entry more, or its end `:`.
unfoldable pub map_turn : ItemReader → List (Item × Item) → Met → ℕ → ℕ → List ℕ → Result (Turn × Met × List ℕ) Fault
map_turn inner entries met tag left bytes = if tag == 58
    then (count_at (2 * length entries) left bytes >>= λ rest. Ok (End (nodes.Map entries), met, rest))
    else (inner met (tag ∷ bytes) >>= λ k. inner k.1 k.2 >>= λ v. Ok (More (Map (entries ++ (k.0, v.0) ∷ [])), v.1, v.2))

-- One turn over a Set: an item more, or its end `,`.
unfoldable pub set_turn : ItemReader → List Item → Met → ℕ → ℕ → List ℕ → Result (Turn × Met × List ℕ) Fault
set_turn inner items met tag left bytes = if tag == 44
    then (count_at (length items) left bytes >>= λ rest. Ok (End (nodes.Set items), met, rest))
    else (inner met (tag ∷ bytes) >>= λ x. Ok (More (Set (items ++ x.0 ∷ [])), x.1, x.2))

unfoldable pub turn_with : ItemReader → Open → Met → List ℕ → Result (Turn × Met × List ℕ) Fault
turn_with inner begun met [] = cut
turn_with inner (Object properties least) met (tag ∷ rest) = object_turn inner properties least met tag (length (tag ∷ rest)) rest
turn_with inner (Array size items) met (tag ∷ rest) = array_turn inner size items met tag (length (tag ∷ rest)) rest
turn_with inner (Sparse size items) met (tag ∷ rest) = sparse_turn inner size items met tag (length (tag ∷ rest)) rest
turn_with inner (Map entries) met (tag ∷ rest) = map_turn inner entries met tag (length (tag ∷ rest)) rest
turn_with inner (Set items) met (tag ∷ rest) = set_turn inner items met tag (length (tag ∷ rest)) rest

-- One turn over a node with items, where `inner` reads an item.
unfoldable pub turn_at : ItemReader → Open → Met → List ℕ → Result (Turn × Met × List ℕ) Fault
turn_at inner begun met bytes = turn_with inner begun met (unpadded bytes)

-- Turn after turn, at most so many, up to the end of the node.
abbrev pub turned : (Open → Met → List ℕ → Result (PNode × Met × List ℕ) Fault) → Turn → Met → List ℕ → Result (PNode × Met × List ℕ) Fault
turned more (More begun) met bytes = more begun met bytes
turned more (End node) met bytes = Ok (node, met, bytes)

unfoldable pub contents_at : ItemReader → ℕ → Open → Met → List ℕ → Result (PNode × Met × List ℕ) Fault
contents_at inner zero begun met bytes = cut
contents_at inner (suc turns) begun met bytes = turn_at inner begun met bytes >>= λ x. turned (contents_at inner turns) x.0 x.1 x.2
