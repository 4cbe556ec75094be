-- The one spelling of a parcel in version 15 (V8, src/objects/value-serializer.cc, ValueSerializer).
use Rattle.std.specs.Prelude.{ℕ, zero, suc, ◌+◌, ◌-◌, ◌*◌, ◌/◌, ◌%◌, ◌==◌, nat_lt, if◌then◌else◌, Bool as Boolean, true, false, ℤ, pos, negsuc, List, [], ◌∷◌, ◌++◌, length, slice_get, Option, Some, None}
use Rattle.std.specs.List.{flat_map, list_all}
use Rattle.std.specs.Int.{w64, to_le_bytes}
use Rattle.wl_text.specs.Number.{index_of}
use Rattle.parcel.specs.declared.parcel.Item.{Item}
use Rattle.parcel.specs.declared.parcel.Item.TheVariants.{Undefined, Null, Bool, Num, Str, Node}
use Rattle.parcel.specs.declared.parcel.PNode.{PNode}
use Rattle.parcel.specs.declared.parcel.PNode.TheVariants.{Object, Array, Map, Set, Port, Buffer, View}
use Rattle.parcel.specs.declared.parcel.PNode.TheVariants as nodes
use Rattle.parcel.specs.declared.parcel.ErrorKind.{ErrorKind}
use Rattle.parcel.specs.declared.parcel.ErrorKind.TheVariants.{Error, EvalError, RangeError, ReferenceError, SyntaxError, TypeError, URIError}
use Rattle.parcel.specs.declared.parcel.Parcel.{Parcel}

-- groups of seven bits, the lowest first, so many at most behind the first
unfoldable pub groups : ℕ → ℕ → List ℕ
groups zero n = n % 128 ∷ []
groups (suc more) n = if nat_lt n 128 then n ∷ [] else (n % 128 + 128) ∷ groups more (n / 128)

-- a number below 2^32 (WriteVarint)
unfoldable pub varint : ℕ → List ℕ
varint n = groups 4 n

-- 0, -1, 1, -2, 2 and so on are 0, 1, 2, 3, 4 and so on (WriteZigZag)
abbrev pub zigzag : ℤ → ℕ
zigzag (pos n) = 2 * n
zigzag (negsuc n) = 2 * n + 1

-- A number is doubled until it has 53 bits, at most so many times: the significand, and how often.
unfoldable pub doubled : ℕ → ℕ → ℕ × ℕ
doubled zero n = (n, 0)
doubled (suc more) n = if nat_lt n 4_503_599_627_370_496 then ((doubled more (2 * n)).0, (doubled more (2 * n)).1 + 1) else (n, 0)

-- The exponent (biased by 1023) and the 52 bits of fraction of a whole number from 1 to 2^53 - 1 as a double.
unfoldable pub magnitude_word : ℕ → ℕ
magnitude_word n = (1075 - (doubled 52 n).1) * 4_503_599_627_370_496 + ((doubled 52 n).0 - 4_503_599_627_370_496)

-- the double of a number, its sign in front (IEEE 754 binary64)
unfoldable pub double_word : ℤ → ℕ
double_word (pos n) = magnitude_word n % 9_223_372_036_854_775_808
double_word (negsuc n) = magnitude_word (n + 1) % 9_223_372_036_854_775_808 + 9_223_372_036_854_775_808

-- a number of 32 bits
abbrev pub is_short : ℤ → Boolean
is_short (pos n) = nat_lt n 2_147_483_648
is_short (negsuc n) = nat_lt n 2_147_483_648

-- `I` and a zigzag number of 32 bits; another one as `N` and its double (WriteSmi, WriteHeapNumber)
unfoldable pub number : ℤ → List ℕ
number n = if is_short n then 73 ∷ varint (zigzag n) else 78 ∷ to_le_bytes w64 (double_word n)

-- one byte for each unit
abbrev pub is_narrow : List ℕ → Boolean
is_narrow text = list_all (λ unit. nat_lt unit 256) text

-- two bytes of a unit, the low one first
abbrev pub pair : ℕ → List ℕ
pair unit = unit % 256 ∷ unit / 256 ∷ []

-- units of two bytes stand at an even place
abbrev pub padding : ℕ → List ℕ → List ℕ
padding at text = if (at + 1 + length (varint (2 * length text))) % 2 == 1 then 0 ∷ [] else []

abbrev pub wide : ℕ → List ℕ → List ℕ
wide at text = padding at text ++ (99 ∷ varint (2 * length text) ++ flat_map pair text)

-- A string that is written from this place on (WriteString).
unfoldable pub string : ℕ → List ℕ → List ℕ
string at text = if is_narrow text then 34 ∷ varint (length text) ++ text else wide at text

-- an array index as its number, another key as a string
abbrev pub key_or : ℕ → List ℕ → Option ℕ → List ℕ
key_or at text None = string at text
key_or at text (Some n) = number (pos n)

unfoldable pub key : ℕ → List ℕ → List ℕ
key at text = key_or at text (index_of text)

-- the kind's byte (WriteJSError)
abbrev pub kind_tag : ErrorKind → List ℕ
kind_tag Error = []
kind_tag EvalError = 69 ∷ []
kind_tag RangeError = 82 ∷ []
kind_tag ReferenceError = 70 ∷ []
kind_tag SyntaxError = 83 ∷ []
kind_tag TypeError = 84 ∷ []
kind_tag URIError = 85 ∷ []

-- What was written: the bytes, and how many nodes have their numbers.
pub record Written : Type 0 where
  pub bytes : List ℕ
  pub nodes : ℕ

abbrev pub written : List ℕ → ℕ → Written
written bytes nodes = record { bytes = bytes; nodes = nodes }

abbrev pub with_bytes : List ℕ → Written → Written
with_bytes more w = record w { bytes = w.bytes ++ more }

abbrev pub with_string : List ℕ → Written → Written
with_string text w = with_bytes (string (length w.bytes) text) w

-- one after another
unfoldable pub put_all : {A : Type 0} → (A → Written → Written) → List A → Written → Written
put_all put [] w = w
put_all put (x ∷ xs) w = put_all put xs (put x w)

abbrev pub put_property : (Item → Written → Written) → List ℕ × Item → Written → Written
put_property put property w = put property.1 (with_bytes (key (length w.bytes) property.0) w)

abbrev pub put_entry : (Item → Written → Written) → Item × Item → Written → Written
put_entry put entry w = put entry.1 (put entry.0 w)

-- `B`, the length and the bytes (WriteJSArrayBuffer)
abbrev pub buffer : List ℕ → List ℕ
buffer bytes = 66 ∷ varint (length bytes) ++ bytes

-- bytes, and behind them a message
abbrev pub message : Option (List ℕ) → List ℕ → List ℕ
message None bytes = bytes
message (Some text) bytes = bytes ++ 109 ∷ [] ++ string (length bytes + 1) text

-- bytes, and behind them an error
unfoldable pub error : ErrorKind → Option (List ℕ) → List ℕ → List ℕ
error kind text bytes = message text (bytes ++ (114 ∷ kind_tag kind)) ++ 46 ∷ []

-- A node that is no view and has its number, where `put` writes an item (WriteJSObject, WriteJSArray, WriteJSMap,
-- WriteJSSet, WriteJSError, WriteHostObject).
unfoldable pub put_contents : (Item → Written → Written) → PNode → Written → Written
put_contents put (Object properties) w =
    with_bytes (123 ∷ varint (length properties)) (put_all (put_property put) properties (with_bytes (111 ∷ []) w))
put_contents put (Array items) w =
    with_bytes (36 ∷ 0 ∷ varint (length items)) (put_all put items (with_bytes (65 ∷ varint (length items)) w))
put_contents put (nodes.Error kind text) w = record w { bytes = error kind text w.bytes }
put_contents put (Map entries) w =
    with_bytes (58 ∷ varint (2 * length entries)) (put_all (put_entry put) entries (with_bytes (59 ∷ []) w))
put_contents put (Set items) w =
    with_bytes (44 ∷ varint (length items)) (put_all put items (with_bytes (39 ∷ []) w))
put_contents put (Port place) w = with_bytes (92 ∷ 77 ∷ varint place) w
put_contents put (Buffer bytes) w = with_bytes (buffer bytes) w
put_contents put (View of offset size) w = w

abbrev pub reference : ℕ → List ℕ
reference node = 94 ∷ varint node

-- the buffer of a view: by its number, if it has one
unfoldable pub put_buffer : ℕ → Option PNode → Written → Written
put_buffer of (Some (Buffer bytes)) w = if nat_lt of w.nodes then with_bytes (reference of) w
    else record { bytes = w.bytes ++ buffer bytes; nodes = of + 1 }
put_buffer of _ w = w

-- The first visit of a node (WriteJSReceiver, WriteJSArrayBufferView).
unfoldable pub put_node : (Item → Written → Written) → List PNode → ℕ → Option PNode → Written → Written
put_node put stood node None w = w
put_node put stood node (Some (View of offset size)) w = record {
  bytes = (put_buffer of (slice_get stood of) w).bytes ++ (86 ∷ 66 ∷ varint offset ++ (varint size ++ 0 ∷ []));
  nodes = node + 1;
}
put_node put stood node (Some found) w = put_contents put found (record w { nodes = node + 1 })

-- An item; a function or a promise has no spelling (WriteObject).
unfoldable pub put_value : (Item → Written → Written) → List PNode → Item → Written → Written
put_value put stood Undefined w = with_bytes (95 ∷ []) w
put_value put stood Null w = with_bytes (48 ∷ []) w
put_value put stood (Bool true) w = with_bytes (84 ∷ []) w
put_value put stood (Bool false) w = with_bytes (70 ∷ []) w
put_value put stood (Num n) w = with_bytes (number n) w
put_value put stood (Str text) w = with_string text w
put_value put stood (Node node) w = if nat_lt node w.nodes then with_bytes (reference node) w
    else put_node put stood node (slice_get stood node) w
put_value put stood _ w = w

-- An item where so many levels are left.
unfoldable pub put_item : ℕ → List PNode → Item → Written → Written
put_item zero stood item w = w
put_item (suc depth) stood item w = put_value (put_item depth stood) stood item w

-- FF, version 15, and the root
unfoldable pub spelled : Parcel → List ℕ
spelled parcel = (put_item 1_001 parcel.nodes parcel.root (written (255 ∷ 15 ∷ []) 0)).bytes
