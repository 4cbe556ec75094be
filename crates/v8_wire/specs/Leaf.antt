-- Values without items of their own (ValueDeserializer::ReadObjectInternal, ReadJSError, ReadJSArrayBuffer).
use Rattle.std.specs.Prelude.{◌≡◌, ℕ, zero, suc, ◌==◌, ◌&&◌, ◌||◌, nat_lt, not, if◌then◌else◌, Bool as Boolean, true, false, List, [], ◌∷◌, length, Option, Some, None, Result, Ok, Err}
use Rattle.parcel.specs.declared.parcel.Item.{Item}
use Rattle.parcel.specs.declared.parcel.Item.TheVariants.{Undefined, Null, Bool, Num, Str, Node}
use Rattle.parcel.specs.declared.parcel.PNode.{PNode}
use Rattle.parcel.specs.declared.parcel.PNode.TheVariants.{Port, Buffer}
use Rattle.parcel.specs.declared.parcel.PNode.TheVariants as nodes
use Rattle.parcel.specs.declared.parcel.ErrorKind.{ErrorKind}
use Rattle.parcel.specs.declared.parcel.ErrorKind.TheVariants.{Error, EvalError, RangeError, ReferenceError, SyntaxError, TypeError, URIError}
use Rattle.v8_wire.specs.declared.kind.WireKind.{WireKind}
use Rattle.v8_wire.specs.declared.kind.WireKind.TheVariants.{Tag, Reference, TooLarge}
use Rattle.v8_wire.specs.declared.fault.Fault.{Fault}
use Rattle.v8_wire.specs.declared.fault.Stop.{Stop}
use Rattle.v8_wire.specs.declared.fault.Stop.TheVariants as stops
use Rattle.v8_wire.specs.declared.met.Met.{Met}
use Rattle.v8_wire.specs.Faults.{◌>>=◌, fault, cut}
use Rattle.v8_wire.specs.Number.{varint_at, number_at}
use Rattle.v8_wire.specs.Text.{string_at, bytes_at}
use Rattle.v8_wire.specs.Met.{are_full, with_units, with_node}

-- Any count of zero bytes may stand before a tag.
unfoldable pub unpadded : List ℕ → List ℕ
unpadded [] = []
unpadded (zero ∷ bytes) = unpadded bytes
unpadded (suc b ∷ bytes) = suc b ∷ bytes

-- `I`, `U`, `N`
abbrev pub is_number_tag : ℕ → Boolean
is_number_tag tag = tag == 73 || tag == 85 || tag == 78

-- `"`, `c`, `S`
abbrev pub is_text_tag : ℕ → Boolean
is_text_tag tag = tag == 34 || tag == 99 || tag == 83

-- an error `r`, a port `\`, a buffer `B`
abbrev pub is_node_tag : ℕ → Boolean
is_node_tag tag = tag == 114 || tag == 92 || tag == 66

abbrev pub is_large : WireKind → Boolean
is_large TooLarge = true
is_large _ = false

-- Where a value may not stand, its own fault at its tag is told, if it has one there and it isn't one of size.
abbrev pub told : WireKind → ℕ → Fault → Fault
told kind left f = if f.left == left && not (is_large f.kind) then f else record { left = left; kind = kind }

abbrev pub rather : {A B : Type 0} → WireKind → ℕ → Result A Fault → Result B Fault
rather kind left (Ok x) = fault left kind
rather kind left (Err f) = Err (told kind left f)

-- What a function tells of a value that may not stand, where reading it stopped.
abbrev pub Told : WireKind → ℕ → Stop → Stop → Type 0
Told kind left stops.Memory answer = answer ≡ stops.Memory
Told kind left (stops.At f) answer = answer ≡ stops.At (told kind left f)

-- A string with its tag: how many bytes were left at the tag, the string, and what follows.
unfoldable pub text_with : List ℕ → Result (ℕ × List ℕ × List ℕ) Fault
text_with [] = cut
text_with (tag ∷ rest) = if is_text_tag tag
    then (string_at tag (length (tag ∷ rest)) rest >>= λ s. Ok (length (tag ∷ rest), s.0, s.1))
    else fault (length (tag ∷ rest)) Tag

unfoldable pub text_at : List ℕ → Result (ℕ × List ℕ × List ℕ) Fault
text_at bytes = text_with (unpadded bytes)

-- The kind's byte; without one it is `Error`.
unfoldable pub kind_at : List ℕ → ErrorKind × List ℕ
kind_at [] = (Error, [])
kind_at (b ∷ rest) = if b == 69 then (EvalError, rest)
    else if b == 82 then (RangeError, rest)
    else if b == 70 then (ReferenceError, rest)
    else if b == 83 then (SyntaxError, rest)
    else if b == 84 then (TypeError, rest)
    else if b == 85 then (URIError, rest)
    else (Error, b ∷ rest)

-- `m` and the message, where there is one. Its units count.
unfoldable pub message_at : Met → List ℕ → Result (Option (List ℕ) × Met × List ℕ) Fault
message_at met [] = Ok (None, met, [])
message_at met (b ∷ rest) = if b == 109
    then (text_at rest >>= λ x. with_units x.0 (length x.1) met >>= λ counted. Ok (Some x.1, counted, x.2))
    else Ok (None, met, b ∷ rest)

-- `s` and the stack, which is dropped.
unfoldable pub stack_at : List ℕ → Result (List ℕ) Fault
stack_at [] = Ok []
stack_at (b ∷ rest) = if b == 115 then (text_at rest >>= λ x. Ok x.2) else Ok (b ∷ rest)

-- the `.` behind an error
unfoldable pub end_at : List ℕ → Result (List ℕ) Fault
end_at [] = cut
end_at (b ∷ rest) = if b == 46 then Ok rest else fault (length (b ∷ rest)) Tag

unfoldable pub error_at : Met → List ℕ → Result (PNode × Met × List ℕ) Fault
error_at met bytes = message_at met (kind_at bytes).1 >>= λ m. stack_at m.2 >>= λ rest. end_at rest
    >>= λ rest. Ok (nodes.Error (kind_at bytes).0 m.0, m.1, rest)

-- `M` and the port's place among the ports that came along
unfoldable pub port_at : Met → ℕ → List ℕ → Result (PNode × Met × List ℕ) Fault
port_at met left [] = cut
port_at met left (b ∷ rest) = if b == 77
    then (varint_at rest >>= λ n. if nat_lt n.0 met.ports then Ok (Port n.0, met, n.1) else fault left Reference)
    else fault (length (b ∷ rest)) Tag

-- The length of a buffer and its bytes, which count as units.
unfoldable pub buffer_at : Met → ℕ → List ℕ → Result (PNode × Met × List ℕ) Fault
buffer_at met left bytes = varint_at bytes >>= λ n. if nat_lt 1_048_576 n.0 then fault left TooLarge
    else (bytes_at n.0 n.1 >>= λ x. with_units left (length x.0) met >>= λ counted. Ok (Buffer x.0, counted, x.1))

-- a node without items, behind its tag
unfoldable pub node_at : ℕ → Met → ℕ → List ℕ → Result (PNode × Met × List ℕ) Fault
node_at tag met left bytes = if tag == 114 then error_at met bytes
    else if tag == 92 then port_at met left bytes
    else buffer_at met left bytes

-- The same with its number, which it takes where a node more may be taken.
unfoldable pub placed_at : ℕ → Met → ℕ → List ℕ → Result (Item × Met × List ℕ) Fault
placed_at tag met left bytes = if are_full met.nodes then rather TooLarge left (node_at tag met left bytes)
    else (node_at tag met left bytes >>= λ x. with_node left x.0 x.1 >>= λ n. Ok (Node n.0, n.1, x.2))

-- a node that was met before
unfoldable pub reference_at : Met → ℕ → List ℕ → Result (Item × Met × List ℕ) Fault
reference_at met left bytes = varint_at bytes >>= λ n.
    if nat_lt n.0 (length met.nodes) then Ok (Node n.0, met, n.1) else fault left Reference

unfoldable pub counted_text_at : ℕ → Met → ℕ → List ℕ → Result (Item × Met × List ℕ) Fault
counted_text_at tag met left bytes = string_at tag left bytes >>= λ s. with_units left (length s.0) met
    >>= λ counted. Ok (Str s.0, counted, s.1)

-- The value without items behind its tag, at which `left` bytes are left.
unfoldable pub leaf_at : ℕ → Met → ℕ → List ℕ → Result (Item × Met × List ℕ) Fault
leaf_at tag met left bytes = if tag == 95 then Ok (Undefined, met, bytes)
    else if tag == 48 then Ok (Null, met, bytes)
    else if tag == 84 then Ok (Bool true, met, bytes)
    else if tag == 70 then Ok (Bool false, met, bytes)
    else if is_number_tag tag then (number_at tag left bytes >>= λ n. Ok (Num n.0, met, n.1))
    else if is_text_tag tag then counted_text_at tag met left bytes
    else if is_node_tag tag then placed_at tag met left bytes
    else if tag == 94 then reference_at met left bytes
    else fault left Tag

-- an object `o`, a Map `;`, a Set `'`, an array `A`, an array with indices `a`
abbrev pub is_composite_tag : ℕ → Boolean
is_composite_tag tag = tag == 111 || tag == 59 || tag == 39 || tag == 65 || tag == 97

-- What stands where it may not, behind its tag: the kind of that, unless its own fault at the tag is told.
unfoldable pub refused : {A : Type 0} → WireKind → ℕ → Met → ℕ → List ℕ → Result A Fault
refused kind tag met left bytes = if is_composite_tag tag then fault left kind else rather kind left (leaf_at tag met left bytes)
