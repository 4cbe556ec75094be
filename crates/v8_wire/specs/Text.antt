-- Strings as V8's serializer writes them (ValueDeserializer::ReadOneByteString, ReadTwoByteString, ReadUtf8String).
use Rattle.std.specs.Prelude.{ℕ, ◌+◌, ◌*◌, ◌/◌, ◌%◌, ◌==◌, nat_lt, if◌then◌else◌, List, [], ◌∷◌, length, take, drop, Result, Ok}
use Rattle.std.specs.Str.{is_utf8}
use Rattle.wl_text.specs.Text.{units_of}
use Rattle.v8_wire.specs.declared.kind.WireKind.TheVariants.{Text, TooLarge}
use Rattle.v8_wire.specs.declared.fault.Fault.{Fault}
use Rattle.v8_wire.specs.Faults.{◌>>=◌, fault, cut}
use Rattle.v8_wire.specs.Number.{varint_at}

-- the units of little-endian pairs of bytes
unfoldable pub pairs : List ℕ → List ℕ
pairs [] = []
pairs (low ∷ []) = []
pairs (low ∷ high ∷ rest) = (low + 256 * high) ∷ pairs rest

-- so many bytes, and what follows them
abbrev pub bytes_at : ℕ → List ℕ → Result (List ℕ × List ℕ) Fault
bytes_at count bytes = if nat_lt (length bytes) count then cut else Ok (take count bytes, drop count bytes)

-- one byte for each unit
unfoldable pub narrow_at : ℕ → List ℕ → Result (List ℕ × List ℕ) Fault
narrow_at left bytes = varint_at bytes >>= λ n.
    if nat_lt 1_048_576 n.0 then fault left TooLarge else bytes_at n.0 n.1

-- two bytes for each unit
unfoldable pub wide_at : ℕ → List ℕ → Result (List ℕ × List ℕ) Fault
wide_at left bytes = varint_at bytes >>= λ n.
    if n.0 % 2 == 1 then fault left Text
    else if nat_lt 1_048_576 (n.0 / 2) then fault left TooLarge
    else bytes_at n.0 n.1 >>= λ x. Ok (pairs x.0, x.1)

-- the units of UTF-8 bytes
unfoldable pub decoded : ℕ → List ℕ → Result (List ℕ) Fault
decoded left bytes = if is_utf8 bytes
    then (if nat_lt 1_048_576 (length (units_of bytes)) then fault left TooLarge else Ok (units_of bytes))
    else fault left Text

-- UTF-8
unfoldable pub utf8_at : ℕ → List ℕ → Result (List ℕ × List ℕ) Fault
utf8_at left bytes = varint_at bytes >>= λ n. bytes_at n.0 n.1 >>= λ x. decoded left x.0 >>= λ units. Ok (units, x.1)

-- The string behind the tag `"`, `c` or `S`, at which `left` bytes are left.
unfoldable pub string_at : ℕ → ℕ → List ℕ → Result (List ℕ × List ℕ) Fault
string_at tag left bytes = if tag == 34 then narrow_at left bytes
    else if tag == 99 then wide_at left bytes
    else utf8_at left bytes
