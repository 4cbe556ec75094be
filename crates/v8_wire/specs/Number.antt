-- Numbers as V8's serializer writes them (ValueDeserializer::ReadVarint, ReadZigZag, ReadDouble; IEEE 754 binary64).
use Rattle.std.specs.Prelude.{ℕ, zero, suc, ◌+◌, ◌-◌, ◌*◌, ◌/◌, ◌%◌, ◌^◌, ◌==◌, ◌||◌, nat_lt, if◌then◌else◌, ℤ, pos, negsuc, neg_ℤ, List, [], ◌∷◌, length, take, drop, Option, Some, None, Result, Ok}
use Rattle.std.specs.Int.{w64, from_le_bytes}
use Rattle.v8_wire.specs.declared.kind.WireKind.TheVariants.{Varint, Number}
use Rattle.v8_wire.specs.declared.fault.Fault.{Fault}
use Rattle.v8_wire.specs.Faults.{◌>>=◌, fault, cut}

-- Groups of seven bits, the lowest first, each but the last with its high bit set. So many may follow the first, and
-- the last of all has four bits. A fault stands where the number began, with `left` bytes.
unfoldable pub groups_at : ℕ → ℕ → List ℕ → Result (ℕ × List ℕ) Fault
groups_at left zero [] = cut
groups_at left (suc more) [] = cut
groups_at left zero (b ∷ rest) = if nat_lt b 16 then Ok (b, rest) else fault left Varint
groups_at left (suc more) (b ∷ rest) = if nat_lt b 128 then Ok (b, rest)
    else groups_at left more rest >>= λ x. Ok (b - 128 + 128 * x.0, x.1)

-- a number below 2^32, in at most five bytes
unfoldable pub varint_at : List ℕ → Result (ℕ × List ℕ) Fault
varint_at bytes = groups_at (length bytes) 4 bytes

-- 0, -1, 1, -2, 2 and so on
abbrev pub unzigzag : ℕ → ℤ
unzigzag n = if n % 2 == 0 then pos (n / 2) else negsuc (n / 2)

-- The whole number that a double without its sign bit has, from its exponent (biased by 1023) and its 52 bits of fraction.
unfoldable pub magnitude_of : ℕ → Option ℕ
magnitude_of word =
    let exponent = word / 2 ^ 52 in
    let significand = word % 2 ^ 52 + 2 ^ 52 in
    let unit = 2 ^ (1075 - exponent) in
    if word == 0 then Some 0
    else if nat_lt exponent 1023 || nat_lt 1075 exponent then None
    else if significand % unit == 0 then Some (significand / unit)
    else None

abbrev pub with_sign : ℕ → Option ℕ → Option ℤ
with_sign sign None = None
with_sign sign (Some n) = if sign == 0 then Some (pos n) else Some (neg_ℤ (pos n))

-- The whole number from -(2^53-1) to 2^53-1 that a double has. Minus zero is 0.
unfoldable pub whole_of : ℕ → Option ℤ
whole_of word = with_sign (word / 2 ^ 63) (magnitude_of (word % 2 ^ 63))

abbrev pub told_whole : ℕ → List ℕ → Option ℤ → Result (ℤ × List ℕ) Fault
told_whole left rest None = fault left Number
told_whole left rest (Some n) = Ok (n, rest)

unfoldable pub double_at : ℕ → List ℕ → Result (ℤ × List ℕ) Fault
double_at left bytes = if nat_lt (length bytes) 8 then cut
    else told_whole left (drop 8 bytes) (whole_of (from_le_bytes w64 (take 8 bytes)))

-- `I` and a zigzag number, `U` and a number, or a double behind `N`, whose tag has `left` bytes.
unfoldable pub number_at : ℕ → ℕ → List ℕ → Result (ℤ × List ℕ) Fault
number_at tag left bytes = if tag == 73 then (varint_at bytes >>= λ n. Ok (unzigzag n.0, n.1))
    else if tag == 85 then (varint_at bytes >>= λ n. Ok (pos n.0, n.1))
    else double_at left bytes

-- a number of so many groups behind the first is below this
unfoldable pub bound : ℕ → ℕ
bound zero = 16
bound (suc more) = 128 * bound more
