-- Numbers written as texts of decimal digits.
use Rattle.std.specs.Prelude.{◌≡◌, ◌≢◌, ℕ, ◌+◌, ◌*◌, ◌-◌, ◌≤◌, ◌==◌, ◌&&◌, nat_le, nat_lt, length, List, [], ◌∷◌, ℤ, pos, neg_ℤ, Option, Some, None, option_map, if◌then◌else◌, decimal, Bool, false}
use Rattle.std.specs.Str.{all_ascii_digits}

-- the number that digits spell when they follow those of another
abbrev pub value_after : ℕ → List ℕ → ℕ
value_after before [] = before
value_after before (digit ∷ digits) = value_after (before * 10 + (digit - 48)) digits

-- The number that one digit or more spell, leading zeros among them, where it is at most `most`.
unfoldable pub natural_of : ℕ → List ℕ → Option ℕ
natural_of most digits = if nat_lt 0 (length digits) && all_ascii_digits digits && nat_le (value_after 0 digits) most
    then Some (value_after 0 digits) else None

-- The number that an optional `-` and one digit or more spell, where it lies from -(2^53 - 1) to 2^53 - 1.
unfoldable pub number_of : List ℕ → Option ℤ
number_of [] = None
number_of (first ∷ rest) = if first == 45 then option_map (λ n. neg_ℤ (pos n)) (natural_of 9_007_199_254_740_991 rest)
    else option_map pos (natural_of 9_007_199_254_740_991 (first ∷ rest))

-- a `0` with more behind it
abbrev pub leads_with_zero : List ℕ → Bool
leads_with_zero [] = false
leads_with_zero (first ∷ []) = false
leads_with_zero (first ∷ second ∷ rest) = first == 48

-- The array index that a text is (ECMA-262, 6.1.7): a number of at most 2^32 - 2, written in decimal.
unfoldable pub index_of : List ℕ → Option ℕ
index_of text = if leads_with_zero text then None else natural_of 4_294_967_294 text

-- A text is the array index n exactly where it is the decimal text of n, and n is at most 2^32 - 2.
abbrev pub IsIndexOf : List ℕ → Option ℕ → Type 0
IsIndexOf text (Some n) = (text ≡ decimal n) × (n ≤ 4_294_967_294)
IsIndexOf text None = (n : ℕ) → n ≤ 4_294_967_294 → text ≢ decimal n
