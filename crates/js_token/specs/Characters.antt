-- The characters of a script with their places (ECMA-262, 12.2 and 12.3).
use Rattle.std.specs.Prelude.{ℕ, ◌+◌, ◌==◌, ◌||◌, Bool, false, List, [], ◌∷◌, map, nat_lt}
use Rattle.std.specs.Char.{len_utf8, digit_value}
use Rattle.js_token.specs.declared.characters.Placed.{Placed}

-- Each character with the offset of its first byte.
abbrev pub with_places : ℕ → List ℕ → List Placed
with_places place [] = []
with_places place (c ∷ cs) = record { place = place; symbol = c } ∷ with_places (place + len_utf8 c) cs

-- the characters without their places
abbrev pub symbols : List Placed → List ℕ
symbols chars = map (λ c. c.symbol) chars

-- whether the first character is this one
abbrev pub is_next : ℕ → List Placed → Bool
is_next symbol [] = false
is_next symbol (c ∷ rest) = c.symbol == symbol

-- LF, CR, LS and PS
unfoldable pub is_line_break : ℕ → Bool
is_line_break c = (c == 10) || (c == 13) || (c == 0x2028) || (c == 0x2029)

-- tab, VT, FF, space, no-break space, the byte order mark and the line breaks
unfoldable pub is_blank : ℕ → Bool
is_blank c = (c == 9) || (c == 11) || (c == 12) || (c == 32) || (c == 0xA0) || (c == 0xFEFF) || is_line_break c

-- 0 to 9
abbrev pub is_digit : ℕ → Bool
is_digit c = nat_lt (digit_value c) 10

-- 0 to 9, a to f and A to F
abbrev pub is_hex_digit : ℕ → Bool
is_hex_digit c = nat_lt (digit_value c) 16
