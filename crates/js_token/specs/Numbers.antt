-- Number literals (ECMA-262, 12.9.3), as far as scripts use them: whole numbers, decimal or hexadecimal.
use Rattle.std.specs.Prelude.{ℕ, ◌+◌, ◌*◌, ◌==◌, ◌&&◌, ◌||◌, Bool, false, List, [], ◌∷◌, drop, Result, Ok, Err, nat_lt, if◌then◌else◌}
use Rattle.std.specs.Char.{digit_value}
use Rattle.js_token.specs.declared.characters.Placed.{Placed}
use Rattle.js_token.specs.declared.token.LexFault.{LexFault}
use Rattle.js_token.specs.declared.token.LexFault.TheVariants.{At}
use Rattle.js_token.specs.declared.token.LexKind.TheVariants.{Number}
use Rattle.js_token.specs.Characters.{is_next, is_digit, is_hex_digit}
use Rattle.js_token.specs.Words.{starts_name}

-- The value of the digits at the front, in this base and behind digits of this value, and what stands behind them.
abbrev pub digits : ℕ → ℕ → List Placed → ℕ × List Placed
digits base value [] = (value, [])
digits base value (c ∷ rest) =
    if nat_lt (digit_value c.symbol) base then digits base (value * base + digit_value c.symbol) rest else (value, c ∷ rest)

-- whether the first character is a hexadecimal digit
abbrev pub is_hex_next : List Placed → Bool
is_hex_next [] = false
is_hex_next (c ∷ rest) = is_hex_digit c.symbol

-- what may not stand directly behind a number: a digit, a name's first character or `.`
abbrev pub is_number_going_on : List Placed → Bool
is_number_going_on [] = false
is_number_going_on (c ∷ rest) = is_digit c.symbol || starts_name c.symbol || (c.symbol == 46)

-- The value of a number behind its first digit: `0` alone, `0x` and hexadecimal digits, or decimal digits.
abbrev pub value_at : ℕ → List Placed → ℕ × List Placed
value_at digit rest = if digit == 0
    then (if is_next 120 rest && is_hex_next (drop 1 rest) then digits 16 0 (drop 1 rest) else (0, rest))
    else digits 10 digit rest

-- a number that begins at the place, unless it is too large or goes on
abbrev pub whole_number : ℕ → ℕ × List Placed → Result (ℕ × List Placed) LexFault
whole_number place x = if nat_lt 9_007_199_254_740_991 x.0 || is_number_going_on x.1 then Err (At place Number) else Ok x

-- The number at the place behind its first digit, and what stands behind it.
unfoldable pub number_at : ℕ → ℕ → List Placed → Result (ℕ × List Placed) LexFault
number_at place digit rest = whole_number place (value_at digit rest)
