-- The texts of strings and templates (ECMA-262, 12.9.4 and 12.9.6).
use Rattle.std.specs.Prelude.{ℕ, zero, suc, ◌+◌, ◌*◌, ◌==◌, ◌&&◌, ◌||◌, Bool, true, false, not, List, [], ◌∷◌, ◌++◌, drop, Option, Some, None, Result, Ok, Err, nat_le, if◌then◌else◌}
use Rattle.std.specs.Option.{option_and_then}
use Rattle.std.specs.Char.{digit_value}
use Rattle.std.specs.Char.Escape.{encode_utf16}
use Rattle.js_token.specs.declared.characters.Placed.{Placed}
use Rattle.js_token.specs.declared.token.LexFault.{LexFault}
use Rattle.js_token.specs.declared.token.LexFault.TheVariants.{At}
use Rattle.js_token.specs.declared.token.LexKind.TheVariants.{Escape, String, Template}
use Rattle.js_token.specs.Characters.{is_next, is_digit, is_hex_digit, is_line_break}
use Rattle.js_token.specs.Numbers.{digits, is_hex_next}
use Rattle.js_token.specs.Reading.{◌>>=◌}

-- the characters behind a CR, without the LF that makes one line break with it
abbrev pub after_feed : List Placed → List Placed
after_feed rest = if is_next 10 rest then drop 1 rest else rest

-- the value of two hexadecimal digits, and of four, and what stands behind them
abbrev pub two_digits : List Placed → Option (ℕ × List Placed)
two_digits [] = None
two_digits (a ∷ []) = None
two_digits (a ∷ b ∷ rest) = if is_hex_digit a.symbol && is_hex_digit b.symbol
    then Some (digit_value a.symbol * 16 + digit_value b.symbol, rest) else None

abbrev pub four_digits : List Placed → Option (ℕ × List Placed)
four_digits chars = option_and_then (λ high. option_and_then (λ low. Some (high.0 * 256 + low.0, low.1)) (two_digits high.1)) (two_digits chars)

-- a code point in braces, of any number of hexadecimal digits, behind the opening one
abbrev pub closed_code : ℕ × List Placed → Option (ℕ × List Placed)
closed_code x = if nat_le x.0 0x10FFFF && is_next 125 x.1 then Some (x.0, drop 1 x.1) else None

abbrev pub braced_code : List Placed → Option (ℕ × List Placed)
braced_code chars = if is_hex_next chars then closed_code (digits 16 0 chars) else None

-- the code of an escape behind `\u`
abbrev pub unicode_code : List Placed → Option (ℕ × List Placed)
unicode_code chars = if is_next 123 chars then braced_code (drop 1 chars) else four_digits chars

-- an escape of the code, or a fault where there is none
abbrev pub coded : ℕ → Option (ℕ × List Placed) → Result (Option ℕ × List Placed) LexFault
coded place None = Err (At place Escape)
coded place (Some x) = Ok (Some x.0, x.1)

-- the code point that a character stands for behind a `\`
abbrev pub single_escape : ℕ → ℕ
single_escape c = if c == 110 then 10
    else if c == 116 then 9
    else if c == 114 then 13
    else if c == 98 then 8
    else if c == 102 then 12
    else if c == 118 then 11
    else c

-- whether the first character is a digit
abbrev pub is_digit_next : List Placed → Bool
is_digit_next [] = false
is_digit_next (c ∷ rest) = is_digit c.symbol

-- `\0`, which no digit follows; behind a `\` no other digit may stand
abbrev pub zero_escape : ℕ → ℕ → List Placed → Result (Option ℕ × List Placed) LexFault
zero_escape place digit rest = if (digit == 48) && not (is_digit_next rest) then Ok (Some 0, rest) else Err (At place Escape)

-- The escape whose `\` stands at the place, and what stands behind it. A `\` before a line break gives nothing.
unfoldable pub escape_at : ℕ → List Placed → Result (Option ℕ × List Placed) LexFault
escape_at place [] = Err (At place Escape)
escape_at place (c ∷ rest) = if c.symbol == 120 then coded place (two_digits rest)
    else if c.symbol == 117 then coded place (unicode_code rest)
    else if is_digit c.symbol then zero_escape place c.symbol rest
    else if c.symbol == 13 then Ok (None, after_feed rest)
    else if is_line_break c.symbol then Ok (None, rest)
    else Ok (Some (single_escape c.symbol), rest)

-- One character of a literal's text, or an escape. In a template CR and CR LF stand for LF.
unfoldable pub element_at : ℕ → Placed → List Placed → Result (Option ℕ × List Placed) LexFault
element_at quote c rest = if c.symbol == 92 then escape_at c.place rest
    else if (quote == 96) && (c.symbol == 13) then Ok (Some 10, after_feed rest)
    else Ok (Some c.symbol, rest)

-- the units of a code point, if there is one
abbrev pub units_of_code : Option ℕ → List ℕ
units_of_code None = []
units_of_code (Some code) = encode_utf16 code

-- a literal's text, with units before it
abbrev pub with_units : List ℕ → Result (List ℕ × Bool × List Placed) LexFault → Result (List ℕ × Bool × List Placed) LexFault
with_units units read = read >>= λ x. Ok (units ++ x.0, x.1, x.2)

-- the fault of a literal that is not ended
abbrev pub unended : ℕ → ℕ → LexFault
unended start quote = if quote == 96 then At start Template else At start String

-- whether a string, which is no template, breaks off at the character
abbrev pub breaks_off : ℕ → ℕ → Bool
breaks_off quote c = not (quote == 96) && ((c == 10) || (c == 13))

-- whether a template's text ends here, at `${`
abbrev pub opens_part : ℕ → ℕ → List Placed → Bool
opens_part quote c rest = (quote == 96) && (c == 36) && is_next 123 rest

-- The text of a literal in such quotes behind its opening quote, or a template's behind the `}` of a part, in at
-- most n elements; whether the closing quote ends it, as always in a string; and what stands behind. One that is not
-- ended is at fault at `start`.
unfoldable pub text_at : ℕ → ℕ → ℕ → List Placed → Result (List ℕ × Bool × List Placed) LexFault
text_at zero start quote chars = Err (unended start quote)
text_at (suc n) start quote [] = Err (unended start quote)
text_at (suc n) start quote (c ∷ rest) = if c.symbol == quote then Ok ([], true, rest)
    else if opens_part quote c.symbol rest then Ok ([], false, drop 1 rest)
    else if breaks_off quote c.symbol then Err (unended start quote)
    else element_at quote c rest >>= λ x. with_units (units_of_code x.0) (text_at n start quote x.1)
