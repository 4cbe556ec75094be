-- The tokens of a script (ECMA-262, 12).
use Rattle.std.specs.Prelude.{ℕ, zero, suc, ◌==◌, ◌||◌, Bool, true, false, List, [], ◌∷◌, length, Option, Some, None, Result, Ok, Err, pos, nat_eq, codes, if◌then◌else◌}
use Rattle.std.specs.List.{starts_with}
use Rattle.std.specs.Char.{digit_value}
use Rattle.std.specs.Str.{chars, is_utf8}
use Rattle.std.specs.Str.Lossy.{utf8_valid_len}
use Rattle.js_token.specs.declared.characters.Placed.{Placed}
use Rattle.js_token.specs.declared.token.Token.{Token}
use Rattle.js_token.specs.declared.token.TokenKind.{TokenKind}
use Rattle.js_token.specs.declared.token.TokenKind.TheVariants.{Name, Word, Number, Text, Piece, Mark, End}
use Rattle.js_token.specs.declared.token.LexFault.{LexFault}
use Rattle.js_token.specs.declared.token.LexFault.TheVariants.{At}
use Rattle.js_token.specs.declared.token.LexKind.TheVariants as fault
use Rattle.js_token.specs.Characters.{with_places, is_digit}
use Rattle.js_token.specs.Nesting.{Nest, outside, outermost, open_template, opened, closed, behind_piece}
use Rattle.js_token.specs.Reading.{◌>>=◌}
use Rattle.js_token.specs.Gaps.{gap_at}
use Rattle.js_token.specs.Words.{starts_name, name_at, is_word}
use Rattle.js_token.specs.Numbers.{number_at}
use Rattle.js_token.specs.Literals.{text_at}
use Rattle.js_token.specs.Marks.{mark_at, mark_number}

-- A token's kind, what is open behind it, and what stands behind it.
pub record Front : Type 0 where
  pub kind : TokenKind
  pub nest : Nest
  pub rest : List Placed

abbrev pub front : TokenKind → Nest → List Placed → Front
front kind nest rest = record { kind = kind; nest = nest; rest = rest }

-- a name, or a word
abbrev pub named : List ℕ × List Placed → TokenKind × List Placed
named x = (if is_word x.0 then Word x.0 else Name x.0, x.1)

-- a mark, where there is one at the place
abbrev pub marked : ℕ → Option (ℕ × List Placed) → Result (TokenKind × List Placed) LexFault
marked place None = Err (At place fault.Char)
marked place (Some x) = Ok (Mark x.0, x.1)

-- a name, word, number, string or mark that begins with this character, and what stands behind it
unfoldable pub plain_at : Placed → List Placed → Result (TokenKind × List Placed) LexFault
plain_at c rest = if starts_name c.symbol then Ok (named (name_at c rest))
    else if is_digit c.symbol then (number_at c.place (digit_value c.symbol) rest >>= λ x. Ok (Number (pos x.0), x.1))
    else if (c.symbol == 39) || (c.symbol == 34)
    then (text_at (length rest) c.place c.symbol rest >>= λ x. Ok (Text x.0, x.2))
    else marked c.place (mark_at (c ∷ rest))

-- a token that leaves open what is open
abbrev pub beside : Nest → Result (TokenKind × List Placed) LexFault → Result Front LexFault
beside nest read = read >>= λ x. Ok (front x.0 nest x.1)

-- A stretch of the text of a template that starts at the place.
unfoldable pub piece_at : Bool → ℕ → Nest → List Placed → Result Front LexFault
piece_at first start nest chars = text_at (length chars) (outermost start nest.parts) 96 chars
    >>= λ x. Ok (front (Piece x.0 first x.1) (behind_piece start x.1 nest) x.2)

-- A `}`: a mark, or the next stretch of a template's text.
abbrev pub closing_at : Option ℕ × Nest → List Placed → Result Front LexFault
closing_at (None, nest) rest = Ok (front (Mark (mark_number (codes "}"))) nest rest)
closing_at (Some start, nest) rest = piece_at false start nest rest

-- The token that begins with this character.
unfoldable pub token_at : Nest → Placed → List Placed → Result Front LexFault
token_at nest c rest = if c.symbol == 96 then piece_at true c.place nest rest
    else if c.symbol == 123 then Ok (front (Mark (mark_number (codes "{"))) (opened nest) rest)
    else if c.symbol == 125 then closing_at (closed nest) rest
    else beside nest (plain_at c rest)

-- the tokens at the end of the text, where no template may be open
abbrev pub at_end : ℕ → Bool → Option ℕ → Result (List Token) LexFault
at_end place broken None = Ok (record { place = place; broken = broken; kind = End } ∷ [])
at_end place broken (Some start) = Err (At start fault.Template)

-- tokens with one before them
abbrev pub with_token : Token → Result (List Token) LexFault → Result (List Token) LexFault
with_token token read = read >>= λ tokens. Ok (token ∷ tokens)

-- What follows on a turn: behind a blank or comment, the tokens to come; else a token, and the tokens to come.
abbrev pub turn : (Nest → Bool → List Placed → Result (List Token) LexFault) → Nest → Bool → Placed → List Placed → Option (Bool × List Placed) → Result (List Token) LexFault
turn more nest broken c rest (Some gap) = more nest (broken || gap.0) gap.1
turn more nest broken c rest None = token_at nest c rest >>= λ x.
    with_token (record { place = c.place; broken = broken; kind = x.kind }) (more x.nest false x.rest)

-- The tokens of the characters, in at most n tokens, blanks and comments, where so much is open in front and a line
-- break stands before, or none; the text ends at the place.
unfoldable pub tokens_at : ℕ → ℕ → Nest → Bool → List Placed → Result (List Token) LexFault
tokens_at zero end nest broken chars = at_end end broken (open_template nest.parts)
tokens_at (suc n) end nest broken [] = at_end end broken (open_template nest.parts)
tokens_at (suc n) end nest broken (c ∷ rest) = gap_at (c ∷ rest) >>= turn (tokens_at n end) nest broken c rest

-- the byte order mark in UTF-8
abbrev pub byte_order_mark : List ℕ
byte_order_mark = 0xEF ∷ 0xBB ∷ 0xBF ∷ []

-- The tokens of a text that has these characters and ends at the place.
unfoldable pub tokens_in : ℕ → List Placed → Result (List Token) LexFault
tokens_in end chars = tokens_at (length chars) end outside false chars

-- The text itself, where it is UTF-8 without a byte order mark.
unfoldable pub checked_text : List ℕ → Result (List ℕ) LexFault
checked_text bytes = if starts_with nat_eq bytes byte_order_mark then Err (At 0 fault.Text)
    else if is_utf8 bytes then Ok bytes
    else Err (At (utf8_valid_len bytes) fault.Text)

-- The tokens of a text, or its first fault.
unfoldable pub tokens_of : List ℕ → Result (List Token) LexFault
tokens_of bytes = checked_text bytes >>= λ text. tokens_in (length text) (with_places 0 (chars text))
