-- Lemmas on characters with their places.
use Rattle.std.proofs.Common.{◌≡◌, ℕ, ◌+◌, List, [], ◌∷◌, ◌++◌, length, ap}
use Rattle.std.specs.Char.{encode_utf8, len_utf8}
use Rattle.std.specs.Str.{IsUtf8, chars}
use Rattle.std.proofs.lemmas.List.{nil_from_length}
use Rattle.std.proofs.lemmas.Str.{chars-nil, chars_past_char}
use Rattle.js_token.specs.Characters.{with_places}

-- The characters of a text begin with its first.
pub with_places-past_char : (place : ℕ) (bs rest : List ℕ) (c : ℕ) → IsUtf8 bs → bs ≡ encode_utf8 c ++ rest
    → with_places place (chars bs) ≡ record { place = place; symbol = c } ∷ with_places (place + len_utf8 c) (chars rest)
with_places-past_char place bs rest c utf8 e = ap (with_places place) (chars_past_char bs rest c utf8 e)

-- An empty text has none.
pub with_places-empty : (place : ℕ) (bs : List ℕ) → length bs ≡ 0 → with_places place (chars bs) ≡ []
with_places-empty place bs e = rw (nil_from_length bs e, chars-nil)
