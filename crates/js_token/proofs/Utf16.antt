-- Lemmas on the characters of UTF-16 units.
use Rattle.std.proofs.Common.{◌≡◌, ℕ, Bool, true, false, cond, List, [], ◌∷◌, refl, ◌∙◌, sym, length, arith}
use Rattle.std.specs.Prelude.{Option, Some, None, ◌&&◌}
use Rattle.std.specs.Option.{option_map}
use Rattle.std.specs.Char.Utf16.{utf16_chars, lone_unit_char, is_high_surrogate, is_low_surrogate, surrogate_pair_char}
use Rattle.js_token.specs.Words.{character_at, lone_character, continue_name, are_of_name, continues_name, starts_name}

-- the characters, if the first is this one, or none
abbrev Front : List ℕ → Option (ℕ × List ℕ) → Type 0
Front units None = (others : List (Option ℕ)) × (utf16_chars units ≡ None ∷ others)
Front units (Some x) = utf16_chars units ≡ Some x.0 ∷ utf16_chars x.1

lone : (unit : ℕ) (rest : List ℕ) (o : Option ℕ) → utf16_chars (unit ∷ rest) ≡ o ∷ utf16_chars rest → Front (unit ∷ rest) (option_map (λ c. (c, rest)) o)
lone unit rest None e = (utf16_chars rest, e)
lone unit rest (Some c) e = e

front-at : (unit : ℕ) (rest : List ℕ) → Front (unit ∷ rest) (character_at unit rest)
unfolding utf16_chars
front-at unit [] = lone unit [] (lone_unit_char unit) refl
front-at unit (low ∷ rest) = by_pair (is_high_surrogate unit && is_low_surrogate low) refl
  where
    by_pair : (b : Bool) → (is_high_surrogate unit && is_low_surrogate low) ≡ b
        → Front (unit ∷ low ∷ rest) (cond b (Some (surrogate_pair_char unit low, rest)) (lone_character unit (low ∷ rest)))
    by_pair true e = rw e refl
    by_pair false e = lone unit (low ∷ rest) (lone_unit_char unit) (rw e refl)

-- the first character is this one
pub utf16_chars-some : (unit c : ℕ) (rest behind : List ℕ) → character_at unit rest ≡ Some (c, behind) → utf16_chars (unit ∷ rest) ≡ Some c ∷ utf16_chars behind
utf16_chars-some unit c rest behind e = rw e at (front-at unit rest)

-- the first unit is a surrogate without a partner
pub utf16_chars-none : (unit : ℕ) (rest : List ℕ) → character_at unit rest ≡ None → (others : List (Option ℕ)) × (utf16_chars (unit ∷ rest) ≡ None ∷ others)
utf16_chars-none unit rest e = rw e at (front-at unit rest)

-- One more character of a name.
pub continue_name-turn : (unit c : ℕ) (left rest behind : List ℕ) (whole : Bool) → left ≡ unit ∷ rest → character_at unit rest ≡ Some (c, behind)
    → continues_name c ≡ true → whole ≡ continue_name (utf16_chars left) → whole ≡ continue_name (utf16_chars behind)
continue_name-turn unit c left rest behind whole e first goes so_far = so_far ∙ rw (e, utf16_chars-some unit c rest behind first, goes) refl

-- A character with which no name goes on.
pub continue_name-other : (unit c : ℕ) (left rest behind : List ℕ) (whole : Bool) → left ≡ unit ∷ rest → character_at unit rest ≡ Some (c, behind)
    → continues_name c ≡ false → whole ≡ continue_name (utf16_chars left) → false ≡ whole
continue_name-other unit c left rest behind whole e first stops so_far = sym (so_far ∙ rw (e, utf16_chars-some unit c rest behind first, stops) refl)

-- A surrogate without a partner.
pub continue_name-none : (unit : ℕ) (left rest : List ℕ) (whole : Bool) → left ≡ unit ∷ rest → character_at unit rest ≡ None
    → whole ≡ continue_name (utf16_chars left) → false ≡ whole
continue_name-none unit left rest whole e lone so_far = sym (so_far ∙ rw (e, (utf16_chars-none unit rest lone).1) refl)

-- The end.
pub continue_name-end : (left : List ℕ) (whole : Bool) → length left ≡ 0 → whole ≡ continue_name (utf16_chars left) → true ≡ whole
unfolding utf16_chars
continue_name-end [] whole e so_far = sym so_far
continue_name-end (unit ∷ left) whole e so_far = absurd (omega arith)

-- the name's first character
pub are_of_name-some : (unit c : ℕ) (units rest behind : List ℕ) → units ≡ unit ∷ rest → character_at unit rest ≡ Some (c, behind)
    → are_of_name (utf16_chars units) ≡ (starts_name c && continue_name (utf16_chars behind))
are_of_name-some unit c units rest behind e first = rw (e, utf16_chars-some unit c rest behind first) refl

pub are_of_name-none : (unit : ℕ) (units rest : List ℕ) → units ≡ unit ∷ rest → character_at unit rest ≡ None → false ≡ are_of_name (utf16_chars units)
are_of_name-none unit units rest e lone = sym (rw (e, (utf16_chars-none unit rest lone).1) refl)

pub are_of_name-empty : (units : List ℕ) → length units ≡ 0 → false ≡ are_of_name (utf16_chars units)
unfolding utf16_chars
are_of_name-empty [] e = refl
are_of_name-empty (unit ∷ units) e = absurd (omega arith)
