-- Lemmas on names.
use Rattle.std.proofs.Common.{◌≡◌, ℕ, ◌+◌, ◌≤◌, true, false, cond, List, [], ◌∷◌, ◌++◌, length, ap, ◌∙◌, sym, append_assoc, length-append, arith, nat_lt, ◌-◌, ◌/◌, ◌%◌}
use Rattle.std.proofs.lemmas.List.{append-nil}
use Rattle.std.specs.Char.Escape.{encode_utf16}
use Rattle.js_token.specs.declared.characters.Placed.{Placed}
use Rattle.js_token.specs.Words.{with_front, rest_of_name, name_at, continues_name}

-- A character has at most two units.
pub encode_utf16-short : (c : ℕ) → length (encode_utf16 c) ≤ 2
encode_utf16-short c = elim (nat_lt c 0x1_0000) as (λ b. length (cond b (c ∷ []) ((0xD800 + (c - 0x1_0000) / 0x400) ∷ (0xDC00 + (c - 0x1_0000) % 0x400) ∷ [])) ≤ 2) [ true ↦ omega arith | false ↦ omega arith ]

pub with_front-twice : (a b : List ℕ) (x : List ℕ × List Placed) → with_front a (with_front b x) ≡ with_front (a ++ b) x
with_front-twice a b x = ap (λ units. (units, x.1)) (sym (append_assoc a b x.0))

pub grown-short : (before after : List ℕ) (c : ℕ) → after ≡ before ++ encode_utf16 c → length after ≤ length before + 2
grown-short before after c e =
    let short = encode_utf16-short c in
    let lengths = simp length-append at (ap length e) in omega arith

-- the first character of a name
pub name_at-first : (c : Placed) (rest : List Placed) (none units : List ℕ) → none ≡ [] → units ≡ none ++ encode_utf16 c.symbol
    → name_at c rest ≡ with_front units (rest_of_name rest)
unfolding name_at
name_at-first c rest none units empty e = ap (λ front. with_front front (rest_of_name rest)) (sym (e ∙ ap (λ u. u ++ encode_utf16 c.symbol) empty))

-- One more character of a name.
pub name-turn : (c : Placed) (left rest : List Placed) (units more : List ℕ) (whole : List ℕ × List Placed)
    → left ≡ c ∷ rest → continues_name c.symbol ≡ true → more ≡ units ++ encode_utf16 c.symbol
    → whole ≡ with_front units (rest_of_name left) → whole ≡ with_front more (rest_of_name rest)
name-turn c left rest units more whole e goes grown so_far =
    so_far ∙ rw (e, goes, grown) (with_front-twice units (encode_utf16 c.symbol) (rest_of_name rest))

-- The name ends before a character.
pub name-end : (c : Placed) (left rest : List Placed) (units : List ℕ) (whole : List ℕ × List Placed)
    → left ≡ c ∷ rest → continues_name c.symbol ≡ false → whole ≡ with_front units (rest_of_name left) → (units, left) ≡ whole
name-end c left rest units whole e stops so_far = sym (so_far ∙ rw (e, stops) (ap (λ u. (u, c ∷ rest)) (append-nil units)))

-- The name ends with the text.
pub name-whole : (left : List Placed) (units : List ℕ) (whole : List ℕ × List Placed)
    → length left ≡ 0 → whole ≡ with_front units (rest_of_name left) → (units, left) ≡ whole
name-whole [] units whole e so_far = sym (so_far ∙ ap (λ u. (u, [])) (append-nil units))
name-whole (c ∷ left) units whole e so_far = absurd (omega arith)
