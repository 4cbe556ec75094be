-- The units of a name spell a name.
use Rattle.std.proofs.Common.{◌≡◌, ℕ, ◌+◌, ◌-◌, ◌/◌, ◌%◌, ◌≤◌, ◌<◌, Bool, true, false, cond, List, [], ◌∷◌, ◌++◌, refl, ap, ◌∙◌, arith, inl, inr, nat_lt}
use Rattle.std.specs.Prelude.{Some, ◌&&◌, nat_le}
use Rattle.std.specs.Char.{len_utf8}
use Rattle.std.specs.Char.Escape.{encode_utf16}
use Rattle.std.specs.Char.Utf16.{utf16_chars, lone_unit_char, is_high_surrogate, surrogate_pair_char}
use Rattle.std.proofs.Math.Utf8.{scalar, scalar_cases, scalars}
use Rattle.std.proofs.lemmas.Bool.{cases_lt}
use Rattle.std.proofs.lemmas.Bool.Decides.{nat_tests}
use Rattle.js_token.specs.declared.characters.Placed.{Placed}
use Rattle.js_token.specs.Characters.{with_places}
use Rattle.js_token.specs.Words.{starts_name, continues_name, continue_name, are_of_name, is_word, is_name, with_front, rest_of_name, name_at}

le_yes : (m n : ℕ) → m ≤ n → nat_le m n ≡ true
le_yes m n h = grind (arith, nat_tests)

le_no : (m n : ℕ) → n < m → nat_le m n ≡ false
le_no m n h = grind (arith, nat_tests)

lt_yes : (m n : ℕ) → m < n → nat_lt m n ≡ true
lt_yes m n h = grind (arith, nat_tests)

lt_no : (m n : ℕ) → n ≤ m → nat_lt m n ≡ false
lt_no m n h = grind (arith, nat_tests)

and_false : (a : Bool) → (a && false) ≡ false
and_false true = refl
and_false false = refl

-- a unit that is no surrogate is a character
lone-first : (c : ℕ) (us : List ℕ) → is_high_surrogate c ≡ false → lone_unit_char c ≡ Some c → utf16_chars (c ∷ us) ≡ Some c ∷ utf16_chars us
unfolding utf16_chars
lone-first c [] high lone = ap (λ o. o ∷ []) lone
lone-first c (v ∷ us) high lone = rw (high, lone) refl

below-surrogates : (c : ℕ) (us : List ℕ) → c < 0xD800 → utf16_chars (c ∷ us) ≡ Some c ∷ utf16_chars us
below-surrogates c us h = lone-first c us (rw (le_no 0xD800 c h) refl) (rw (le_no 0xD800 c h) refl)

above-surrogates : (c : ℕ) (us : List ℕ) → 0xE000 ≤ c → utf16_chars (c ∷ us) ≡ Some c ∷ utf16_chars us
above-surrogates c us h =
    lone-first c us (rw (lt_no c 0xDC00 (omega arith)) (and_false (nat_le 0xD800 c))) (rw (lt_no c 0xE000 h, and_false (nat_le 0xD800 c)) refl)

-- a pair is a character
pair-first : (high low c : ℕ) (us : List ℕ) → 0xD800 ≤ high → high < 0xDC00 → 0xDC00 ≤ low → low < 0xE000 → surrogate_pair_char high low ≡ c
    → utf16_chars (high ∷ low ∷ us) ≡ Some c ∷ utf16_chars us
unfolding utf16_chars
pair-first high low c us a b p q e =
    rw (le_yes 0xD800 high a, lt_yes high 0xDC00 b, le_yes 0xDC00 low p, lt_yes low 0xE000 q) (ap (λ x. Some x ∷ utf16_chars us) e)

-- The units of a character spell it.
utf16_chars-encode : (c : ℕ) (us : List ℕ) → scalar c ≡ true → utf16_chars (encode_utf16 c ++ us) ≡ Some c ∷ utf16_chars us
utf16_chars-encode c us s =
    elim (cases_lt c 0x1_0000) [
      | inl small ↦ rw (lt_yes c 0x1_0000 small) (elim (scalar_cases c s) [ inl h ↦ below-surrogates c us h | inr h ↦ above-surrogates c us h.0 ])
      | inr large ↦
          let fits : c < 0x11_0000 = elim (scalar_cases c s) [ inl h ↦ omega arith | inr h ↦ h.1 ] in
          rw (lt_no c 0x1_0000 large)
          (pair-first (0xD800 + (c - 0x1_0000) / 0x400) (0xDC00 + (c - 0x1_0000) % 0x400) c us (omega arith) (omega arith) (omega arith) (omega arith) (omega arith))
    ]

-- each character is the code of one
abbrev pub Scalars : List Placed → Type 0
Scalars [] = Unit {0}
Scalars (c ∷ rest) = (scalar c.symbol ≡ true) × Scalars rest

pub behind_scalar : (c : Placed) (rest : List Placed) → Scalars (c ∷ rest) → Scalars rest
behind_scalar c rest h = h.1

both : (a b : Bool) → (a && b) ≡ true → (a ≡ true) × (b ≡ true)
both true b h = (refl, h)
both false b h = absurd cc

pub with_places-scalars : (place : ℕ) (cs : List ℕ) → scalars cs ≡ true → Scalars (with_places place cs)
with_places-scalars place [] h = tt
with_places-scalars place (c ∷ cs) h =
    let each = both (scalar c) (scalars cs) h in
    (each.0, with_places-scalars (place + len_utf8 c) cs each.1)

-- what a name goes on with spells so
rest_of_name-continues : (chars : List Placed) → Scalars chars → continue_name (utf16_chars (rest_of_name chars).0) ≡ true
unfolding utf16_chars
rest_of_name-continues [] h = refl
rest_of_name-continues (c ∷ rest) h = by_test (continues_name c.symbol) refl (rest_of_name-continues rest h.1)
  where
    by_test : (b : Bool) → continues_name c.symbol ≡ b → continue_name (utf16_chars (rest_of_name rest).0) ≡ true
        → continue_name (utf16_chars (cond b (with_front (encode_utf16 c.symbol) (rest_of_name rest)) ([], c ∷ rest)).0) ≡ true
    by_test true e more = ap continue_name (utf16_chars-encode c.symbol (rest_of_name rest).0 h.0) ∙ rw (e, more) refl
    by_test false e more = refl

-- The units of a name that is no word are a name.
pub name_at-name : (c : Placed) (rest : List Placed) → starts_name c.symbol ≡ true → Scalars (c ∷ rest) → is_word (name_at c rest).0 ≡ false → is_name (name_at c rest).0 ≡ true
unfolding name_at is_name
name_at-name c rest starts h plain =
    let spelt = ap are_of_name (utf16_chars-encode c.symbol (rest_of_name rest).0 h.0) in
    let name : are_of_name (utf16_chars (encode_utf16 c.symbol ++ (rest_of_name rest).0)) ≡ true = spelt ∙ rw (starts, rest_of_name-continues rest h.1) refl in
    rw (name, plain) refl
