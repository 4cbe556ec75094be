-- Texts whose end can be told: of two equal texts that begin so, the fronts are equal, and so is what follows.
use Rattle.std.proofs.Common.{◌≡◌, ◌≢◌, ℕ, ◌/◌, ◌%◌, ◌^◌, ◌<◌, ◌≤◌, ◌⊎◌, inl, inr, Bool, true, false, nat_lt, ltb, ◌&&◌, ◌||◌, if◌then◌else◌, List, [], ◌∷◌, ◌++◌, slice_index, Option, Some, refl, sym, ap, ◌∙◌, subst, append_assoc, arith}
use Rattle.std.specs.List.{list_all, flat_map}
use Rattle.std.specs.Char.{digit_char, digit_value}
use Rattle.std.specs.Char.Escape.{hex_digit_at}
use Rattle.std.specs.Fmt.{decimal}
use Rattle.std.proofs.lemmas.Bool.Decides.{eqb_tells}
use Rattle.std.proofs.lemmas.Bool.{and_parts}
use Rattle.std.proofs.lemmas.Fmt.{decimal_by_steps, decimal_injective}
use Rattle.std.proofs.lemmas.Str.{digit_value-digit_char}
use borrow.Author.Tests.{ltb-true}
use Rattle.hex.specs.Hex.{encode_with, encode_upper, upper_digits, hex_digit_value}
use Rattle.hex.proofs.HexLemmas.{IsDigits-upper_digits}
use Rattle.wl_text.specs.Text.{quoted, quoted_unit, escaped}

-- ---- decimal digits

abbrev pub IsDigit : ℕ → Type 0
IsDigit c = (48 ≤ c) × (c ≤ 57)

abbrev pub AreDigits : List ℕ → Type 0
AreDigits [] = Unit {0}
AreDigits (c ∷ cs) = IsDigit c × AreDigits cs

-- no digit stands at the front
abbrev pub Stops : List ℕ → Type 0
Stops [] = Unit {0}
Stops (c ∷ cs) = 48 ≤ c → c ≤ 57 → ⊥

AreDigits-append : (cs ds : List ℕ) → AreDigits cs → AreDigits ds → AreDigits (cs ++ ds)
AreDigits-append [] ds p q = q
AreDigits-append (c ∷ cs) ds p q = (p.0, AreDigits-append cs ds p.1 q)

pub AreDigits-decimal : (n : ℕ) → n < 2 ^ 64 → AreDigits (decimal n)
AreDigits-decimal n short = decimal_by_steps (λ m ds. AreDigits ds)
    (λ m small. ((omega arith, omega arith), tt))
    (λ m ds large front. AreDigits-append ds _ front ((omega arith, omega arith), tt))
    n short

digits-apart : (u v xs ys : List ℕ) → AreDigits u → AreDigits v → Stops xs → Stops ys → u ++ xs ≡ v ++ ys → (u ≡ v) × (xs ≡ ys)
digits-apart [] [] xs ys p q s t e = (refl, e)
digits-apart [] (d ∷ v) xs ys p q s t e = absurd (let h = subst Stops e s in h q.0.0 q.0.1)
digits-apart (c ∷ u) [] xs ys p q s t e = absurd (let h = subst Stops (sym e) t in h p.0.0 p.0.1)
digits-apart (c ∷ u) (d ∷ v) xs ys p q s t e =
    let heads : c ≡ d = cc in
    let tails : u ++ xs ≡ v ++ ys = cc in
    let rest = digits-apart u v xs ys p.1 q.1 s t tails in
    (rw (heads, rest.0) refl, rest.1)

pub decimal-apart : (m n : ℕ) (xs ys : List ℕ) → m < 2 ^ 64 → n < 2 ^ 64 → Stops xs → Stops ys → decimal m ++ xs ≡ decimal n ++ ys
    → (m ≡ n) × (xs ≡ ys)
decimal-apart m n xs ys p q s t e =
    let rest = digits-apart (decimal m) (decimal n) xs ys (AreDigits-decimal m p) (AreDigits-decimal n q) s t e in
    (decimal_injective m n p q rest.0, rest.1)

-- ---- quoted texts

-- how a unit stands in a quoted text
data Quoted : ℕ → List ℕ → Type 0 where
  special : (a : ℕ) → (a ≡ 34) ⊎ (a ≡ 92) → Quoted a (92 ∷ a ∷ [])
  escape : (a : ℕ) → Quoted a (escaped a)
  plain : (a : ℕ) → a ≢ 34 → a ≢ 92 → Quoted a (a ∷ [])

by_range : (a : ℕ) (low high : Bool) → a ≢ 34 → a ≢ 92 → Quoted a (if low || high then escaped a else a ∷ [])
by_range a true high p q = escape a
by_range a false true p q = escape a
by_range a false false p q = plain a p q

Quoted-unit : (a : ℕ) → Quoted a (quoted_unit a)
Quoted-unit a = elim (eqb_tells a 34) [
  | inl quote ↦ rw quote.0 (special a (inl quote.1))
  | inr other ↦ elim (eqb_tells a 92) [
    | inl slash ↦ rw (other.0, slash.0) (special a (inr slash.1))
    | inr plain_one ↦ rw (other.0, plain_one.0) (by_range a (nat_lt a 32) (nat_lt 126 a) other.1 plain_one.1)
  ]
]

-- the four digits of a unit, read back
digit-same : (c d : ℕ) → c < 16 → d < 16 → digit_char c ≡ digit_char d → c ≡ d
digit-same c d p q e =
    sym (digit_value-digit_char c (omega arith)) ∙ ap digit_value e ∙ digit_value-digit_char d (omega arith)

hex-same : (a b : ℕ) → a < 65_536 → b < 65_536 → hex_digit_at 4096 a ≡ hex_digit_at 4096 b → hex_digit_at 256 a ≡ hex_digit_at 256 b
    → hex_digit_at 16 a ≡ hex_digit_at 16 b → hex_digit_at 1 a ≡ hex_digit_at 1 b → a ≡ b
hex-same a b p q e f g h =
    let e' : a / 4096 % 16 ≡ b / 4096 % 16 = digit-same (a / 4096 % 16) (b / 4096 % 16) (omega arith) (omega arith) e in
    let f' : a / 256 % 16 ≡ b / 256 % 16 = digit-same (a / 256 % 16) (b / 256 % 16) (omega arith) (omega arith) f in
    let g' : a / 16 % 16 ≡ b / 16 % 16 = digit-same (a / 16 % 16) (b / 16 % 16) (omega arith) (omega arith) g in
    let h' : a / 1 % 16 ≡ b / 1 % 16 = digit-same (a / 1 % 16) (b / 1 % 16) (omega arith) (omega arith) h in
    omega arith

unit-apart : (a b : ℕ) (s t xs ys : List ℕ) → a < 65_536 → b < 65_536 → Quoted a s → Quoted b t → s ++ xs ≡ t ++ ys → (a ≡ b) × (xs ≡ ys)
unit-apart a b s t xs ys p q (special _ h) (special _ k) e = (cc, cc)
unit-apart a b s t xs ys p q (special _ h) (escape _) e =
    let u : a ≡ 117 = cc in
    absurd (elim h [ inl v ↦ omega arith | inr v ↦ omega arith ])
unit-apart a b s t xs ys p q (special _ h) (plain _ k l) e = let u : b ≡ 92 = cc in absurd (l u)
unit-apart a b s t xs ys p q (escape _) (special _ k) e =
    let u : b ≡ 117 = cc in
    absurd (elim k [ inl v ↦ omega arith | inr v ↦ omega arith ])
unit-apart a b s t xs ys p q (escape _) (escape _) e = (hex-same a b p q (cc) (cc) (cc) (cc), cc)
unit-apart a b s t xs ys p q (escape _) (plain _ k l) e = let u : b ≡ 92 = cc in absurd (l u)
unit-apart a b s t xs ys p q (plain _ h g) (special _ k) e = let u : a ≡ 92 = cc in absurd (g u)
unit-apart a b s t xs ys p q (plain _ h g) (escape _) e = let u : a ≡ 92 = cc in absurd (g u)
unit-apart a b s t xs ys p q (plain _ h g) (plain _ k l) e = (cc, cc)

-- a unit in a quoted text isn't the quote that ends it
no-quote : (b : ℕ) (t xs ys : List ℕ) → Quoted b t → 34 ∷ xs ≡ t ++ ys → ⊥
no-quote b t xs ys (special _ h) e = let u : ◌≡◌ {A = ℕ} 34 92 = cc in omega arith
no-quote b t xs ys (escape _) e = let u : ◌≡◌ {A = ℕ} 34 92 = cc in omega arith
no-quote b t xs ys (plain _ h g) e = let u : b ≡ 34 = cc in h u

abbrev pub is_unit : ℕ → Bool
is_unit unit = nat_lt unit 65_536

units-apart : (u v xs ys : List ℕ) → list_all is_unit u ≡ true → list_all is_unit v ≡ true
    → flat_map quoted_unit u ++ (34 ∷ xs) ≡ flat_map quoted_unit v ++ (34 ∷ ys) → (u ≡ v) × (xs ≡ ys)
units-apart [] [] xs ys p q e = (refl, cc)
units-apart [] (b ∷ v) xs ys p q e =
    absurd (no-quote b (quoted_unit b) xs (flat_map quoted_unit v ++ (34 ∷ ys)) (Quoted-unit b) (e ∙ append_assoc (quoted_unit b) _ _))
units-apart (a ∷ u) [] xs ys p q e =
    absurd (no-quote a (quoted_unit a) ys (flat_map quoted_unit u ++ (34 ∷ xs)) (Quoted-unit a) (sym e ∙ append_assoc (quoted_unit a) _ _))
units-apart (a ∷ u) (b ∷ v) xs ys p q e =
    let here = and_parts (is_unit a) (list_all is_unit u) p in
    let there = and_parts (is_unit b) (list_all is_unit v) q in
    let first = unit-apart a b (quoted_unit a) (quoted_unit b) (flat_map quoted_unit u ++ (34 ∷ xs)) (flat_map quoted_unit v ++ (34 ∷ ys))
    (below a 65_536 here.0) (below b 65_536 there.0) (Quoted-unit a) (Quoted-unit b)
    (sym (append_assoc (quoted_unit a) _ _) ∙ e ∙ append_assoc (quoted_unit b) _ _) in
    let rest = units-apart u v xs ys here.1 there.1 first.1 in
    (rw (first.0, rest.0) refl, rest.1)
  where
    below : (n m : ℕ) → ltb n m ≡ true → n < m
    below n m e = omega (arith, ltb-true)

pub quoted-apart : (u v xs ys : List ℕ) → list_all is_unit u ≡ true → list_all is_unit v ≡ true → quoted u ++ xs ≡ quoted v ++ ys
    → (u ≡ v) × (xs ≡ ys)
unfolding quoted
quoted-apart u v xs ys p q e =
    let e' : (flat_map quoted_unit u ++ 34 ∷ []) ++ xs ≡ (flat_map quoted_unit v ++ 34 ∷ []) ++ ys = cc in
    units-apart u v xs ys p q (sym (append_assoc (flat_map quoted_unit u) (34 ∷ []) xs) ∙ e' ∙ append_assoc (flat_map quoted_unit v) (34 ∷ []) ys)

-- ---- bytes in hexadecimal

abbrev pub is_byte : ℕ → Bool
is_byte byte = nat_lt byte 256

no-close : (d : ℕ) → d < 16 → 41 ≡ slice_index upper_digits d → ⊥
no-close d p e = let h : hex_digit_value 41 ≡ Some d = ap hex_digit_value e ∙ IsDigits-upper_digits d p in cc

nibble-same : (c d : ℕ) → c < 16 → d < 16 → slice_index upper_digits c ≡ slice_index upper_digits d → c ≡ d
nibble-same c d p q e =
    let h : ◌≡◌ {A = Option ℕ} (Some c) (Some d) = sym (IsDigits-upper_digits c p) ∙ ap hex_digit_value e ∙ IsDigits-upper_digits d q in cc

high : (n : ℕ) (more : Bool) → (is_byte n && more) ≡ true → n / 16 < 16
high n more e =
    let h = and_parts (is_byte n) more e in
    let short : n < 256 = omega (arith, ltb-true, h.0) in
    omega arith

pub hex-apart : (a b xs ys : List ℕ) → list_all is_byte a ≡ true → list_all is_byte b ≡ true
    → encode_upper a ++ (41 ∷ xs) ≡ encode_upper b ++ (41 ∷ ys) → (a ≡ b) × (xs ≡ ys)
unfolding encode_with
hex-apart [] [] xs ys p q e = (refl, cc)
hex-apart [] (y ∷ b) xs ys p q e = absurd (no-close (y / 16) (high y (list_all is_byte b) q) cc)
hex-apart (x ∷ a) [] xs ys p q e = absurd (no-close (x / 16) (high x (list_all is_byte a) p) cc)
hex-apart (x ∷ a) (y ∷ b) xs ys p q e =
    let here = and_parts (is_byte x) (list_all is_byte a) p in
    let there = and_parts (is_byte y) (list_all is_byte b) q in
    let first = nibble-same (x / 16) (y / 16) (high x _ p) (high y _ q) cc in
    let second = nibble-same (x % 16) (y % 16) (omega arith) (omega arith) cc in
    let rest = hex-apart a b xs ys here.1 there.1 cc in
    let same : x ≡ y = omega arith in
    (rw (same, rest.0) refl, rest.1)
