-- Lemmas on the values of numbers.
use Rattle.std.proofs.Common.{◌≡◌, ℕ, ◌+◌, ◌-◌, ◌*◌, ◌≤◌, ◌<◌, min, List, ◌∷◌, refl, ◌∙◌, arith, inl, inr, nat_lt, true}
use Rattle.std.specs.Char.{digit_value}
use Rattle.std.proofs.lemmas.Bool.{cases_lt}
use Rattle.std.proofs.lemmas.Bool.Decides.{nat_tests}
use Rattle.js_token.specs.declared.characters.Placed.{Placed}
use Rattle.js_token.specs.Numbers.{digits}

-- a number that is too large stays so, with one more digit
pub capped : (t r b d : ℕ) → 1 ≤ b → min t (min t r * b + d) ≡ min t (r * b + d)
capped t r b d one = elim (cases_lt r t) [
  | inl h ↦ let m : min t r ≡ r = omega arith in rw m refl
  | inr h ↦
      let k : ℕ = b - 1 in
      let e : b ≡ k + 1 = omega arith in
      let m : min t r ≡ t = omega arith in
      rw (m, e) (omega arith)
]

-- a test that holds
lt_ltb : (m n : ℕ) → m < n → nat_lt m n ≡ true
lt_ltb m n h = grind (arith, nat_tests)

-- One more digit.
pub digits-turn : (base value real digit sum : ℕ) (c : Placed) (left rest : List Placed) (whole : ℕ × List Placed)
    → 1 ≤ base → left ≡ c ∷ rest → digit_value c.symbol < base → digit ≡ digit_value c.symbol → value ≡ min 9_007_199_254_740_992 real
    → sum ≡ min 9_007_199_254_740_992 (value * base + digit) → whole ≡ digits base real left
    → (next : ℕ) × (sum ≡ min 9_007_199_254_740_992 next) × (whole ≡ digits base next rest)
digits-turn base value real digit sum c left rest whole one e small is_value so_far is_sum same =
    let test : nat_lt (digit_value c.symbol) base ≡ true = lt_ltb (digit_value c.symbol) base small in (
      real * base + digit_value c.symbol,
      is_sum ∙ rw (so_far, is_value) (capped 9_007_199_254_740_992 real base (digit_value c.symbol) one),
      same ∙ rw (e, test) refl,
    )
