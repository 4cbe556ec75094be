-- Lemmas on numbers as texts.
use Rattle.std.proofs.Common.{◌≡◌, ℕ, ◌+◌, ◌*◌, ◌-◌, ◌<◌, ◌≤◌, ◌^◌, List, [], ◌∷◌, Option, Some, None, Bool, true, false, length, decimal, ap, sym, ◌∙◌, refl, arith, rules, get_or, drop, drop-cons, suc, ◌⊎◌, inl, inr, zero, if◌then◌else◌, lit<}
use borrow.Author.Tests.{eqb-true, eq-eqb}
use Rattle.std.proofs.lemmas.Fmt.{decimal-digits_value, digits_decimal, digits_value-decimal, decimal_nonempty, first_decimal, decimal_digit}
use Rattle.std.proofs.lemmas.Str.Parse.{IsNumeralModel, numerals_by_fold}
use Rattle.std.proofs.lemmas.List.{drop_all}
use Rattle.std.proofs.lemmas.Bool.Decides.{nat_tests}
use Rattle.std.specs.Str.{all_ascii_digits}
use Rattle.wl_text.specs.Number.{value_after, natural_of, index_of, leads_with_zero, IsIndexOf}

-- a value never falls as digits follow
pub value_after_le : (n : ℕ) (digits : List ℕ) → n ≤ value_after n digits
value_after_le n [] = omega arith
value_after_le n (d ∷ ds) = omega (arith, value_after_le (n * 10 + (d - 48)) ds)

own : IsNumeralModel (λ ds. all_ascii_digits ds ≡ true) (value_after 0)
own = numerals_by_fold _ (search rules) value_after (search rules)

-- what `natural_of` gives
pub natural_of_digits : (most : ℕ) (digits : List ℕ) → 0 < length digits → all_ascii_digits digits ≡ true
    → value_after 0 digits ≤ most → natural_of most digits ≡ Some (value_after 0 digits)
unfolding natural_of
natural_of_digits most digits some all small = grind (arith, nat_tests)

pub natural_of_not_digits : (most : ℕ) (digits : List ℕ) → all_ascii_digits digits ≡ false → natural_of most digits ≡ None
unfolding natural_of
natural_of_not_digits most digits all = grind (arith, nat_tests)

pub natural_of_large : (most : ℕ) (digits : List ℕ) → most < value_after 0 digits → natural_of most digits ≡ None
unfolding natural_of
natural_of_large most digits large = grind (arith, nat_tests)

pub natural_of_empty : (most : ℕ) (digits : List ℕ) → length digits ≡ 0 → natural_of most digits ≡ None
unfolding natural_of
natural_of_empty most digits e = grind (arith, nat_tests)

-- an element that is no digit
pub not_digit : (digits : List ℕ) (i : ℕ) → i < length digits → all_ascii_digits digits ≡ all_ascii_digits (drop i digits)
    → (get_or digits i 0 < 48) ⊎ (57 < get_or digits i 0) → all_ascii_digits digits ≡ false
not_digit digits i within same out =
    same ∙ ap all_ascii_digits (drop-cons digits i 0 within) ∙ outside (get_or digits i 0) (drop (suc i) digits) out
  where
    outside : (d : ℕ) (ds : List ℕ) → (d < 48) ⊎ (57 < d) → all_ascii_digits (d ∷ ds) ≡ false
    outside d ds (inl low) = grind (arith, nat_tests)
    outside d ds (inr high) = grind (arith, nat_tests)

-- the value is at least that of the digits so far
pub at_least : (digits : List ℕ) (i value : ℕ) → i < length digits → value_after 0 digits ≡ value_after value (drop i digits)
    → value * 10 + (get_or digits i 0 - 48) ≤ value_after 0 digits
at_least digits i value within same =
    let whole = same ∙ ap (value_after value) (drop-cons digits i 0 within) in
    omega (arith, whole, value_after_le (value * 10 + (get_or digits i 0 - 48)) (drop (suc i) digits))

-- at the end the value is that of all digits
pub at_end : (digits : List ℕ) (i value : ℕ) → length digits ≤ i → value_after 0 digits ≡ value_after value (drop i digits)
    → all_ascii_digits digits ≡ all_ascii_digits (drop i digits)
    → (value_after 0 digits ≡ value) × (all_ascii_digits digits ≡ true)
at_end digits i value past same all =
    (same ∙ ap (value_after value) (drop_all i digits past), all ∙ ap all_ascii_digits (drop_all i digits past))

chosen : (b : Bool) (v n : ℕ) → (if b then Some v else None) ≡ Some n → (b ≡ true) × (v ≡ n)
chosen true v n e = (refl, cc)
chosen false v n e = absurd (cc)

-- what a number that was read says of its text
pub natural_of_some : (most : ℕ) (digits : List ℕ) (n : ℕ) → natural_of most digits ≡ Some n
    → (0 < length digits) × (all_ascii_digits digits ≡ true) × (value_after 0 digits ≡ n) × (n ≤ most)
unfolding natural_of
natural_of_some most digits n e =
    let (test, value) = chosen _ _ _ e in
    let some : 0 < length digits = grind (arith, nat_tests) in
    let all : all_ascii_digits digits ≡ true = grind (arith, nat_tests) in
    let small : value_after 0 digits ≤ most = grind (arith, nat_tests) in
    (some, all, value, omega arith)

-- a `0` at the front stands alone
alone : (text : List ℕ) → leads_with_zero text ≡ false → get_or text 0 0 ≡ 48 → 0 < length text → length text ≡ 1
alone [] lead first some = absurd (omega arith)
alone (d ∷ []) lead first some = refl
alone (d ∷ e ∷ ds) lead first some = absurd (cc (eq-eqb d 48 first))

-- what `decimal` writes has no leading zero
not_led : (n : ℕ) → n < 2 ^ 64 → leads_with_zero (decimal n) ≡ true → ⊥
not_led zero small lead = cc (ap leads_with_zero (decimal_digit 0 (lit< tt)))
not_led (suc n) small lead = led (decimal (suc n)) lead (first_decimal (suc n) (omega arith) small)
  where
    led : (text : List ℕ) → leads_with_zero text ≡ true → 48 < get_or text 0 0 → ⊥
    led [] lead first = cc
    led (d ∷ []) lead first = cc
    led (d ∷ e ∷ ds) lead first = omega (arith, eqb-true d 48 lead)

-- an array index is written without a leading zero
pub index_of_some : (text : List ℕ) (n : ℕ) → leads_with_zero text ≡ false → natural_of 4_294_967_294 text ≡ Some n
    → IsIndexOf text (Some n)
index_of_some text n lead is =
    let (some, all, value, small) = natural_of_some 4_294_967_294 text n is in
    let spelled = decimal-digits_value own text all some (λ first. alone text lead first some) (omega arith) in
    (sym spelled ∙ ap decimal value, small)

-- each text of an array index is read
pub index_of_none : (text : List ℕ) → natural_of 4_294_967_294 text ≡ None → IsIndexOf text None
index_of_none text is n small e =
    let fits : n < 2 ^ 64 = omega arith in
    let all : all_ascii_digits text ≡ true = rw e (digits_decimal own n fits) in
    let value : value_after 0 text ≡ n = rw e (digits_value-decimal own n fits) in
    let read = natural_of_digits 4_294_967_294 text (rw e (decimal_nonempty n fits)) all (omega arith) in
    cc

pub index_of_led : (text : List ℕ) → leads_with_zero text ≡ true → IsIndexOf text None
index_of_led text lead n small e = not_led n (omega arith) (rw e at lead)

-- how the array index is found
pub index_of_by : (text : List ℕ) (read : Option ℕ) → leads_with_zero text ≡ false → read ≡ natural_of 4_294_967_294 text
    → read ≡ index_of text
unfolding index_of
index_of_by text read lead e = rw lead e

pub index_of_by_led : (text : List ℕ) → leads_with_zero text ≡ true → None ≡ index_of text
unfolding index_of
index_of_by_led text lead = rw lead refl
