-- Texts in a row.
use Rattle.std.proofs.Common.{◌≡◌, ◌∙◌, ◌<◌, ◌+◌, ◌≤◌, ℕ, List, ◌++◌, ◌∷◌, [], length, refl, ap, sym, arith, get_or, take, drop, length-append, append-nil}
use Rattle.std.specs.List.{concat}
use Rattle.std.proofs.lemmas.Bool.Decides.{nat_tests}
use Rattle.std.proofs.lemmas.List.{take-append-drop, take_more}
use Rattle.std.proofs.lemmas.List.Folds.{concat-append}
use Rattle.js_semantics.specs.declared.fault.Fault.TheVariants.{TooLong}
use Rattle.js_semantics.specs.Operators.{Fails}
use Rattle.js_operators.specs.Answers.{made}

-- one part more
pub one_more : (parts : List (List ℕ)) (i : ℕ) (part : List ℕ) → i < length parts → part ≡ get_or parts i part
    → concat (take i parts) ++ part ≡ concat (take (i + 1) parts)
one_more parts i part within item =
    sym (ap concat (take_more parts i part within) ∙ concat-append (take i parts) (get_or parts i part ∷ []) ∙ rw (← item) (simp append-nil))

-- some parts have no more units than all
front_units : (parts : List (List ℕ)) (n : ℕ) → length (concat (take n parts)) ≤ length (concat parts)
front_units parts n =
    let whole : concat parts ≡ concat (take n parts) ++ concat (drop n parts) = ap concat (sym (take-append-drop n parts)) ∙ concat-append (take n parts) (drop n parts) in
    omega (arith, simp length-append at (ap length whole))

-- a text that has more units than a text may have, some parts of it already
pub made_too_long : {L : Type 0} (parts : List (List ℕ)) (i : ℕ) (part before : List ℕ) → i < length parts → part ≡ get_or parts i part
    → before ≡ concat (take i parts) → 1_048_576 < length before + length part → made {L = L} (concat parts) ≡ Fails TooLong
unfolding made
made_too_long parts i part before within item is over =
    let front : concat (take (i + 1) parts) ≡ before ++ part = sym (one_more parts i part within item) ∙ rw is refl in
    let over_all : 1_048_576 < length (concat parts) = omega (arith, front_units parts (i + 1), simp length-append at (ap length front)) in
    grind (arith, nat_tests)
