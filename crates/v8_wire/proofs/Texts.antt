-- Lemmas on strings in bytes.
use Rattle.std.proofs.Common.{◌≡◌, ◌<◌, ◌≤◌, ◌*◌, ℕ, List, [], ◌∷◌, length, Bool, true, false, Ok, refl, subst, arith}
use Rattle.std.proofs.lemmas.Str.{IsUtf8-from_is_utf8, is_utf8-from_IsUtf8}
use Rattle.std.proofs.lemmas.Bool.{le-ltb, lt-ltb}
use Rattle.std.specs.Str.{IsUtf8, is_utf8}
use Rattle.wl_text.specs.Text.{units_of}
use Rattle.v8_wire.specs.declared.kind.WireKind.TheVariants.{Text, TooLarge}
use Rattle.v8_wire.specs.Faults.{fault}
use Rattle.v8_wire.specs.Text.{pairs, decoded}

pub is_utf8-false : (bytes : List ℕ) → ¬ (IsUtf8 bytes) → is_utf8 bytes ≡ false
is_utf8-false bytes none = by (is_utf8 bytes) refl
  where
    by : (b : Bool) → is_utf8 bytes ≡ b → is_utf8 bytes ≡ false
    by true e = absurd (none (IsUtf8-from_is_utf8 bytes e))
    by false e = e

pub decoded-refused : (left : ℕ) (bytes : List ℕ) → ¬ (IsUtf8 bytes) → decoded left bytes ≡ fault left Text
unfolding decoded
decoded-refused left bytes none = rw (is_utf8-false bytes none) refl

pub decoded-fits : (left : ℕ) (bytes text units : List ℕ) → text ≡ bytes → IsUtf8 bytes → units ≡ units_of text → length (units_of text) ≤ 1_048_576
    → decoded left bytes ≡ Ok units
unfolding decoded
decoded-fits left bytes text units e utf8 u le =
    let short : length (units_of bytes) ≤ 1_048_576 = subst (λ (t : List ℕ). length (units_of t) ≤ 1_048_576) e le in
    rw (u, e, is_utf8-from_IsUtf8 bytes utf8, le-ltb 1_048_576 (length (units_of bytes)) short) refl

pub decoded-long : (left : ℕ) (bytes text : List ℕ) → text ≡ bytes → IsUtf8 bytes → 1_048_576 < length (units_of text)
    → decoded left bytes ≡ fault left TooLarge
unfolding decoded
decoded-long left bytes text e utf8 lt =
    let long : 1_048_576 < length (units_of bytes) = subst (λ (t : List ℕ). 1_048_576 < length (units_of t)) e lt in
    rw (is_utf8-from_IsUtf8 bytes utf8, lt-ltb 1_048_576 (length (units_of bytes)) long) refl

pub length-pairs : (bytes : List ℕ) → 2 * length (pairs bytes) ≤ length bytes
unfolding pairs
length-pairs [] = omega arith
length-pairs (low ∷ []) = omega arith
length-pairs (low ∷ high ∷ rest) = omega (arith, length-pairs rest)
