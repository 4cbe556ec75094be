-- The order of texts is that of lists of units.
use Rattle.std.proofs.Common.{◌≡◌, ℕ, List, [], ◌∷◌, refl, arith}
use Rattle.std.specs.Cmp.Lexicographic.{slice_cmp}
use Rattle.std.specs.Ordering.{nat_cmp, is_lt}
use Rattle.std.proofs.lemmas.Bool.Decides.{nat_tests}
use Rattle.js_semantics.specs.Operators.{text_before}

pub text_before_is : (s t : List ℕ) → text_before s t ≡ is_lt (slice_cmp nat_cmp s t)
text_before_is [] [] = refl
text_before_is [] (b ∷ bs) = refl
text_before_is (a ∷ as_) [] = refl
text_before_is (a ∷ as_) (b ∷ bs) = grind (arith, nat_tests, text_before_is as_ bs)
