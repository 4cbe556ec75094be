-- What the types of units and bytes tell.
use Rattle.std.proofs.Common.{◌≡◌, ℕ, suc, ◌<◌, ◌≤◌, true, nat_lt, nat_le, List, [], ◌∷◌, length, get_or, refl, arith}
use Rattle.std.specs.List.{list_all}
use Rattle.std.proofs.lemmas.Bool.Decides.{nat_tests}
use Rattle.parcel.specs.Checked.{is_text, is_contents}

-- numbers below a bound pass the test for it
pub list_all-below : (bound : ℕ) (xs : List ℕ) → ((k : ℕ) → k < length xs → get_or xs k 0 < bound) → list_all (λ x. nat_lt x bound) xs ≡ true
list_all-below bound [] below = refl
list_all-below bound (x ∷ xs) below =
    let first : x < bound = below 0 (omega arith) in
    let test : nat_lt x bound ≡ true = grind (arith, nat_tests) in
    rw (test, list_all-below bound xs (λ k h. below (suc k) (omega arith))) refl

pub is_text-units : (units : List ℕ) → length units ≤ 1_048_576 → ((k : ℕ) → k < length units → get_or units k 0 < 65_536) → is_text units ≡ true
is_text-units units short below =
    let test : nat_le (length units) 1_048_576 ≡ true = grind (arith, nat_tests) in
    rw (test, list_all-below 65_536 units below) refl

pub is_contents-bytes : (bytes : List ℕ) → length bytes ≤ 1_048_576 → ((k : ℕ) → k < length bytes → get_or bytes k 0 < 256) → is_contents bytes ≡ true
is_contents-bytes bytes short below =
    let test : nat_le (length bytes) 1_048_576 ≡ true = grind (arith, nat_tests) in
    rw (test, list_all-below 256 bytes below) refl
