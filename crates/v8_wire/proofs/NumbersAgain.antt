-- A number that was written is read again, whatever follows it.
use Rattle.std.proofs.Common.{◌⊎◌, ◌≡◌, ◌≢◌, ℕ, zero, suc, ◌+◌, ◌-◌, ◌*◌, ◌/◌, ◌%◌, ◌<◌, ◌≤◌, ◌^◌, ℤ, pos, negsuc, Bool, true, false, List, ◌∷◌, ◌++◌, length, Some, Ok, refl, ap, ◌∙◌, arith, inl, inr, add-one}
use Rattle.std.specs.Int.{w64, to_le_bytes, from_le_bytes}
use Rattle.std.proofs.Math.Nat.{mul-div_cancel, mul-mod_left, pow-succ'}
use Rattle.std.proofs.lemmas.Bool.{le-ltb, lt-ltb, ltb-true, ltb-false, ne_eqb, eq-eqb, cases_lt}
use borrow.Author.Tests.{leb-true}
use Rattle.std.proofs.lemmas.List.{take_at, drop_at, length-append}
use Rattle.std.proofs.lemmas.Nat.{from_le_bytes-to_le_bytes_8}
use Rattle.parcel.specs.Checked.{is_safe}
use Rattle.v8_wire.specs.Number.{groups_at, varint_at, unzigzag, bound, magnitude_of, whole_of, double_at, number_at}
use Rattle.v8_wire.specs.Spelling.{groups, varint, zigzag, is_short, doubled, magnitude_word, double_word, number}

groups-again : (left more n : ℕ) (tail : List ℕ) → n < bound more → groups_at left more (groups more n ++ tail) ≡ Ok (n, tail)
unfolding groups_at groups bound
groups-again left zero n tail lt =
    let e : n % 128 ≡ n = omega arith in
    rw (e, lt-ltb n 16 lt) refl
groups-again left (suc more) n tail lt = elim (cases_lt n 128) [
  | inl small ↦ rw (lt-ltb n 128 small, lt-ltb n 128 small) refl
  | inr large ↦
      let high : n / 128 < bound more = omega arith in
      let e : n % 128 + 128 - 128 + 128 * (n / 128) ≡ n = omega arith in
      rw (le-ltb n 128 large, le-ltb (n % 128 + 128) 128 (omega arith), groups-again left more (n / 128) tail high, e) refl
]

pub varint-again : (n : ℕ) (tail : List ℕ) → n < 2 ^ 32 → varint_at (varint n ++ tail) ≡ Ok (n, tail)
unfolding varint_at varint bound
varint-again n tail lt = groups-again (length (groups 4 n ++ tail)) 4 n tail lt

pub unzigzag-zigzag : (z : ℤ) → unzigzag (zigzag z) ≡ z
unzigzag-zigzag (pos n) =
    let even : 2 * n % 2 ≡ 0 = omega arith in
    let half : 2 * n / 2 ≡ n = omega arith in
    rw (eq-eqb (2 * n % 2) 0 even, half) refl
unzigzag-zigzag (negsuc n) =
    let odd : (2 * n + 1) % 2 ≢ 0 = omega arith in
    let half : (2 * n + 1) / 2 ≡ n = omega arith in
    rw (ne_eqb ((2 * n + 1) % 2) 0 odd, half) refl

zigzag-fits : (z : ℤ) → is_short z ≡ true → zigzag z < 2 ^ 32
zigzag-fits (pos n) e = omega (arith, ltb-true _ _ e)
zigzag-fits (negsuc n) e = omega (arith, ltb-true _ _ e)

-- ---- doubles

-- a number doubled until it has 53 bits, and how often
record IsDoubled (more n : ℕ) (d : ℕ × ℕ) : Type 0 where
  value : d.0 ≡ n * 2 ^ d.1
  least : 4_503_599_627_370_496 ≤ d.0
  most : d.0 < 9_007_199_254_740_992
  few : d.1 ≤ more

doubled-stays : (more n : ℕ) → n < 9_007_199_254_740_992 → 4_503_599_627_370_496 ≤ n → IsDoubled more n (n, 0)
doubled-stays more n lt le = record { value = omega arith; least = le; most = lt; few = omega arith }

doubled-goes_on : (more n : ℕ) (d : ℕ × ℕ) → IsDoubled more (2 * n) d → IsDoubled (suc more) n (d.0, d.1 + 1)
doubled-goes_on more n d is =
    let next : 2 ^ (d.1 + 1) ≡ 2 * 2 ^ d.1 = rw add-one (pow-succ' 2 d.1) in
    let value : d.0 ≡ n * (2 * 2 ^ d.1) = omega (arith, is.value) in
    record { value = rw next value; least = is.least; most = is.most; few = omega (arith, is.few) }

doubled-is : (more n : ℕ) → n < 9_007_199_254_740_992 → 4_503_599_627_370_496 ≤ n * 2 ^ more → IsDoubled more n (doubled more n)
unfolding doubled
doubled-is zero n lt le = doubled-stays zero n lt (omega arith)
doubled-is (suc more) n lt le = elim (cases_lt n 4_503_599_627_370_496) [
  | inl small ↦
      let grown : 4_503_599_627_370_496 ≤ n * (2 * 2 ^ more) = rw (pow-succ' 2 more) at le in
      let enough : 4_503_599_627_370_496 ≤ (2 * n) * 2 ^ more = omega (arith, grown) in
      rw (lt-ltb n 4_503_599_627_370_496 small) (doubled-goes_on more n (doubled more (2 * n)) (doubled-is more (2 * n) (omega arith) enough))
  | inr large ↦ rw (le-ltb n 4_503_599_627_370_496 large) (doubled-stays (suc more) n lt large)
]

two-power : (k : ℕ) → 0 < 2 ^ k
two-power zero = omega arith
two-power (suc k) = omega (arith, two-power k, pow-succ' 2 k)

magnitude-fields : (word exponent significand times n : ℕ) → exponent ≡ 1075 - times → times ≤ 52
    → word ≡ exponent * 4_503_599_627_370_496 + (significand - 4_503_599_627_370_496) → 4_503_599_627_370_496 ≤ significand
    → significand < 9_007_199_254_740_992 → significand ≡ n * 2 ^ times → magnitude_of word ≡ Some n
unfolding magnitude_of
magnitude-fields word exponent significand times n e few w least most value =
    let high : word / 2 ^ 52 ≡ exponent = omega arith in
    let low : word % 2 ^ 52 + 2 ^ 52 ≡ significand = omega arith in
    let back : 1075 - exponent ≡ times = omega arith in
    let some : word ≢ 0 = omega arith in
    let none : significand % 2 ^ times ≡ 0 = rw value (mul-mod_left n (2 ^ times)) in
    let whole : significand / 2 ^ times ≡ n = rw value (mul-div_cancel n (two-power times)) in
    rw (ne_eqb word 0 some, high, low, back, le-ltb exponent 1023 (omega arith), le-ltb 1075 exponent (omega arith), eq-eqb (significand % 2 ^ times) 0 none, whole) refl

-- The double of a number of more than 31 bits.
record IsWord (n : ℕ) : Type 0 where
  small : magnitude_word n < 9_223_372_036_854_775_808
  again : magnitude_of (magnitude_word n) ≡ Some n

word-is : (n : ℕ) → 0 < n → n < 9_007_199_254_740_992 → IsWord n
unfolding magnitude_word
word-is n some lt =
    let d = doubled-is 52 n lt (omega arith) in
    record {
      small = omega (arith, d.most, d.few);
      again = magnitude-fields _ (1075 - (doubled 52 n).1) (doubled 52 n).0 (doubled 52 n).1 n refl d.few refl d.least d.most d.value;
    }

record IsDouble (z : ℤ) : Type 0 where
  small : double_word z < 2 ^ 64
  again : whole_of (double_word z) ≡ Some z

double-is : (z : ℤ) → is_short z ≡ false → is_safe z ≡ true → IsDouble z
unfolding double_word whole_of
double-is (pos n) long safe =
    let w = word-is n (omega (arith, ltb-false _ _ long)) (omega (arith, leb-true _ _ safe)) in
    let same : magnitude_word n % 9_223_372_036_854_775_808 ≡ magnitude_word n = omega (arith, w.small) in
    let sign : magnitude_word n / 2 ^ 63 ≡ 0 = omega (arith, w.small) in
    let kept : magnitude_word n % 2 ^ 63 ≡ magnitude_word n = omega (arith, w.small) in
    record {
      small = rw same (omega (arith, w.small));
      again = rw (same, sign, kept, w.again) refl;
    }
double-is (negsuc n) long safe =
    let w = word-is (n + 1) (omega arith) (omega (arith, ltb-true _ _ safe)) in
    let same : magnitude_word (n + 1) % 9_223_372_036_854_775_808 ≡ magnitude_word (n + 1) = omega (arith, w.small) in
    let sign : (magnitude_word (n + 1) + 9_223_372_036_854_775_808) / 2 ^ 63 ≡ 1 = omega (arith, w.small) in
    let kept : (magnitude_word (n + 1) + 9_223_372_036_854_775_808) % 2 ^ 63 ≡ magnitude_word (n + 1) = omega (arith, w.small) in
    record {
      small = rw same (omega (arith, w.small));
      again = rw (same, sign, kept, w.again, add-one) refl;
    }

double-from : (left : ℕ) (bytes tail : List ℕ) (z : ℤ) → length bytes ≡ 8 → whole_of (from_le_bytes w64 bytes) ≡ Some z
    → double_at left (bytes ++ tail) ≡ Ok (z, tail)
unfolding double_at
double-from left bytes tail z eight whole =
    let enough : 8 ≤ length (bytes ++ tail) = omega (arith, length-append bytes tail) in
    rw (le-ltb (length (bytes ++ tail)) 8 enough, take_at bytes tail 8 eight, drop_at bytes tail 8 eight, whole) refl

double-again : (left : ℕ) (z : ℤ) (tail : List ℕ) → is_short z ≡ false → is_safe z ≡ true
    → double_at left (to_le_bytes w64 (double_word z) ++ tail) ≡ Ok (z, tail)
double-again left z tail long safe =
    let d = double-is z long safe in
    double-from left (to_le_bytes w64 (double_word z)) tail z refl (ap whole_of (from_le_bytes-to_le_bytes_8 (double_word z) d.small) ∙ d.again)

-- A number with its tag.
pub record NumberAgain (z : ℤ) : Type 0 where
  pub tag : ℕ
  pub body : List ℕ
  pub piece : number z ≡ tag ∷ body
  pub is_number : (tag ≡ 73) ⊎ (tag ≡ 78)
  pub again : (left : ℕ) (tail : List ℕ) → number_at tag left (body ++ tail) ≡ Ok (z, tail)

pub number-again : (z : ℤ) → is_safe z ≡ true → NumberAgain z
unfolding number number_at
number-again z safe = by (is_short z) refl
  where
    by : (b : Bool) → is_short z ≡ b → NumberAgain z
    by true short = record {
      tag = 73;
      body = varint (zigzag z);
      piece = rw short refl;
      is_number = inl refl;
      again = λ left tail. rw (varint-again (zigzag z) tail (zigzag-fits z short), unzigzag-zigzag z) refl;
    }
    by false long = record {
      tag = 78;
      body = to_le_bytes w64 (double_word z);
      piece = rw long refl;
      is_number = inr refl;
      again = λ left tail. double-again left z tail long safe;
    }
