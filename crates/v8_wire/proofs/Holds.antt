-- What holds of all that is read.
use Rattle.std.proofs.Common.{◌≡◌, ℕ, zero, suc, ◌+◌, ◌-◌, ◌*◌, ◌/◌, ◌%◌, ◌<◌, ◌≤◌, ◌^◌, ℤ, pos, negsuc, Bool, true, false, cond, ◌||◌, List, [], ◌∷◌, ◌++◌, length, take, drop, Option, Some, None, Result, Ok, Err, refl, subst, arith, inl, inr, eqb, ltb}
use Rattle.std.specs.List.{list_all}
use Rattle.std.specs.Str.{is_utf8, chars}
use Rattle.std.specs.Int.{w64, from_le_bytes}
use Rattle.std.proofs.lemmas.Bool.{le-ltb, lt-ltb, ltb-true, ltb-false, cases_lt}
use borrow.Author.Tests.{le-leb}
use Rattle.std.proofs.lemmas.List.{length-take}
use Rattle.std.proofs.Math.Nat.{div-le_self}
use Rattle.std.specs.Prelude.{neg_ℤ}
use Rattle.parcel.specs.Checked.{is_text, is_safe}
use Rattle.wl_text.specs.Text.{units_of}
use Rattle.v8_wire.specs.declared.fault.Fault.{Fault}
use Rattle.v8_wire.specs.Faults.{◌>>=◌}
use Rattle.v8_wire.specs.Number.{groups_at, varint_at, unzigzag, magnitude_of, with_sign, whole_of, told_whole, double_at, number_at, bound}
use Rattle.v8_wire.specs.Text.{pairs, bytes_at, narrow_at, wide_at, decoded, utf8_at, string_at}
use Rattle.std.specs.List.{flat_map}
use Rattle.std.specs.Char.Escape.{encode_utf16}
use Rattle.std.proofs.Math.Utf8.{scalar, scalars, scalar_cases}
use Rattle.std.proofs.lemmas.Str.{scalars-chars, IsUtf8-from_is_utf8}
use Rattle.v8_wire.proofs.Texts.{length-pairs}
use Rattle.v8_wire.proofs.Numbers.{bound-least}
use Rattle.v8_wire.proofs.LeavesAgain.{and_true}

abbrev pub Holds : {A : Type 0} → (A → Type 0) → Result A Fault → Type 0
Holds P (Ok x) = P x
Holds P (Err f) = Unit {0}

pub holds-bind : {A B : Type 0} (Q : A → Type 0) (P : B → Type 0) (r : Result A Fault) (f : A → Result B Fault) → Holds Q r → ((x : A) → Q x → Holds P (f x)) → Holds P (r >>= f)
holds-bind Q P (Ok x) f h step = step x h
holds-bind Q P (Err e) f h step = tt

pub holds-if : {A : Type 0} (P : A → Type 0) (b : Bool) (x y : Result A Fault) → (b ≡ true → Holds P x) → (b ≡ false → Holds P y) → Holds P (cond b x y)
holds-if P true x y h k = h refl
holds-if P false x y h k = k refl

pub holds-ok : {A : Type 0} (P : A → Type 0) (r : Result A Fault) (x : A) → Holds P r → r ≡ Ok x → P x
holds-ok P (Ok y) x h e = let same : y ≡ x = cc in subst P same h
holds-ok P (Err f) x h e = absurd cc

-- bytes
abbrev pub AreBytes : List ℕ → Type 0
AreBytes bytes = list_all (λ b. ltb b 256) bytes ≡ true

pub bytes-drop : (n : ℕ) (bytes : List ℕ) → AreBytes bytes → AreBytes (drop n bytes)
bytes-drop zero bytes h = h
bytes-drop (suc n) [] h = refl
bytes-drop (suc n) (b ∷ bytes) h = bytes-drop n bytes (and_true _ _ h).1

pub bytes-take : (n : ℕ) (bytes : List ℕ) → AreBytes bytes → AreBytes (take n bytes)
bytes-take zero bytes h = refl
bytes-take (suc n) [] h = refl
bytes-take (suc n) (b ∷ bytes) h = let p = and_true (ltb b 256) (list_all (λ b. ltb b 256) bytes) h in rw (p.0, bytes-take n bytes p.1) refl

-- ---- numbers

groups-hold : (left more : ℕ) (bytes : List ℕ) → AreBytes bytes → Holds (λ x. (x.0 < bound more) × AreBytes x.1) (groups_at left more bytes)
unfolding groups_at bound
groups-hold left zero [] h = tt
groups-hold left (suc more) [] h = tt
groups-hold left zero (b ∷ bytes) h = holds-if _ (ltb b 16) _ _ (λ e. (ltb-true b 16 e, (and_true _ _ h).1)) (λ e. tt)
groups-hold left (suc more) (b ∷ bytes) h =
    let p = and_true (ltb b 256) (list_all (λ b. ltb b 256) bytes) h in
    holds-if _ (ltb b 128) _ _ (λ e. (omega (arith, ltb-true b 128 e, bound-least more), p.1))
    (λ e. holds-bind (λ x. (x.0 < bound more) × AreBytes x.1) _ (groups_at left more bytes) _ (groups-hold left more bytes p.1)
    (λ x q. (omega (arith, ltb-true b 256 p.0, q.0), q.1)))

pub varint-holds : (bytes : List ℕ) → AreBytes bytes → Holds (λ x. (x.0 < 2 ^ 32) × AreBytes x.1) (varint_at bytes)
unfolding varint_at bound
varint-holds bytes h = groups-hold (length bytes) 4 bytes h

unzigzag-safe : (n : ℕ) → n < 2 ^ 32 → is_safe (unzigzag n) ≡ true
unzigzag-safe n lt = by (eqb (n % 2) 0)
  where
    by : (b : Bool) → is_safe (cond b (pos (n / 2)) (negsuc (n / 2))) ≡ true
    by true = le-leb (n / 2) 9_007_199_254_740_991 (omega arith)
    by false = lt-ltb (n / 2) 9_007_199_254_740_991 (omega arith)

abbrev Small : Option ℕ → Type 0
Small None = Unit {0}
Small (Some n) = n ≤ 9_007_199_254_740_991

small-if : (b : Bool) (x y : Option ℕ) → (b ≡ true → Small x) → (b ≡ false → Small y) → Small (cond b x y)
small-if true x y h k = h refl
small-if false x y h k = k refl

magnitude-small : (word : ℕ) → Small (magnitude_of word)
unfolding magnitude_of
magnitude-small word =
    small-if (eqb word 0) _ _ (λ e. omega arith) (λ e.
    small-if (ltb (word / 2 ^ 52) 1023 || ltb 1075 (word / 2 ^ 52)) _ _ (λ f. tt) (λ f.
    small-if (eqb ((word % 2 ^ 52 + 2 ^ 52) % 2 ^ (1075 - word / 2 ^ 52)) 0) _ _
    (λ g. let q = div-le_self (word % 2 ^ 52 + 2 ^ 52) (2 ^ (1075 - word / 2 ^ 52)) in omega (arith, q))
    (λ g. tt)))

abbrev Safe : Option ℤ → Type 0
Safe None = Unit {0}
Safe (Some z) = is_safe z ≡ true

sign-safe : (sign : ℕ) (o : Option ℕ) → Small o → Safe (with_sign sign o)
sign-safe sign None h = tt
sign-safe sign (Some n) h = by (eqb sign 0) n h
  where
    by : (b : Bool) (n : ℕ) → n ≤ 9_007_199_254_740_991 → Safe (cond b (Some (pos n)) (Some (neg_ℤ (pos n))))
    by true n h = le-leb n 9_007_199_254_740_991 h
    by false zero h = refl
    by false (suc n) h = lt-ltb n 9_007_199_254_740_991 (omega arith)

whole-safe : (word : ℕ) → Safe (whole_of word)
unfolding whole_of
whole-safe word = sign-safe (word / 2 ^ 63) (magnitude_of (word % 2 ^ 63)) (magnitude-small (word % 2 ^ 63))

told-holds : (left : ℕ) (rest : List ℕ) (o : Option ℤ) → Safe o → AreBytes rest → Holds (λ x. (is_safe x.0 ≡ true) × AreBytes x.1) (told_whole left rest o)
told-holds left rest None h b = tt
told-holds left rest (Some z) h b = (h, b)

pub number-holds : (tag left : ℕ) (bytes : List ℕ) → AreBytes bytes → Holds (λ x. (is_safe x.0 ≡ true) × AreBytes x.1) (number_at tag left bytes)
unfolding number_at double_at
number-holds tag left bytes h =
    holds-if _ (eqb tag 73) _ _
    (λ e. holds-bind (λ x. (x.0 < 2 ^ 32) × AreBytes x.1) _ (varint_at bytes) _ (varint-holds bytes h) (λ x q. (unzigzag-safe x.0 q.0, q.1)))
    (λ e. holds-if _ (eqb tag 85) _ _
    (λ f. holds-bind (λ x. (x.0 < 2 ^ 32) × AreBytes x.1) _ (varint_at bytes) _ (varint-holds bytes h) (λ x q. (le-leb x.0 9_007_199_254_740_991 (omega (arith, q.0)), q.1)))
    (λ f. holds-if _ (ltb (length bytes) 8) _ _ (λ g. tt)
    (λ g. told-holds left (drop 8 bytes) (whole_of (from_le_bytes w64 (take 8 bytes))) (whole-safe (from_le_bytes w64 (take 8 bytes))) (bytes-drop 8 bytes h))))

-- ---- strings

units-from_bytes : (bytes : List ℕ) → AreBytes bytes → list_all (λ unit. ltb unit 65_536) bytes ≡ true
units-from_bytes [] h = refl
units-from_bytes (b ∷ bytes) h =
    let p = and_true (ltb b 256) (list_all (λ b. ltb b 256) bytes) h in
    rw (lt-ltb b 65_536 (omega (arith, ltb-true b 256 p.0)), units-from_bytes bytes p.1) refl

units-from_pairs : (bytes : List ℕ) → AreBytes bytes → list_all (λ unit. ltb unit 65_536) (pairs bytes) ≡ true
unfolding pairs
units-from_pairs [] h = refl
units-from_pairs (low ∷ []) h = refl
units-from_pairs (low ∷ high ∷ bytes) h =
    let p = and_true (ltb low 256) (list_all (λ b. ltb b 256) (high ∷ bytes)) h in
    let q = and_true (ltb high 256) (list_all (λ b. ltb b 256) bytes) p.1 in
    rw (lt-ltb (low + 256 * high) 65_536 (omega (arith, ltb-true low 256 p.0, ltb-true high 256 q.0)), units-from_pairs bytes q.1) refl

all-append : (xs ys : List ℕ) → list_all (λ unit. ltb unit 65_536) xs ≡ true → list_all (λ unit. ltb unit 65_536) ys ≡ true → list_all (λ unit. ltb unit 65_536) (xs ++ ys) ≡ true
all-append [] ys h k = k
all-append (x ∷ xs) ys h k = let p = and_true (ltb x 65_536) (list_all (λ unit. ltb unit 65_536) xs) h in rw (p.0, all-append xs ys p.1 k) refl

units-from_char : (c : ℕ) → c < 1_114_112 → list_all (λ unit. ltb unit 65_536) (encode_utf16 c) ≡ true
units-from_char c lt = elim (cases_lt c 65_536) [
  | inl small ↦ rw (lt-ltb c 65_536 small, lt-ltb c 65_536 small) refl
  | inr large ↦ rw (le-ltb c 65_536 large, lt-ltb (55_296 + (c - 65_536) / 1_024) 65_536 (omega arith), lt-ltb (56_320 + (c - 65_536) % 1_024) 65_536 (omega arith)) refl
]

units-from_scalars : (cs : List ℕ) → scalars cs ≡ true → list_all (λ unit. ltb unit 65_536) (flat_map encode_utf16 cs) ≡ true
units-from_scalars [] h = refl
units-from_scalars (c ∷ cs) h =
    let p = and_true (scalar c) (scalars cs) h in
    all-append (encode_utf16 c) (flat_map encode_utf16 cs) (units-from_char c (elim (scalar_cases c p.0) as (λ _. c < 1_114_112) [ inl h ↦ omega arith | inr h ↦ h.1 ])) (units-from_scalars cs p.1)

text-is : (text : List ℕ) → length text ≤ 1_048_576 → list_all (λ unit. ltb unit 65_536) text ≡ true → is_text text ≡ true
text-is text le all = rw (le-leb (length text) 1_048_576 le, all) refl

pub bytes_at-holds : (count : ℕ) (bytes : List ℕ) → AreBytes bytes → Holds (λ x. (length x.0 ≡ count) × AreBytes x.0 × AreBytes x.1) (bytes_at count bytes)
bytes_at-holds count bytes h =
    holds-if _ (ltb (length bytes) count) _ _ (λ e. tt)
    (λ e. (omega (arith, length-take count bytes, ltb-false (length bytes) count e), bytes-take count bytes h, bytes-drop count bytes h))

holds-ok-text : (count : ℕ) (bytes : List ℕ) → count ≤ 1_048_576 → AreBytes bytes → Holds (λ x. (is_text x.0 ≡ true) × AreBytes x.1) (bytes_at count bytes)
holds-ok-text count bytes le h =
    holds-if _ (ltb (length bytes) count) _ _ (λ e. tt)
    (λ e. (text-is (take count bytes) (omega (arith, length-take count bytes)) (units-from_bytes (take count bytes) (bytes-take count bytes h)), bytes-drop count bytes h))

units-from_utf8 : (bytes : List ℕ) → is_utf8 bytes ≡ true → list_all (λ unit. ltb unit 65_536) (units_of bytes) ≡ true
unfolding units_of
units-from_utf8 bytes h = units-from_scalars (chars bytes) (scalars-chars bytes (IsUtf8-from_is_utf8 bytes h))

pub string-holds : (tag left : ℕ) (bytes : List ℕ) → AreBytes bytes → Holds (λ x. (is_text x.0 ≡ true) × AreBytes x.1) (string_at tag left bytes)
unfolding string_at narrow_at wide_at utf8_at decoded
string-holds tag left bytes h =
    let number : Holds (λ x. (x.0 < 2 ^ 32) × AreBytes x.1) (varint_at bytes) = varint-holds bytes h in
    holds-if _ (eqb tag 34) _ _
    (λ e. holds-bind (λ x. (x.0 < 2 ^ 32) × AreBytes x.1) _ (varint_at bytes) _ number (λ n q.
    holds-if _ (ltb 1_048_576 n.0) _ _ (λ f. tt) (λ f. holds-ok-text n.0 n.1 (ltb-false 1_048_576 n.0 f) q.1)))
    (λ e. holds-if _ (eqb tag 99) _ _
    (λ f. holds-bind (λ x. (x.0 < 2 ^ 32) × AreBytes x.1) _ (varint_at bytes) _ number (λ n q.
    holds-if _ (eqb (n.0 % 2) 1) _ _ (λ g. tt) (λ g. holds-if _ (ltb 1_048_576 (n.0 / 2)) _ _ (λ k. tt) (λ k.
    holds-bind (λ x. (length x.0 ≡ n.0) × AreBytes x.0 × AreBytes x.1) _ (bytes_at n.0 n.1) _ (bytes_at-holds n.0 n.1 q.1)
    (λ x r. (text-is (pairs x.0) (omega (arith, length-pairs x.0, r.0, ltb-false 1_048_576 (n.0 / 2) k)) (units-from_pairs x.0 r.1), r.2))))))
    (λ f. holds-bind (λ x. (x.0 < 2 ^ 32) × AreBytes x.1) _ (varint_at bytes) _ number (λ n q.
    holds-bind (λ x. (length x.0 ≡ n.0) × AreBytes x.0 × AreBytes x.1) _ (bytes_at n.0 n.1) _ (bytes_at-holds n.0 n.1 q.1) (λ x r.
    holds-bind (λ units. is_text units ≡ true) _ _ _
    (holds-if _ (is_utf8 x.0) _ _ (λ g. holds-if _ (ltb 1_048_576 (length (units_of x.0))) _ _ (λ k. tt)
    (λ k. text-is (units_of x.0) (ltb-false 1_048_576 (length (units_of x.0)) k) (units-from_utf8 x.0 g))) (λ g. tt))
    (λ units u. (u, r.2))))))
