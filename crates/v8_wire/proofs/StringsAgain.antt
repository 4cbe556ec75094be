-- A string that was written is read again, whatever follows it.
use Rattle.std.proofs.Common.{◌⊎◌, ◌≡◌, ◌≢◌, ℕ, ◌+◌, ◌*◌, ◌/◌, ◌%◌, ◌≤◌, Bool, true, false, cond, ◌&&◌, List, [], ◌∷◌, ◌++◌, length, Ok, refl, append_assoc, arith, inl, inr}
use Rattle.std.specs.List.{flat_map}
use Rattle.std.proofs.lemmas.Bool.{le-ltb, ne_eqb}
use Rattle.std.proofs.lemmas.List.{take_at, drop_at, length-append}
use Rattle.v8_wire.specs.Text.{pairs, bytes_at, narrow_at, wide_at, string_at}
use Rattle.v8_wire.specs.Leaf.{unpadded}
use Rattle.v8_wire.specs.Spelling.{varint, is_narrow, pair, string}
use Rattle.v8_wire.proofs.NumbersAgain.{varint-again}

and_true : (a b : Bool) → (◌&&◌ a b) ≡ true → (a ≡ true) × (b ≡ true)
and_true true b h = (refl, h)
and_true false b h = absurd cc

pub bytes-again : (count : ℕ) (bytes tail : List ℕ) → length bytes ≡ count → bytes_at count (bytes ++ tail) ≡ Ok (bytes, tail)
bytes-again count bytes tail e =
    let enough : count ≤ length (bytes ++ tail) = omega (arith, length-append bytes tail) in
    rw (le-ltb (length (bytes ++ tail)) count enough, take_at bytes tail count e, drop_at bytes tail count e) refl

narrow-again : (left : ℕ) (text tail : List ℕ) → length text ≤ 1_048_576 → narrow_at left ((varint (length text) ++ text) ++ tail) ≡ Ok (text, tail)
unfolding narrow_at
narrow-again left text tail le =
    rw (
      append_assoc (varint (length text)) text tail,
      varint-again (length text) (text ++ tail) (omega arith),
      le-ltb 1_048_576 (length text) le,
      bytes-again (length text) text tail refl,
    ) refl

pub length-pair : (text : List ℕ) → length (flat_map pair text) ≡ 2 * length text
length-pair [] = refl
length-pair (unit ∷ text) = omega (arith, length-pair text)

pairs-pair : (text : List ℕ) → pairs (flat_map pair text) ≡ text
unfolding pairs
pairs-pair [] = refl
pairs-pair (unit ∷ text) =
    let e : unit % 256 + 256 * (unit / 256) ≡ unit = omega arith in
    rw (e, pairs-pair text) refl

wide-again : (left : ℕ) (text tail : List ℕ) → length text ≤ 1_048_576
    → wide_at left ((varint (2 * length text) ++ flat_map pair text) ++ tail) ≡ Ok (text, tail)
unfolding wide_at
wide-again left text tail le =
    let even : 2 * length text % 2 ≢ 1 = omega arith in
    let half : 2 * length text / 2 ≡ length text = omega arith in
    rw (
      append_assoc (varint (2 * length text)) (flat_map pair text) tail,
      varint-again (2 * length text) (flat_map pair text ++ tail) (omega arith),
      ne_eqb (2 * length text % 2) 1 even,
      half,
      le-ltb 1_048_576 (length text) le,
      bytes-again (2 * length text) (flat_map pair text) tail (length-pair text),
      pairs-pair text,
    ) refl

-- A string with its tag, behind some padding.
pub record StringAgain (at : ℕ) (text : List ℕ) : Type 0 where
  pub tag : ℕ
  pub body : List ℕ
  pub starts : (tail : List ℕ) → unpadded (string at text ++ tail) ≡ tag ∷ (body ++ tail)
  pub is_string : (tag ≡ 34) ⊎ (tag ≡ 99)
  pub again : (left : ℕ) (tail : List ℕ) → string_at tag left (body ++ tail) ≡ Ok (text, tail)

pub string-again : (at : ℕ) (text : List ℕ) → length text ≤ 1_048_576 → StringAgain at text
unfolding string string_at unpadded
string-again at text le = by (is_narrow text) refl
  where
    padded : (odd : Bool) (tail : List ℕ) → unpadded ((cond odd (0 ∷ []) [] ++ (99 ∷ varint (2 * length text) ++ flat_map pair text)) ++ tail) ≡ 99 ∷ ((varint (2 * length text) ++ flat_map pair text) ++ tail)
    padded true tail = refl
    padded false tail = refl

    by : (b : Bool) → is_narrow text ≡ b → StringAgain at text
    by true narrow = record {
      tag = 34;
      body = varint (length text) ++ text;
      starts = λ tail. rw narrow refl;
      is_string = inl refl;
      again = λ left tail. narrow-again left text tail le;
    }
    by false broad = record {
      tag = 99;
      body = varint (2 * length text) ++ flat_map pair text;
      starts = λ tail. rw broad (padded _ tail);
      is_string = inr refl;
      again = λ left tail. wide-again left text tail le;
    }
