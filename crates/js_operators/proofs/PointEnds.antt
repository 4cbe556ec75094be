-- Where code points end.
use Rattle.std.proofs.Common.{◌≡◌, ◌∙◌, ◌<◌, ◌+◌, ◌-◌, ℕ, List, [], ◌∷◌, length, true, false, get_or, drop, refl, ap, arith, add-one}
use Rattle.std.proofs.Math.Seq.{drop-cons}
use Rattle.std.proofs.lemmas.List.{drop_all}
use Rattle.js_semantics.specs.Iteration.{points_of, is_pair}
use Rattle.js_operators.specs.Points.{EndsPoint}

-- a code point of one unit
ends_alone : (text : List ℕ) (at a : ℕ) (rest : List ℕ) → at < length text → drop at text ≡ a ∷ rest → drop (at + 1) text ≡ rest
    → points_of (a ∷ rest) ≡ (a ∷ []) ∷ points_of rest → EndsPoint text at (at + 1)
ends_alone text at a rest within here after points =
    (omega arith, omega arith, let one : at + 1 - at ≡ 1 = omega arith in rw (here, after, one) points)

-- a code point of two units
ends_pair : (text : List ℕ) (at a b : ℕ) (rest : List ℕ) → at + 1 < length text → drop at text ≡ a ∷ b ∷ rest → drop (at + 2) text ≡ rest
    → points_of (a ∷ b ∷ rest) ≡ (a ∷ b ∷ []) ∷ points_of rest → EndsPoint text at (at + 2)
ends_pair text at a b rest within here after points =
    (omega arith, omega arith, let two : at + 2 - at ≡ 2 = omega arith in rw (here, after, two) points)

alone_points : (a b : ℕ) (rest : List ℕ) → is_pair a b ≡ false → points_of (a ∷ b ∷ rest) ≡ (a ∷ []) ∷ points_of (b ∷ rest)
alone_points a b rest h = rw (h, points_of) refl

pair_points : (a b : ℕ) (rest : List ℕ) → is_pair a b ≡ true → points_of (a ∷ b ∷ rest) ≡ (a ∷ b ∷ []) ∷ points_of rest
pair_points a b rest h = rw (h, points_of) refl

-- what a text has from a place on
dropped : (text : List ℕ) (at : ℕ) → at < length text → drop at text ≡ get_or text at 0 ∷ drop (at + 1) text
dropped text at h = rw add-one (drop-cons text at 0 h)

pub last_end : (text : List ℕ) (at : ℕ) → at + 1 ≡ length text → EndsPoint text at (at + 1)
last_end text at h =
    let within : at < length text = omega arith in
    let none : drop (at + 1) text ≡ [] = drop_all (at + 1) text (omega arith) in
    ends_alone text at (get_or text at 0) [] within (rw none at (dropped text at within)) none refl

pub pair_end : (text : List ℕ) (at : ℕ) → at + 1 < length text → is_pair (get_or text at 0) (get_or text (at + 1) 0) ≡ true → EndsPoint text at (at + 2)
pair_end text at h pair =
    let within : at < length text = omega arith in
    let two : at + 1 + 1 ≡ at + 2 = omega arith in
    ends_pair text at (get_or text at 0) (get_or text (at + 1) 0) (drop (at + 2) text) h
    (dropped text at within ∙ ap (λ rest. get_or text at 0 ∷ rest) (rw two at (dropped text (at + 1) h))) refl (pair_points _ _ _ pair)

pub alone_end : (text : List ℕ) (at : ℕ) → at + 1 < length text → is_pair (get_or text at 0) (get_or text (at + 1) 0) ≡ false → EndsPoint text at (at + 1)
alone_end text at h alone =
    let within : at < length text = omega arith in
    let next = dropped text (at + 1) h in
    ends_alone text at (get_or text at 0) (get_or text (at + 1) 0 ∷ drop (at + 1 + 1) text) within
    (dropped text at within ∙ ap (λ rest. get_or text at 0 ∷ rest) next) next (alone_points _ _ _ alone)
