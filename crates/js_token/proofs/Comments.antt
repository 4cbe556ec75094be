-- Lemmas on comments.
use Rattle.std.proofs.Common.{◌≡◌, ◌==◌, Bool, true, false, ◌||◌, ◌&&◌, List, ◌∷◌, refl, ◌∙◌, sym}
use Rattle.std.specs.Prelude.{Option, Some, None}
use Rattle.js_token.specs.declared.characters.Placed.{Placed}
use Rattle.js_token.specs.Characters.{is_next, is_line_break}
use Rattle.js_token.specs.Gaps.{with_break, after_block}

-- two parts of a comment in a row
pub with_break-twice : (a b : Bool) (r : Option (Bool × List Placed)) → with_break a (with_break b r) ≡ with_break (a || b) r
with_break-twice a b None = refl
with_break-twice true b (Some x) = refl
with_break-twice false b (Some x) = refl

pub with_break-false : (r : Option (Bool × List Placed)) → with_break false r ≡ r
with_break-false None = refl
with_break-false (Some x) = refl

-- One more character of a block comment.
pub after_block-turn : (c : Placed) (left rest : List Placed) (breaks ends breaks_here : Bool) (whole : Option (Bool × List Placed))
    → left ≡ c ∷ rest → ends ≡ ((c.symbol == 42) && is_next 47 rest) → ends ≡ false → breaks_here ≡ is_line_break c.symbol
    → whole ≡ with_break breaks (after_block left) → whole ≡ with_break (breaks || breaks_here) (after_block rest)
after_block-turn c left rest breaks ends breaks_here whole e test goes_on here so_far =
    so_far ∙ rw (e, sym test ∙ goes_on, ← here) (with_break-twice breaks breaks_here (after_block rest))
