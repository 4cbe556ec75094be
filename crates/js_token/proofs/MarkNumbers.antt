-- The numbers of some marks.
use Rattle.std.specs.Prelude.{◌≡◌, codes, None}
use Rattle.std.proofs.Common.{refl}
use Rattle.js_token.specs.Marks.{mark_place, mark_number}

pub mark_number-open_brace : mark_number (codes "{") ≡ 0
mark_number-open_brace = refl

pub mark_number-ellipsis : mark_number (codes "...") ≡ 9
mark_number-ellipsis = refl

pub mark_number-unsigned_shift : mark_number (codes ">>>") ≡ 23
mark_number-unsigned_shift = refl

pub mark_number-arrow : mark_number (codes "=>") ≡ 42
mark_number-arrow = refl

-- `==` is no mark
pub mark_place-loose_equal : mark_place (codes "==") ≡ None
unfolding mark_place
mark_place-loose_equal = refl
