-- The code points of a text, one after another (ECMA-262, 11.1.4 and 22.1.5.1).
use Rattle.std.specs.Prelude.{◌≡◌, ℕ, ◌-◌, ◌<◌, ◌≤◌, List, ◌∷◌, length, take, drop}
use Rattle.js_semantics.specs.Iteration.{points_of}

-- The code point that begins at a place of a text ends at another place, and the next one begins there.
abbrev pub EndsPoint : List ℕ → (at end : ℕ) → Type 0
EndsPoint text at end = (at < end) × (end ≤ length text)
    × (points_of (drop at text) ≡ take (end - at) (drop at text) ∷ points_of (drop end text))
