use Rattle.std.proofs.Common.{ℕ, ◌≡◌, ◌≤◌, ◌+◌, ◌*◌, length}
use Rattle.js_token.specs.Literals.{text_at, with_units}
use Rattle.js_token.proofs.literals.text_at.Given as goal

-- What is left of the text, with the units so far, is the text.
abbrev pub invariant-text : goal.invariant-text
invariant-text l = (length l.units.items + 2 * length l.left ≤ 2 * length l.chars)
    × (n : ℕ) × (length l.left ≤ n)
    × (text_at (length l.chars) l.start l.quote l.chars ≡ with_units l.units.items (text_at n l.start l.quote l.left))

abbrev pub decreases-text : goal.decreases-text
decreases-text l = length l.left
