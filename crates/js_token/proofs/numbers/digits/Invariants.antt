use Rattle.std.proofs.Common.{ℕ, ◌≡◌, ◌≤◌, length, min}
use Rattle.js_token.specs.Numbers.{digits}
use Rattle.js_token.proofs.numbers.digits.Given as goal

-- The value so far, and what the digits that are left make of it.
abbrev pub invariant-digits : goal.invariant-digits
invariant-digits l = (length l.left ≤ length l.chars)
    × (real : ℕ) × (l.sum ≡ min 9_007_199_254_740_992 real) × (digits l.base l.value l.chars ≡ digits l.base real l.left)

abbrev pub decreases-digits : goal.decreases-digits
decreases-digits l = length l.left
