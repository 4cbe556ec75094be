use Rattle.std.proofs.Common.{◌≡◌, ◌≤◌, length}
use Rattle.js_token.specs.Gaps.{after_line}
use Rattle.js_token.proofs.gaps.after_line.Given as goal

abbrev pub invariant-line : goal.invariant-line
invariant-line l = (length l.left ≤ length l.chars) × (after_line l.chars ≡ after_line l.left)

abbrev pub decreases-line : goal.decreases-line
decreases-line l = length l.left
