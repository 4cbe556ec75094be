use Rattle.std.proofs.Common.{◌≡◌, ◌≤◌, length}
use Rattle.js_token.specs.Gaps.{after_block, with_break}
use Rattle.js_token.proofs.gaps.after_block.Given as goal

abbrev pub invariant-block : goal.invariant-block
invariant-block l = (length l.left ≤ length l.chars) × (after_block l.chars ≡ with_break l.breaks (after_block l.left))

abbrev pub decreases-block : goal.decreases-block
decreases-block l = length l.left
