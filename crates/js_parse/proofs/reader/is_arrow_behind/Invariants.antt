use Rattle.std.proofs.Common.{◌≡◌, ◌+◌, ◌≤◌, length}
use Rattle.js_parse.specs.Input.{arrow_behind}
use Rattle.js_parse.proofs.reader.is_arrow_behind.Given as goal

-- What is left tells what the whole tells, and each token opens at most one.
abbrev pub invariant-tokens : goal.invariant-tokens
invariant-tokens l = (arrow_behind 1 l.tokens ≡ arrow_behind l.depth l.rest) × (l.depth + length l.rest ≤ 1 + length l.tokens)

abbrev pub decreases-tokens : goal.decreases-tokens
decreases-tokens l = length l.rest
