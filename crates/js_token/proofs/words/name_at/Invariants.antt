use Rattle.std.proofs.Common.{◌≡◌, ◌≤◌, ◌+◌, ◌*◌, length}
use Rattle.js_token.specs.Words.{name_at, rest_of_name, with_front}
use Rattle.js_token.proofs.words.name_at.Given as goal

abbrev pub invariant-name : goal.invariant-name
invariant-name l = (length l.units.items + 2 * length l.left ≤ 2 + 2 * length l.rest)
    × (length l.left ≤ length l.rest)
    × (name_at l.fn.first l.rest ≡ with_front l.units.items (rest_of_name l.left))

abbrev pub decreases-name : goal.decreases-name
decreases-name l = length l.left
