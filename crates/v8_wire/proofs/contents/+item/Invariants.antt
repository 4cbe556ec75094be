use Rattle.std.proofs.Common.{◌≡◌, ◌+◌, ◌*◌, ◌≤◌, ℕ, length}
use Rattle.v8_wire.specs.Contents.{contents_at}
use Rattle.v8_wire.specs.Item.{item_at}
use Rattle.v8_wire.proofs.contents.+item.Given as goal

abbrev pub decreases-item_of : goal.decreases-item_of
decreases-item_of l = 6 * l.depth

abbrev pub decreases-composite_of : goal.decreases-composite_of
decreases-composite_of l = 6 * l.depth + 5

abbrev pub decreases-contents_of : goal.decreases-contents_of
decreases-contents_of l = 6 * l.depth + 4

abbrev pub decreases-turn_of : goal.decreases-turn_of
decreases-turn_of l = 6 * l.depth + 3

abbrev pub decreases-object_turn_of : goal.decreases-object_turn_of
decreases-object_turn_of l = 6 * l.depth + 2

abbrev pub decreases-array_turn_of : goal.decreases-array_turn_of
decreases-array_turn_of l = 6 * l.depth + 2

abbrev pub decreases-sparse_turn_of : goal.decreases-sparse_turn_of
decreases-sparse_turn_of l = 6 * l.depth + 2

abbrev pub decreases-map_turn_of : goal.decreases-map_turn_of
decreases-map_turn_of l = 6 * l.depth + 2

abbrev pub decreases-set_turn_of : goal.decreases-set_turn_of
decreases-set_turn_of l = 6 * l.depth + 2

-- What is read from the rest, turn after turn, is what is read from the whole.
abbrev pub invariant-contents_of-turns : goal.invariant-contents_of-turns
invariant-contents_of-turns l = (n : ℕ) × (length l.rest ≤ n) × (length l.rest ≤ length l.bytes) × (length l.fn.met.nodes ≤ length l.met.nodes)
    × (contents_at (item_at l.depth) (length l.bytes) l.fn.begun l.fn.met l.bytes ≡ contents_at (item_at l.depth) n l.begun l.met l.rest)

abbrev pub decreases-contents_of-turns : goal.decreases-contents_of-turns
decreases-contents_of-turns l = length l.rest
