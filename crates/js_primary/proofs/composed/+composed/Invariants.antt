use Rattle.std.proofs.Common.{◌+◌, ◌*◌}
use Rattle.js_primary.proofs.composed.+composed.Given as goal

abbrev pub decreases-operand : goal.decreases-operand
decreases-operand l = 6 * l.depth + 1

abbrev pub decreases-composed : goal.decreases-composed
decreases-composed l = 6 * l.depth

abbrev pub decreases-row : goal.decreases-row
decreases-row l = 6 * l.depth + 5

abbrev pub decreases-binary : goal.decreases-binary
decreases-binary l = 6 * l.depth + 4

abbrev pub decreases-dot : goal.decreases-dot
decreases-dot l = 6 * l.depth + 4

abbrev pub decreases-index : goal.decreases-index
decreases-index l = 6 * l.depth + 4

abbrev pub decreases-operands : goal.decreases-operands
decreases-operands l = 6 * l.depth + 3
