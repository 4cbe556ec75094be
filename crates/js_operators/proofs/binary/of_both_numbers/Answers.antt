use Rattle.std.proofs.Common.{◌∙◌, sym, to_z-of_z}
use Rattle.js_operators.proofs.Settled.{settled_numbers}
use Rattle.js_operators.proofs.binary.of_both_numbers.Goals as goal

pub returns : goal.returns
returns c =
    rw (to_z-of_z c.ranges.left, to_z-of_z c.ranges.right) at c.of_numbers.ensures
    ∙ sym (settled_numbers c.args.operator c.args.left c.args.right)
