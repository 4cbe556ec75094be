use Rattle.std.proofs.Common.{◌∙◌, ap, sym, length, arith}
use Rattle.js_operators.proofs.PointEnds.{alone_end}
use Rattle.js_operators.proofs.points.point_end.Goals as goal

pub returns : goal.returns
returns c =
    alone_end c.args.text.now c.args.at (omega (arith, ap length c.as_slice-units.ensures.value))
    (rw c.as_slice-units.ensures.value at (sym c.is_pair.ensures ∙ c.if-is_pair.false))
