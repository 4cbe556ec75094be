use Rattle.std.proofs.Common.{arith}
use Rattle.parcel.proofs.Ranges.{is_text-units}
use Rattle.parcel.proofs.walk.units_met.Goals as goal

pub returns : goal.returns
returns c =
    rw (is_text-units c.args.units.now c.if-units-gt-LIMIT.false (λ k h. omega (arith, c.type_inv.units k))) c.with_units.ensures
