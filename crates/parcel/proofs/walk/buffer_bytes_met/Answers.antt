use Rattle.std.proofs.Common.{arith}
use Rattle.parcel.proofs.Ranges.{is_contents-bytes}
use Rattle.parcel.proofs.walk.buffer_bytes_met.Goals as goal

pub returns : goal.returns
returns c =
    rw (is_contents-bytes c.args.bytes.now c.if-bytes-gt-BUFFER.false (λ k h. omega (arith, c.type_inv.bytes k))) c.with_units.ensures
