use Rattle.std.proofs.Common.{◌<◌, length, arith}
use Rattle.wl_text.specs.Text.{units_of}
use Rattle.event_script.proofs.Units.{length-units_of}
use Rattle.event_script.proofs.parts.units.Goals as goal

pub unreachable-requires : goal.unreachable-requires
unreachable-requires c =
    let most : 1_048_576 < length (units_of c.args.text.now) = rw c.in-Err-TooLong.field-0-is at c.in-Err-TooLong.ensures in
    let fewer = length-units_of c.args.text.now c.utf8.text in
    omega arith
