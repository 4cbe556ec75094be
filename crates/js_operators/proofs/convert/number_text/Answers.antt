use Rattle.std.proofs.Common.{◌^◌, ◌<◌, ◌≤◌, length, arith}
use Rattle.std.specs.Int.Signed.{mag}
use Rattle.std.specs.Fmt.{signed_decimal}
use Rattle.std.proofs.lemmas.Fmt.{length_signed_le}
use Rattle.std.proofs.lemmas.Grind.{common_steps}
use Rattle.js_operators.proofs.convert.number_text.Goals as goal

-- A number of 64 bits has at most 20 characters.
pub short_text-requires : goal.short_text-requires
short_text-requires c =
    let small : mag c.args.number < 2 ^ 63 = c.ranges.number.sfits in
    let short : length (signed_decimal c.args.number) ≤ 20 = length_signed_le 19 c.args.number (omega arith) small in
    grind (arith, common_steps)
