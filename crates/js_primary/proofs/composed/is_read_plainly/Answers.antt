use Rattle.js_primary.proofs.Composing.{no_unit_told}
use Rattle.js_primary.proofs.composed.is_read_plainly.Goals as goal

pub returns-in-Str : goal.returns-in-Str
returns-in-Str c is = rw c.in-Str.is (tt, no_unit_told c.in-Str.text c.args.key.now c.has_unit.result c.has_unit.ensures is)
