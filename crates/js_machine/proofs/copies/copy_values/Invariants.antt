use Rattle.std.proofs.Common.{◌≡◌, take}
use Rattle.js_machine.proofs.copies.copy_values.Given as goal

abbrev pub invariant-values : goal.invariant-values
invariant-values l = l.copies ≡ take l.value-index l.values
