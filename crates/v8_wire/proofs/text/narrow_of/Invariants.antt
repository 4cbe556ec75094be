use Rattle.std.proofs.Common.{◌≡◌, take}
use Rattle.v8_wire.proofs.text.narrow_of.Given as goal

abbrev pub invariant-loop-byte : goal.invariant-loop-byte
invariant-loop-byte l = l.units.items ≡ take l.byte-index l.narrow
