use Rattle.std.proofs.Common.{◌≡◌, ◌++◌, take}
use Rattle.v8_wire.proofs.writing.put_narrow.Given as goal

abbrev pub invariant-loop-unit : goal.invariant-loop-unit
invariant-loop-unit l = l.out.items ≡ l.fn.out.items ++ take l.unit-index l.text
