use Rattle.std.proofs.Common.{◌≡◌, take}
use Rattle.js_operators.proofs.convert.short_text.Given as goal

abbrev pub invariant-loop-byte : goal.invariant-loop-byte
invariant-loop-byte l = l.list.items ≡ take l.byte-index l.byte-items
