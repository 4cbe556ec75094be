use Rattle.std.proofs.Common.{◌≡◌, ◌++◌, length}
use Rattle.v8_wire.specs.Text.{pairs}
use Rattle.v8_wire.proofs.text.pairs_of.Given as goal

abbrev pub invariant-loop-rest : goal.invariant-loop-rest
invariant-loop-rest l = l.units.items ++ pairs l.rest ≡ pairs l.bytes

abbrev pub decreases-loop-rest : goal.decreases-loop-rest
decreases-loop-rest l = length l.rest
