use Rattle.std.proofs.Common.{◌≡◌, ◌≤◌, length}
use Rattle.v8_wire.specs.Leaf.{unpadded}
use Rattle.v8_wire.proofs.leaf.skip_padding.Given as goal

abbrev pub invariant-loop-rest : goal.invariant-loop-rest
invariant-loop-rest l = (length l.rest ≤ length l.bytes) × (unpadded l.rest ≡ unpadded l.bytes)

abbrev pub decreases-loop-rest : goal.decreases-loop-rest
decreases-loop-rest l = length l.rest
