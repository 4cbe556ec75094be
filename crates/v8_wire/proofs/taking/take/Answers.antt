use Rattle.std.proofs.Common.{arith}
use Rattle.v8_wire.proofs.WholeTold.{taken-good}
use Rattle.v8_wire.proofs.taking.take.Goals as goal

pub returns-in-Ok-clause-checked : goal.returns-in-Ok-clause-checked
returns-in-Ok-clause-checked c = (taken-good c.args.ports c.args.bytes.now c.in-Ok.parcel (λ i. omega (arith, c.type_inv.bytes i)) c.in-Ok.ensures).checked

pub returns-in-Ok-clause-plain : goal.returns-in-Ok-clause-plain
returns-in-Ok-clause-plain c = (taken-good c.args.ports c.args.bytes.now c.in-Ok.parcel (λ i. omega (arith, c.type_inv.bytes i)) c.in-Ok.ensures).plain

pub returns-in-Ok-clause-ports : goal.returns-in-Ok-clause-ports
returns-in-Ok-clause-ports c = (taken-good c.args.ports c.args.bytes.now c.in-Ok.parcel (λ i. omega (arith, c.type_inv.bytes i)) c.in-Ok.ensures).came
