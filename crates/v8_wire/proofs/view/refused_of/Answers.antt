use Rattle.v8_wire.proofs.Refusals.{refused_at-fails}
use Rattle.v8_wire.proofs.view.refused_of.Goals as goal

pub returns-in-Some : goal.returns-in-Some
returns-in-Some c =
    refused_at-fails c.refusal.result c.args.met.now c.args.bytes.now c.in-Some.tag.now c.in-Some.rest.now c.in-Some.ensures.cases.0 c.refusal.ensures
