use Rattle.js_step_object.proofs.Defined.{refused}
use Rattle.js_step_object.proofs.defining.refuse.Goals as goal

pub returns-in-Ok-clause-does : goal.returns-in-Ok-clause-does
returns-in-Ok-clause-does c nodes =
    refused nodes c.args.loc c.args.key c.args.property c.args.state.now c.throw.new.self c.in-Ok.next c.requires (c.in-Ok.ensures.few nodes)
