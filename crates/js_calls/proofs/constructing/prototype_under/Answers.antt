use Rattle.js_machine.specs.Does.{world_of}
use Rattle.js_calls.proofs.constructing.prototype_under.Goals as goal

pub returns-clause-is : goal.returns-clause-is
returns-clause-is c nodes supply =
    rw (c.get.ensures, c.in_ok-key.ensures) at (c.prototype_of.ensures (world_of nodes supply c.args.state.now) (c.built_in-default.ensures nodes supply))
