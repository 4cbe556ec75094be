use Rattle.world_machine.proofs.Pools.{runs_in}
use Rattle.world_machine.proofs.Resuming.{ended}
use Rattle.world_machine.proofs.world.World.end.Goals as goal

pub take_state-state-requires : goal.take_state-state-requires
take_state-state-requires c = runs_in c.args.self c.args.pool c.requires

pub returns : goal.returns
returns c =
    let taken = c.take_state-state.ensures in
    ended c.args.self taken.0 c.args.pool c.end_heap.result c.take_state-state.result taken.1 c.requires taken.2 c.end_heap.ensures
