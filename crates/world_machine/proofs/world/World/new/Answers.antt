use Rattle.world_heap.specs.Bounded.{bounds_of}
use Rattle.js_names.specs.Patterns.{nodes_of}
use Rattle.world_machine.proofs.Beginning.{begun}
use Rattle.world_machine.proofs.world.World.new.Goals as goal

pub returns : goal.returns
returns c =
    begun c.args.script c.args.kind (bounds_of c.args.limits) c.args.pool c.in_ok-state.state c.part-machine.result.0 c.part-machine.result.1
    c.in_ok-state.ensures.fresh (c.in_ok-state.ensures.traces (nodes_of c.args.script)) (c.in_ok-state.ensures.closed (nodes_of c.args.script)) c.part-machine.ensures
