use Rattle.world_heap.proofs.Wells.{no_env_stands}
use Rattle.proto_props.proofs.tests.made.Goals as goal

pub returns-in-Plain-clause-stands : goal.returns-in-Plain-clause-stands
returns-in-Plain-clause-stands c = no_env_stands c.args.heap.now.cells c.args.proto c.requires
