use Rattle.std.proofs.Common.{◌∙◌}
use Rattle.world_heap.specs.BuiltIns.{place_of}
use Rattle.js_machine.proofs.Testing.{keys_at}
use Rattle.js_machine.proofs.state.State.built_in.Goals as goal

pub returns : goal.returns
returns c nodes supply = c.built_in.ensures ∙ keys_at c.args.self.now.heap.cells (place_of c.args.name)
