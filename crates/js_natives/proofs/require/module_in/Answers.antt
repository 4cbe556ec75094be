use Rattle.std.proofs.Common.{◌∙◌}
use Rattle.js_semantics.specs.Realm.{module_place}
use Rattle.js_machine.proofs.Testing.{keys_at}
use Rattle.js_natives.proofs.require.module_in.Goals as goal

pub returns : goal.returns
returns c = c.location.ensures ∙ keys_at c.args.heap.now.cells module_place
