use Rattle.std.proofs.Common.{◌≡◌, take, slice_get}
use Rattle.std.specs.List.{flat_map}
use Rattle.js_semantics.specs.Environments.{declared_by}
use Rattle.js_names.specs.Patterns.{nodes_of}
use Rattle.js_names.proofs.declare.declared_in.Given as goal

abbrev pub invariant-items : goal.invariant-items
invariant-items l = l.bindings ≡ flat_map (λ item. declared_by (nodes_of l.tree) (slice_get (nodes_of l.tree) item.0)) (take l.item-index l.items)
