use Rattle.std.proofs.Common.{◌≡◌, ◌++◌, map, take, false}
use Rattle.std.specs.List.{flat_map}
use Rattle.js_semantics.specs.Environments.{unready, names_of}
use Rattle.js_names.specs.Patterns.{nodes_of}
use Rattle.js_names.proofs.declare.declare_elements.Given as goal

abbrev pub invariant-elements : goal.invariant-elements
invariant-elements l = l.bindings ≡ l.initial.bindings ++ flat_map (λ element. map (unready false) (names_of (nodes_of l.tree) element.bind)) (take l.element-index l.elements)
