use Rattle.std.proofs.Common.{◌≡◌, ◌++◌, ap, ◌∙◌, List, ℕ, map, false}
use Rattle.std.specs.List.{flat_map}
use Rattle.world_heap.specs.declared.cell.Binding.{Binding}
use Rattle.js_tree.specs.declared.node.BindElement.{BindElement}
use Rattle.js_semantics.specs.Environments.{unready, names_of}
use Rattle.js_names.specs.Patterns.{nodes_of}
use Rattle.js_names.proofs.Naming.{parameters_are}
use Rattle.js_names.proofs.declare.parameters_of.Goals as goal

pub returns : goal.returns
returns c =
    let f : BindElement → List (Binding ℕ) = λ element. map (unready false) (names_of (nodes_of c.args.tree.now) element.bind) in
    let first : c.declare_elements.new.bindings ≡ flat_map f c.args.function.now.parameters = c.in_ok-declare_elements.ensures ∙ ap (λ bs. bs ++ flat_map f c.as_slice.result.now) c.new-bindings.ensures ∙ ap (flat_map f) c.as_slice.ensures in
    parameters_are (nodes_of c.args.tree.now) c.args.function.now c.declare_elements.new.bindings c.declare_rest.new.bindings first c.in_ok-declare_rest.ensures
