-- How the rows of object patterns are put together.
use Rattle.std.proofs.Common.{◌≡◌, ℕ, List, ◌∷◌, Some, true, false, Result, IfOk, refl, ap, ◌∙◌}
use Rattle.std.specs.Prelude.{slice_get}
use Rattle.world_heap.specs.declared.value.Value.{Value}
use Rattle.world_heap.specs.declared.value.Value.TheVariants.{Undefined, Null}
use Rattle.js_tree.specs.declared.node.NodeId.{NodeId}
use Rattle.js_tree.specs.declared.node.BindElement.{BindElement}
use Rattle.js_tree.specs.declared.node.BindProperty.{BindProperty}
use Rattle.js_tree.specs.declared.node.Node.{Node}
use Rattle.js_tree.specs.declared.node.Node.TheVariants as kinds
use Rattle.js_semantics.specs.declared.scope.Scope.{Scope}
use Rattle.js_semantics.specs.declared.fault.Fault.TheVariants.{NotAnObject}
use Rattle.js_semantics.specs.declared.fault.StepFault.{StepFault}
use Rattle.js_semantics.specs.Prog.{Bind, Enter, Node as NodeRequest, eval, on_value, throw}
use Rattle.js_semantics.specs.Rows.{row}
use Rattle.js_semantics.specs.Access.{bind_value}
use Rattle.js_semantics.specs.Statements.{bind_array, bind_object, bind_properties, pattern_of}
use Rattle.js_machine.specs.declared.state.State.{State}
use Rattle.js_machine.specs.declared.state.Next.{Next}
use Rattle.js_machine.specs.Parts.{elements_of, entries_of}
use Rattle.js_machine.specs.Does.{Does}
use Rattle.js_machine.proofs.Doing.{does_read_ok}
use Rattle.js_machine.specs.Frames.{property_bound}
use Rattle.js_patterns.specs.Nullish.{is_nullish}

-- undefined and null have no properties
pub nothing_bound : (parts : List BindProperty) (v : Value ℕ) (scope : Scope ℕ) → is_nullish v ≡ true → bind_object parts v scope ≡ throw NotAnObject
nothing_bound parts Undefined scope is = refl
nothing_bound parts Null scope is = refl
nothing_bound parts other scope is = absurd (cc)

pub properties_bound : (parts : List BindProperty) (v : Value ℕ) (scope : Scope ℕ) → is_nullish v ≡ false → bind_object parts v scope ≡ bind_properties parts v scope
properties_bound parts Undefined scope is = absurd (cc)
properties_bound parts Null scope is = absurd (cc)
properties_bound parts other scope is = refl

module _ (nodes : List Node) (xs rest : List BindProperty) (part : BindProperty) (of : Value ℕ) (scope : Scope ℕ) where
  -- its default
  pub property_default : (node : NodeId) → xs ≡ part ∷ rest → eval node scope (λ y. bind_value part.bind y scope (bind_properties rest of scope)) ≡ Enter (NodeRequest node scope) (λ o. on_value (λ v. property_bound nodes xs of scope v) o)
  property_default node is = rw is refl

-- the row of a pattern, by what stands there
module _ (nodes : List Node) (id : NodeId) (here : Node) (v : Value ℕ) (scope : Scope ℕ) (old new : State) (r : Result Next StepFault) where
  pub object_pattern : (parts : List BindProperty) → slice_get nodes id.0 ≡ Some here → here ≡ kinds.BindObject parts
      → IfOk r (λ next. Does nodes 6 (bind_object (entries_of (slice_get nodes id.0)) v scope) old new next) → IfOk r (λ next. Does nodes 6 (pattern_of (Some here) v scope) old new next)
  unfolding entries_of pattern_of
  object_pattern parts at is h = rw is (rw (at ∙ ap (λ n. Some n) is) at h)

  pub array_pattern : (parts : List BindElement) → slice_get nodes id.0 ≡ Some here → here ≡ kinds.BindArray parts
      → IfOk r (λ next. Does nodes 6 (bind_array (elements_of (slice_get nodes id.0)) v scope) old new next) → IfOk r (λ next. Does nodes 6 (pattern_of (Some here) v scope) old new next)
  unfolding elements_of pattern_of
  array_pattern parts at is h = rw is (rw (at ∙ ap (λ n. Some n) is) at h)

-- the row of a pattern reads it in the tree
pub row_ok : (nodes : List Node) (id : NodeId) (v : Value ℕ) (scope : Scope ℕ) (old new : State) (r : Result Next StepFault)
    → IfOk r (λ next. Does nodes 6 (pattern_of (slice_get nodes id.0) v scope) old new next) → IfOk r (λ next. Does nodes 6 (row (Bind id v scope)) old new next)
unfolding row
row_ok nodes id v scope old new r h = does_read_ok nodes 6 (λ w. pattern_of (slice_get w.tree id.0) v scope) (pattern_of (slice_get nodes id.0) v scope) old new r (λ supply. refl) h
