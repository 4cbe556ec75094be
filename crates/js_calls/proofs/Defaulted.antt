-- The parameters of a function from a place on.
use Rattle.std.proofs.Common.{◌≡◌, ℕ, zero, suc, ◌+◌, List, [], ◌∷◌, drop, Some, None, false, Result, Ok, Err, IfOk, refl, sym, ap, subst, ◌∙◌, add-one, arith}
use mathlib.Core.Path.{fun_ext}
use Rattle.std.specs.Prelude.{slice_get}
use Rattle.world_heap.specs.declared.value.Value.{Value}
use Rattle.world_heap.specs.declared.value.Value.TheVariants.{Undefined, Ref}
use Rattle.world_heap.specs.declared.cell.Cell.TheVariants.{Array}
use Rattle.world_heap.specs.declared.builtin.BuiltIn.TheVariants.{ArrayPrototype}
use Rattle.js_tree.specs.declared.node.NodeId.{NodeId}
use Rattle.js_tree.specs.declared.node.Node.{Node}
use Rattle.js_tree.specs.declared.node.BindElement.{BindElement}
use Rattle.js_semantics.specs.declared.scope.Scope.{Scope}
use Rattle.js_semantics.specs.declared.fault.StepFault.{StepFault}
use Rattle.world_log.specs.declared.entry.Product.TheVariants.{Stopped}
use Rattle.world_log.specs.declared.entry.Stop.{Stop}
use Rattle.js_semantics.specs.declared.outcome.Outcome.TheVariants.{Normal}
use Rattle.js_semantics.specs.World.{built_in}
use Rattle.js_semantics.specs.Prog.{Prog, Bind, End, Enter, Node as NodeRequest, alloc, eval, on_value}
use Rattle.js_semantics.specs.Access.{bind_parameters, bind_value, first_of, make_array, or_default, rest_of}
use Rattle.js_machine.specs.declared.frame.CallFrame.TheVariants as calls
use Rattle.js_machine.specs.declared.state.State.{State}
use Rattle.js_machine.specs.declared.state.Next.{Next}
use Rattle.js_machine.specs.declared.state.Next.TheVariants.{Made}
use Rattle.js_machine.specs.Does.{Allocates, Does, world_of}
use Rattle.js_machine.specs.Frames.{call_rest, parameter_rest, parameters_rest}
use Rattle.js_machine.specs.Parts.{body_node, parameters_from, rest_parameter}
use Rattle.js_machine.proofs.Doing.{does_read, does_read_ok}
use Rattle.js_machine.proofs.Allocating.{does_alloc_ok, not_alloc}
use Rattle.js_machine.specs.Defaults.{DefaultsTo}

rest_drop-suc : {L : Type 0} (xs : List (Value L)) (i : ℕ) → rest_of (drop i xs) ≡ drop (suc i) xs
rest_drop-suc [] zero = refl
rest_drop-suc [] (suc i) = refl
rest_drop-suc (x ∷ xs) zero = refl
rest_drop-suc (x ∷ xs) (suc i) = rest_drop-suc xs i

-- the arguments behind a place
rest_drop : {L : Type 0} (xs : List (Value L)) (i : ℕ) → rest_of (drop i xs) ≡ drop (i + 1) xs
rest_drop xs i = rw add-one (rest_drop-suc xs i)

-- the first of the arguments from a place on
pub first_some : {L : Type 0} (xs : List (Value L)) (i : ℕ) (v : Value L) → slice_get xs i ≡ Some v → v ≡ first_of (drop i xs)
first_some [] i v h = absurd (cc)
first_some (x ∷ xs) zero v h = cc
first_some (x ∷ xs) (suc i) v h = first_some xs i v h

pub first_none : {L : Type 0} (xs : List (Value L)) (i : ℕ) → slice_get xs i ≡ None → Undefined ≡ first_of (drop i xs)
first_none [] zero h = refl
first_none [] (suc i) h = refl
first_none (x ∷ xs) zero h = absurd (cc)
first_none (x ∷ xs) (suc i) h = first_none xs i h

-- one parameter more, with those behind it
pub one_more : (nodes : List Node) (node : NodeId) (at next : ℕ) (arguments : List (Value ℕ)) (scope : Scope ℕ) (element : BindElement)
    → drop at (parameters_from (slice_get nodes node.0)) ≡ element ∷ drop next (parameters_from (slice_get nodes node.0)) → next ≡ at + 1
    → parameters_rest nodes node at arguments scope ≡ or_default element.default (first_of (drop at arguments)) scope (λ v. bind_value element.bind v scope (parameters_rest nodes node next arguments scope))
one_more nodes node at next arguments scope element is behind =
    let rest = rest_parameter (slice_get nodes node.0) in
    let ps = drop next (parameters_from (slice_get nodes node.0)) in
    let e : rest_of (drop at arguments) ≡ drop next arguments = rest_drop arguments at ∙ ap (λ i. drop i arguments) (sym behind) in
    ap (λ elements. bind_parameters elements rest (drop at arguments) scope (Enter (NodeRequest (body_node (slice_get nodes node.0)) scope) (λ o. End o))) is
    ∙ ap (λ more. or_default element.default (first_of (drop at arguments)) scope (λ v. bind_value element.bind v scope (bind_parameters ps rest more scope (Enter (NodeRequest (body_node (slice_get nodes node.0)) scope) (λ o. End o))))) e

-- the same, with the words of the frame of its default
pub bound_more : (nodes : List Node) (node : NodeId) (at next : ℕ) (arguments : List (Value ℕ)) (scope : Scope ℕ) (element : BindElement) (v : Value ℕ)
    → drop at (parameters_from (slice_get nodes node.0)) ≡ element ∷ drop next (parameters_from (slice_get nodes node.0)) → next ≡ at + 1
    → parameter_rest nodes node (drop at (parameters_from (slice_get nodes node.0))) at arguments scope v ≡ bind_value element.bind v scope (parameters_rest nodes node next arguments scope)
bound_more nodes node at next arguments scope element v is behind =
    ap (λ elements. parameter_rest nodes node elements at arguments scope v) is
    ∙ ap (λ i. bind_value element.bind v scope (parameters_rest nodes node i arguments scope)) (sym behind)

-- behind the last parameter the body follows
pub no_more : (nodes : List Node) (node : NodeId) (at : ℕ) (arguments : List (Value ℕ)) (scope : Scope ℕ)
    → drop at (parameters_from (slice_get nodes node.0)) ≡ [] → rest_parameter (slice_get nodes node.0) ≡ None
    → parameters_rest nodes node at arguments scope ≡ Enter (NodeRequest (body_node (slice_get nodes node.0)) scope) (λ o. End o)
no_more nodes node at arguments scope is none =
    ap (λ elements. bind_parameters elements (rest_parameter (slice_get nodes node.0)) (drop at arguments) scope (Enter (NodeRequest (body_node (slice_get nodes node.0)) scope) (λ o. End o))) is
    ∙ ap (λ rest. bind_parameters [] rest (drop at arguments) scope (Enter (NodeRequest (body_node (slice_get nodes node.0)) scope) (λ o. End o))) none

-- or the rest parameter
pub rest_more : (nodes : List Node) (node : NodeId) (at : ℕ) (arguments : List (Value ℕ)) (scope : Scope ℕ) (pattern : NodeId)
    → drop at (parameters_from (slice_get nodes node.0)) ≡ [] → rest_parameter (slice_get nodes node.0) ≡ Some pattern
    → parameters_rest nodes node at arguments scope ≡ make_array (drop at arguments) (λ loc. bind_value pattern (Ref loc) scope (Enter (NodeRequest (body_node (slice_get nodes node.0)) scope) (λ o. End o)))
rest_more nodes node at arguments scope pattern is some =
    ap (λ elements. bind_parameters elements (rest_parameter (slice_get nodes node.0)) (drop at arguments) scope (Enter (NodeRequest (body_node (slice_get nodes node.0)) scope) (λ o. End o))) is
    ∙ ap (λ rest. bind_parameters [] rest (drop at arguments) scope (Enter (NodeRequest (body_node (slice_get nodes node.0)) scope) (λ o. End o))) some

module _ (nodes : List Node) (node : NodeId) (at : ℕ) (arguments : List (Value ℕ)) (scope : Scope ℕ) where
  -- the default of a parameter is entered
  pub default_entered : (next : ℕ) (element : BindElement) (value : Value ℕ) (default : NodeId) (old new : State) (r : Result Next StepFault)
      → drop at (parameters_from (slice_get nodes node.0)) ≡ element ∷ drop next (parameters_from (slice_get nodes node.0)) → next ≡ at + 1 → value ≡ first_of (drop at arguments) → DefaultsTo element.default value (Some default)
      → IfOk r (λ x. Does nodes 2 (eval default scope (λ v. call_rest nodes (calls.ParameterDefault node at arguments scope) v)) old new x) → IfOk r (λ x. Does nodes 2 (parameters_rest nodes node at arguments scope) old new x)
  default_entered next element value default old new r is behind value_is defaults h =
      let K : Value ℕ → Prog ℕ = λ v. bind_value element.bind v scope (parameters_rest nodes node next arguments scope) in
      let e : parameters_rest nodes node at arguments scope ≡ eval default scope (λ v. call_rest nodes (calls.ParameterDefault node at arguments scope) v) =
      one_more nodes node at next arguments scope element is behind
      ∙ ap (λ x. or_default element.default x scope K) (sym value_is)
      ∙ defaults scope K
      ∙ ap (λ (k : Value ℕ → Prog ℕ). eval default scope k) (fun_ext (λ v. sym (bound_more nodes node at next arguments scope element v is behind))) in
      subst (λ p. IfOk r (λ x. Does nodes 2 p old new x)) (sym e) h

  -- or the parameter is bound at once
  pub bound_at_once : (next : ℕ) (element : BindElement) (value : Value ℕ) (old new : State) (r : Result Next StepFault)
      → drop at (parameters_from (slice_get nodes node.0)) ≡ element ∷ drop next (parameters_from (slice_get nodes node.0)) → next ≡ at + 1 → value ≡ first_of (drop at arguments) → DefaultsTo element.default value None
      → IfOk r (λ x. Does nodes 2 (bind_value element.bind value scope (parameters_rest nodes node next arguments scope)) old new x) → IfOk r (λ x. Does nodes 2 (parameters_rest nodes node at arguments scope) old new x)
  bound_at_once next element value old new r is behind value_is defaults h =
      let K : Value ℕ → Prog ℕ = λ v. bind_value element.bind v scope (parameters_rest nodes node next arguments scope) in
      let e : parameters_rest nodes node at arguments scope ≡ K value =
      one_more nodes node at next arguments scope element is behind
      ∙ ap (λ x. or_default element.default x scope K) (sym value_is)
      ∙ defaults scope K in
      subst (λ p. IfOk r (λ x. Does nodes 2 p old new x)) (sym e) h

  -- a default has a value, and the parameter is bound
  pub default_bound : (next : ℕ) (element : BindElement) (value : Value ℕ) (old new : State) (r : Result Next StepFault)
      → drop at (parameters_from (slice_get nodes node.0)) ≡ element ∷ drop next (parameters_from (slice_get nodes node.0)) → next ≡ at + 1
      → IfOk r (λ x. Does nodes 6 (bind_value element.bind value scope (parameters_rest nodes node next arguments scope)) old new x) → IfOk r (λ x. Does nodes 6 (call_rest nodes (calls.ParameterDefault node at arguments scope) value) old new x)
  default_bound next element value old new r is behind h = subst (λ p. IfOk r (λ x. Does nodes 6 p old new x)) (sym (bound_more nodes node at next arguments scope element value is behind)) h

  pub default_lost : (value : Value ℕ) (old new : State) (r : Result Next StepFault) → drop at (parameters_from (slice_get nodes node.0)) ≡ []
      → IfOk r (λ x. Does nodes 6 (End (Normal Undefined)) old new x) → IfOk r (λ x. Does nodes 6 (call_rest nodes (calls.ParameterDefault node at arguments scope) value) old new x)
  default_lost value old new r is h = subst (λ elements. IfOk r (λ x. Does nodes 6 (parameter_rest nodes node elements at arguments scope value) old new x)) (sym is) h

  -- the body is entered behind the last parameter
  pub body_entered : (body : NodeId) (old new : State) (r : Result Next StepFault) → drop at (parameters_from (slice_get nodes node.0)) ≡ [] → rest_parameter (slice_get nodes node.0) ≡ None → body ≡ body_node (slice_get nodes node.0)
      → IfOk r (λ x. Does nodes 2 (Enter (NodeRequest body scope) (λ o. End o)) old new x) → IfOk r (λ x. Does nodes 2 (parameters_rest nodes node at arguments scope) old new x)
  body_entered body old new r is none body_is h =
      subst (λ p. IfOk r (λ x. Does nodes 2 p old new x)) (ap (λ b. Enter (NodeRequest b scope) (λ o. End o)) body_is ∙ sym (no_more nodes node at arguments scope is none)) h

  -- the array of a rest parameter is made
  pub rest_made : (pattern : NodeId) (items : List (Value ℕ)) (old mid new : State) (array : ℕ) (r : Result Next StepFault) → drop at (parameters_from (slice_get nodes node.0)) ≡ [] → rest_parameter (slice_get nodes node.0) ≡ Some pattern → items ≡ drop at arguments
      → ((supply : ℕ → ℕ) → Allocates (Array (built_in ArrayPrototype (world_of nodes supply old)) items false) old mid (Ok array))
      → IfOk r (λ x. Does nodes 2 (Enter (Bind pattern (Ref array) scope) (λ o. on_value (λ v. call_rest nodes (calls.RestBound node scope) v) o)) mid new x) → IfOk r (λ x. Does nodes 2 (parameters_rest nodes node at arguments scope) old new x)
  unfolding make_array
  rest_made pattern items old mid new array r is some items_are made h =
      let k : ℕ → Prog ℕ = λ loc. bind_value pattern (Ref loc) scope (Enter (NodeRequest (body_node (slice_get nodes node.0)) scope) (λ o. End o)) in
      let cell = Array (built_in ArrayPrototype (world_of nodes (λ m. m) old)) items false in
      let e : parameters_rest nodes node at arguments scope ≡ make_array items k = rest_more nodes node at arguments scope pattern is some ∙ sym (ap (λ vs. make_array vs k) items_are) in
      subst (λ p. IfOk r (λ x. Does nodes 2 p old new x)) (sym e)
      (does_read_ok nodes 2 (λ w. alloc (Array (built_in ArrayPrototype w) items false) k) (alloc cell k) old new r (λ supply. refl) (does_alloc_ok nodes 2 cell k old mid new array r refl (made (λ m. m)) h))

  pub rest_not_made : (pattern : NodeId) (items : List (Value ℕ)) (old new : State) (stop : Stop) → drop at (parameters_from (slice_get nodes node.0)) ≡ [] → rest_parameter (slice_get nodes node.0) ≡ Some pattern → items ≡ drop at arguments
      → ((supply : ℕ → ℕ) → Allocates (Array (built_in ArrayPrototype (world_of nodes supply old)) items false) old new (Err stop))
      → Does nodes 2 (parameters_rest nodes node at arguments scope) old new (Made (Stopped stop))
  unfolding make_array
  rest_not_made pattern items old new stop is some items_are made =
      let k : ℕ → Prog ℕ = λ loc. bind_value pattern (Ref loc) scope (Enter (NodeRequest (body_node (slice_get nodes node.0)) scope) (λ o. End o)) in
      let cell = Array (built_in ArrayPrototype (world_of nodes (λ m. m) old)) items false in
      let e : parameters_rest nodes node at arguments scope ≡ make_array items k = rest_more nodes node at arguments scope pattern is some ∙ sym (ap (λ vs. make_array vs k) items_are) in
      subst (λ p. Does nodes 2 p old new (Made (Stopped stop))) (sym e)
      (does_read nodes 2 (λ w. alloc (Array (built_in ArrayPrototype w) items false) k) (alloc cell k) old new (Made (Stopped stop)) (λ supply. refl) (not_alloc nodes 2 cell k old new stop (omega arith) (made (λ m. m))))
