-- How parameters that are bound in place are put together with the call around them.
use Rattle.std.proofs.Common.{◌≡◌, ℕ, ◌+◌, ◌-◌, ◌<◌, List, ◌∷◌, drop, length, Some, None, true, IfOk, Result, slice_get, refl, sym, ap, subst, ◌∙◌, arith}
use Rattle.world_heap.specs.declared.value.Value.{Value}
use Rattle.world_heap.specs.declared.cell.Cell.{Cell}
use Rattle.world_heap.specs.Over.{ListOver}
use Rattle.world_heap.specs.Views.{HeapView}
use Rattle.js_tree.specs.declared.node.NodeId.{NodeId}
use Rattle.js_tree.specs.declared.node.Node.{Node}
use Rattle.js_tree.specs.declared.node.Node.TheVariants as kinds
use Rattle.js_tree.specs.declared.node.BindElement.{BindElement}
use Rattle.js_semantics.specs.declared.scope.Scope.{Scope}
use Rattle.js_semantics.specs.declared.fault.StepFault.{StepFault}
use Rattle.js_semantics.specs.World.{World, over}
use Rattle.js_semantics.specs.Access.{bind_value, first_of, or_default}
use Rattle.js_semantics.specs.Environments.{fill_name}
use Rattle.js_semantics.specs.Prog.{Prog, Bind, bind, change, on_value}
use Rattle.js_semantics.specs.Rows.{row}
use Rattle.js_semantics.specs.Run.{receive, run}
use Rattle.js_semantics.specs.Statements.{pattern_of}
use Rattle.js_semantics.proofs.Programs.{spend_some}
use Rattle.js_names.specs.Growing.{Grows}
use Rattle.js_machine.specs.declared.state.State.{State}
use Rattle.js_machine.specs.declared.state.Next.{Next}
use Rattle.js_machine.specs.Closed.{ValueFits}
use Rattle.js_machine.specs.Does.{Does, Moves, StepsDown, budget_of, world_of}
use Rattle.js_machine.specs.Frames.{parameters_rest}
use Rattle.js_machine.specs.Parts.{parameters_from}
use Rattle.js_machine.specs.Defaults.{DefaultsTo}
use Rattle.js_machine.proofs.Changing.{fill_keys, moves_change}
use Rattle.js_machine.proofs.Closing.{value_grown}
use Rattle.js_machine.proofs.Doing.{does_move, moves_on}
use Rattle.js_calls.specs.declared.in_place.Bound.{Bound}
use Rattle.js_calls.specs.declared.in_place.Bound.TheVariants as bounds
use Rattle.js_calls.specs.InPlace.{Binds}
use Rattle.js_calls.proofs.Defaulted.{one_more}
use Rattle.js_calls.proofs.Fitting.{drop_fits, first_fits}

-- the step of a pattern is taken that is a name
name_entered : (nodes : List Node) (pattern : NodeId) (name : List ℕ) (v : Value ℕ) (scope : Scope ℕ) (p : Prog ℕ) (old mid : State) → slice_get nodes pattern.0 ≡ Some (kinds.BindName name) → StepsDown old mid true
    → Moves nodes (bind_value pattern v scope p) old (change (fill_name scope.env name v) p) mid
unfolding run pattern_of row
name_entered nodes pattern name v scope p old mid named (some, is) = rw is (record {
  law = λ supply ds j follows.
      spend_some ds (receive ds) (budget_of old) (Bind pattern v scope) (λ o. bind (on_value (λ u. p) o) j) (world_of nodes supply old) some
      ∙ ap (λ n. run ds (record (budget_of old) { steps = old.steps - 1 }) (world_of nodes supply old) (bind (pattern_of n v scope) (λ o. bind (on_value (λ u. p) o) j))) named;
  frames = refl;
  left = omega arith;
  keeps = λ supply f. f;
  stays = refl;
})

-- and the name is bound
pub name_bound : (nodes : List Node) (pattern : NodeId) (name : List ℕ) (v : Value ℕ) (scope : Scope ℕ) (p : Prog ℕ) (old mid : State) (heap : HeapView) → slice_get nodes pattern.0 ≡ Some (kinds.BindName name) → StepsDown old mid true
    → heap ≡ record mid.heap { cells = heap.cells } → ((w : World ℕ) → over heap w ≡ fill_name scope.env name v (over mid.heap w))
    → Moves nodes (bind_value pattern v scope p) old p (record mid { heap = heap })
name_bound nodes pattern name v scope p old mid heap named taken rest is =
    let f : World ℕ → World ℕ = fill_name scope.env name v in
    moves_on nodes (bind_value pattern v scope p) (change f p) p old mid (record mid { heap = heap }) (name_entered nodes pattern name v scope p old mid named taken)
    (moves_change nodes f p mid (record mid { heap = heap }) heap refl rest is (λ w. fill_keys scope.env name v w))

-- a default that isn't evaluated
pub not_defaulted_ok : (nodes : List Node) (element : BindElement) (v : Value ℕ) (scope : Scope ℕ) (p : Prog ℕ) (old new : State) (r : Result Bound StepFault) → DefaultsTo element.default v None
    → IfOk r (λ b. Binds nodes (bind_value element.bind v scope p) p old new b) → IfOk r (λ b. Binds nodes (or_default element.default v scope (λ u. bind_value element.bind u scope p)) p old new b)
not_defaulted_ok nodes element v scope p old new r defaults h = subst (λ q. IfOk r (λ b. Binds nodes q p old new b)) (sym (defaults scope (λ u. bind_value element.bind u scope p))) h

-- the parameter at a place is bound, behind those before it
module _ (nodes : List Node) (node : NodeId) (at next : ℕ) (arguments : List (Value ℕ)) (scope : Scope ℕ) (element : BindElement) (value : Value ℕ) (start old new : State) (b : Bound)
    (is : drop at (parameters_from (slice_get nodes node.0)) ≡ element ∷ drop next (parameters_from (slice_get nodes node.0))) (behind : next ≡ at + 1) (value_is : value ≡ first_of (drop at arguments))
    (binds : (p : Prog ℕ) → Binds nodes (or_default element.default value scope (λ v. bind_value element.bind v scope p)) p old new b)
    (reaches : Moves nodes (parameters_rest nodes node 0 arguments scope) start (parameters_rest nodes node at arguments scope) old) where
  here : Binds nodes (parameters_rest nodes node at arguments scope) (parameters_rest nodes node next arguments scope) old new b
  here =
      let p : Prog ℕ = parameters_rest nodes node next arguments scope in
      let e : parameters_rest nodes node at arguments scope ≡ or_default element.default value scope (λ v. bind_value element.bind v scope p) =
      one_more nodes node at next arguments scope element is behind ∙ ap (λ x. or_default element.default x scope (λ v. bind_value element.bind v scope p)) (sym value_is) in
      subst (λ q. Binds nodes q p old new b) (sym e) (binds p)

  pub binds_on : b ≡ bounds.Done → Moves nodes (parameters_rest nodes node 0 arguments scope) start (parameters_rest nodes node next arguments scope) new
  binds_on e =
      let first : Prog ℕ = parameters_rest nodes node 0 arguments scope in
      let p : Prog ℕ = parameters_rest nodes node at arguments scope in
      let q : Prog ℕ = parameters_rest nodes node next arguments scope in
      moves_on nodes first p q start old new reaches (subst (λ x. Binds nodes p q old new x) e here)

  pub binds_ended : (ended : Next) → b ≡ bounds.Ended ended → Does nodes 2 (parameters_rest nodes node 0 arguments scope) start new ended
  binds_ended ended e =
      let first : Prog ℕ = parameters_rest nodes node 0 arguments scope in
      let p : Prog ℕ = parameters_rest nodes node at arguments scope in
      let q : Prog ℕ = parameters_rest nodes node next arguments scope in
      does_move nodes 2 first p start old new ended reaches (subst (λ x. Binds nodes p q old new x) e here)

  pub binds_nothing : b ≡ bounds.Nothing → new ≡ old
  binds_nothing e = subst (λ x. Binds nodes (parameters_rest nodes node at arguments scope) (parameters_rest nodes node next arguments scope) old new x) e here

-- fewer parameters are left
pub fewer_left : {A : Type 0} (xs : List A) (at next : ℕ) (x : A) → drop at xs ≡ x ∷ drop next xs → length (drop next xs) < length (drop at xs)
fewer_left xs at next x is = let l = ap length is in omega arith

-- the argument at a place fits a heap that goes on
pub fit_at : (nodes : List Node) (old new : List (ℕ × Cell ℕ)) → Grows old new → (at : ℕ) (arguments : List (Value ℕ)) (value : Value ℕ) → ListOver (ValueFits old) arguments → value ≡ first_of (drop at arguments) → ValueFits new value
fit_at nodes old new grows at arguments value fit is = value_grown nodes old new grows value (rw is (first_fits old (drop at arguments) (drop_fits (ValueFits old) at arguments fit)))
