-- How arguments that are evaluated in place are put together with the call around them.
use Rattle.std.proofs.Common.{◌≡◌, ℕ, List, [], ◌∷◌, ◌++◌, drop, false, Option, Some, slice_get, refl, sym, ap, subst}
use Rattle.world_heap.specs.declared.value.Value.{Value}
use Rattle.js_tree.specs.declared.node.NodeId.{NodeId}
use Rattle.js_tree.specs.declared.node.Node.{Node}
use Rattle.js_tree.specs.declared.node.Node.TheVariants as kinds
use Rattle.js_semantics.specs.declared.scope.Scope.{Scope}
use Rattle.js_semantics.specs.World.{World}
use Rattle.js_semantics.specs.Iteration.{arguments_from, values_of}
use Rattle.js_semantics.specs.Prog.{Prog, Read, eval}
use Rattle.js_machine.specs.declared.frame.CallTarget.{CallTarget}
use Rattle.js_machine.specs.declared.state.State.{State}
use Rattle.js_machine.specs.declared.state.Next.{Next}
use Rattle.js_machine.specs.Does.{Does, Moves}
use Rattle.js_machine.specs.Frames.{arguments_rest, target_call}
use Rattle.js_machine.specs.Parts.{items_of}
use Rattle.js_machine.proofs.Doing.{does_move, does_read, moves_on, moves_read}
use Rattle.js_primary.specs.declared.taking.Taken.{Taken}
use Rattle.js_primary.specs.declared.taking.Taken.TheVariants as taken
use Rattle.js_primary.specs.Giving.{Takes}
use Rattle.js_step_call.specs.Leading.{Reaches, spreads}

-- what is no spread is one value
plain : (o : Option Node) (argument : NodeId) (scope : Scope ℕ) (k : List (Value ℕ) → Prog ℕ) → spreads o ≡ false → values_of o argument scope k ≡ eval argument scope (λ v. k (v ∷ []))
unfolding spreads
plain (Some (kinds.Spread list)) argument scope k h = absurd (cc h)
plain other argument scope k h = refl

-- an argument that was evaluated in place is one value
module _ (nodes : List Node) (argument : NodeId) (scope : Scope ℕ) (k : List (Value ℕ) → Prog ℕ) (old new : State) (t : Taken ℕ) (single : spreads (slice_get nodes argument.0) ≡ false) (does : Takes nodes argument scope old new t) where
  one_is : values_of (slice_get nodes argument.0) argument scope k ≡ eval argument scope (λ v. k (v ∷ []))
  one_is = plain (slice_get nodes argument.0) argument scope k single

  one_taken : (v : Value ℕ) → t ≡ taken.Value v → Moves nodes (Read (λ w. values_of (slice_get w.tree argument.0) argument scope k)) old (k (v ∷ [])) new
  one_taken v e =
      let f : World ℕ → Prog ℕ = λ w. values_of (slice_get w.tree argument.0) argument scope k in
      let q : Prog ℕ = eval argument scope (λ u. k (u ∷ [])) in
      moves_on nodes (Read f) q (k (v ∷ [])) old old new (moves_read nodes f q old (λ supply. one_is)) (subst (Takes nodes argument scope old new) e does (λ u. k (u ∷ [])))

  one_ended : (next : Next) → t ≡ taken.Ended next → Does nodes 2 (Read (λ w. values_of (slice_get w.tree argument.0) argument scope k)) old new next
  one_ended next e =
      let f : World ℕ → Prog ℕ = λ w. values_of (slice_get w.tree argument.0) argument scope k in
      let q : Prog ℕ = eval argument scope (λ u. k (u ∷ [])) in
      does_read nodes 2 f q old new next (λ supply. one_is) (subst (Takes nodes argument scope old new) e does (λ u. k (u ∷ [])))

-- the argument at a place is evaluated, behind those before it
module _ (nodes : List Node) (node : NodeId) (scope : Scope ℕ) (start old new : State) (at next : ℕ) (argument : NodeId) (before : List (Value ℕ)) (t : Taken ℕ)
    (list : drop at (items_of (slice_get nodes node.0)) ≡ argument ∷ drop next (items_of (slice_get nodes node.0)))
    (single : spreads (slice_get nodes argument.0) ≡ false)
    (does : Takes nodes argument scope old new t) (reaches : Reaches nodes node scope start at before old) where
  here : (target : CallTarget ℕ) → arguments_rest nodes node at before target scope ≡ Read (λ w. values_of (slice_get w.tree argument.0) argument scope (λ vs. arguments_rest nodes node next (before ++ vs) target scope))
  here target = ap (λ l. arguments_from before l scope (λ vs. target_call nodes target vs)) list

  pub reaches_on : (v : Value ℕ) → t ≡ taken.Value v → Reaches nodes node scope start next (before ++ v ∷ []) new
  reaches_on v e = λ target.
      let k : List (Value ℕ) → Prog ℕ = λ vs. arguments_rest nodes node next (before ++ vs) target scope in
      let p : Prog ℕ = arguments_rest nodes node 0 [] target scope in
      let q : Prog ℕ = arguments_rest nodes node at before target scope in
      moves_on nodes p q (k (v ∷ [])) start old new (reaches target) (subst (λ r. Moves nodes r old (k (v ∷ [])) new) (sym (here target)) (one_taken nodes argument scope k old new t single does v e))

  pub reaches_ended : (ended : Next) → t ≡ taken.Ended ended → (target : CallTarget ℕ) → Does nodes 2 (arguments_rest nodes node 0 [] target scope) start new ended
  reaches_ended ended e target =
      let k : List (Value ℕ) → Prog ℕ = λ vs. arguments_rest nodes node next (before ++ vs) target scope in
      let p : Prog ℕ = arguments_rest nodes node 0 [] target scope in
      let q : Prog ℕ = arguments_rest nodes node at before target scope in
      does_move nodes 2 p q start old new ended (reaches target) (subst (λ r. Does nodes 2 r old new ended) (sym (here target)) (one_ended nodes argument scope k old new t single does ended e))
