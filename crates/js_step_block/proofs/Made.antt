-- The functions of items are made one after another.
use Rattle.std.proofs.Common.{◌≡◌, ℕ, List, [], ◌∷◌, true, false, Option, Some, None, Result, Ok, Err, refl, arith}
use Rattle.std.specs.Prelude.{slice_get}
use Rattle.js_tree.specs.declared.node.NodeId.{NodeId}
use Rattle.js_tree.specs.declared.node.Function.{Function}
use Rattle.js_tree.specs.declared.node.Node.{Node}
use Rattle.js_tree.specs.declared.node.Node.TheVariants as kinds
use Rattle.world_heap.specs.declared.cell.Binding.{Binding}
use Rattle.js_semantics.specs.declared.scope.Scope.{Scope}
use Rattle.js_semantics.specs.Environments.{env_cell}
use Rattle.js_semantics.specs.Prog.{Prog, Read, alloc}
use Rattle.js_semantics.specs.Statements.{enter_block, fill_function, fill_functions, inside, run_items}
use Rattle.js_machine.specs.declared.state.State.{State}
use Rattle.js_machine.specs.declared.state.Next.{Next}
use Rattle.js_machine.specs.Does.{Does, Moves}
use Rattle.js_machine.proofs.Doing.{allowing, does_move, moves_on, moves_read, moves_still}
use Rattle.js_step_object.specs.Defining.{Comes, Makes}

-- an item that declares no function
pub fill_other : (nodes : List Node) (here : Node) (item : NodeId) (env : ℕ) (s : State) → ((name : List ℕ) (function : Function) → here ≡ kinds.FunDecl name function → ⊥) → Comes nodes (λ p. fill_function (Some here) item env p) s s None
fill_other nodes (kinds.FunDecl name function) item env s differs = absurd (differs name function refl)
fill_other nodes other item env s differs = λ p. moves_still nodes p s

-- a location that is made
pub made_then : (nodes : List Node) (f : (ℕ → Prog ℕ) → Prog ℕ) (old mid : State) (made : Result ℕ Next) (loc : ℕ) (k : ℕ → Prog ℕ) → made ≡ Ok loc → Makes nodes f old mid made → Moves nodes (f k) old (k loc) mid
made_then nodes f old mid made loc k is h = let g : Makes nodes f old mid (Ok loc) = rw is at h in g k

pub made_ended : (nodes : List Node) (f : (ℕ → Prog ℕ) → Prog ℕ) (old new : State) (made : Result ℕ Next) (next : Next) (k : ℕ → Prog ℕ) → made ≡ Err next → Makes nodes f old new made → Does nodes 2 (f k) old new next
made_ended nodes f old new made next k is h = let g : Makes nodes f old new (Err next) = rw is at h in g k

module _ (nodes : List Node) (env : ℕ) (items rest more : List NodeId) (item : NodeId) (start now next : State) (so_far : (p : Prog ℕ) → Moves nodes (fill_functions items env p) start (fill_functions rest env p) now) (is : rest ≡ item ∷ more) where
  -- the function of one item more
  first : (p : Prog ℕ) → Moves nodes (fill_functions items env p) start (fill_function (slice_get nodes item.0) item env (fill_functions more env p)) now
  first p =
      let q : Prog ℕ = fill_function (slice_get nodes item.0) item env (fill_functions more env p) in
      let step : fill_functions rest env p ≡ Read (λ w. fill_function (slice_get w.tree item.0) item env (fill_functions more env p)) = rw is refl in
      moves_on nodes _ _ q start now now (rw step at (so_far p)) (moves_read nodes (λ w. fill_function (slice_get w.tree item.0) item env (fill_functions more env p)) q now (λ supply. refl))

  pub fill_more : Comes nodes (λ p. fill_function (slice_get nodes item.0) item env p) now next None → (p : Prog ℕ) → Moves nodes (fill_functions items env p) start (fill_functions more env p) next
  fill_more h p = moves_on nodes _ _ _ start now next (first p) (h (fill_functions more env p))

  pub fill_ended : (made : Next) → Comes nodes (λ p. fill_function (slice_get nodes item.0) item env p) now next (Some made) → Comes nodes (λ p. fill_functions items env p) start next (Some made)
  fill_ended made h = λ p. does_move nodes 2 _ _ start now next made (first p) (h (fill_functions more env p))

-- all are made
pub fill_done : (nodes : List Node) (env : ℕ) (items rest : List NodeId) (start now : State) → ((p : Prog ℕ) → Moves nodes (fill_functions items env p) start (fill_functions rest env p) now) → rest ≡ [] → Comes nodes (λ p. fill_functions items env p) start now None
fill_done nodes env items rest start now h is = λ p. rw is at (h p)

-- a list that a test finds not to be empty
pub not_empty : (bindings : List (Binding ℕ)) → (bindings ≡ [] → false ≡ true) → bindings ≡ [] → ⊥
not_empty bindings f e = let h : false ≡ true = f e in cc

-- a block with names has an environment
pub block_named : (bindings : List (Binding ℕ)) (items : List NodeId) (scope : Scope ℕ) → (bindings ≡ [] → ⊥) → enter_block bindings items scope ≡ alloc (env_cell (Some scope.env) bindings) (λ env. fill_functions items env (run_items items (inside env scope)))
block_named [] items scope some = absurd (some refl)
block_named (b ∷ bs) items scope some = refl

-- what is done in parts, and what follows it
pub come_then : (nodes : List Node) (f : Prog ℕ → Prog ℕ) (old mid : State) (ended : Option Next) (p : Prog ℕ) → ended ≡ None → Comes nodes f old mid ended → Moves nodes (f p) old p mid
come_then nodes f old mid ended p is h = let g : Comes nodes f old mid None = rw is at h in g p

pub come_ended : (nodes : List Node) (f : Prog ℕ → Prog ℕ) (old new : State) (ended : Option Next) (next : Next) (p : Prog ℕ) → ended ≡ Some next → Comes nodes f old new ended → Does nodes 6 (f p) old new next
come_ended nodes f old new ended next p is h = let g : Comes nodes f old new (Some next) = rw is at h in allowing nodes 2 6 (f p) old new next (omega arith) (g p)
