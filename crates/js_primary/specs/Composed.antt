-- What evaluating a node in place comes to where nothing is done but that steps are taken (ECMA-262, 13.3.2 and 13.6 to 13.12).
use Rattle.std.specs.Prelude.{◌≡◌, ℕ, List, Bool, true, false, Option, Some, None}
use Rattle.world_heap.specs.declared.value.Value.{Value}
use Rattle.world_heap.specs.declared.cell.Cell.{Cell}
use Rattle.js_tree.specs.declared.node.NodeId.{NodeId}
use Rattle.js_tree.specs.declared.node.Node.{Node}
use Rattle.js_semantics.specs.declared.scope.Scope.{Scope}
use Rattle.js_semantics.specs.Prog.{Prog, eval, give}
use Rattle.js_machine.specs.declared.state.State.{State}
use Rattle.js_machine.specs.Closed.{ValueFits}
use Rattle.js_machine.specs.Does.{Moves, StepsDown}

-- a step is taken, or none is left and nothing is done
abbrev pub TakesStep : State → State → Bool → Type 0
TakesStep old new true = StepsDown old new true
TakesStep old new false = (old.steps ≡ 0) × (new ≡ old)

-- nothing but the steps has changed
abbrev pub OnlySteps : State → State → Type 0
OnlySteps old new = new ≡ record old { steps = new.steps }

-- A program that goes on with a value by k comes to k at this value, at once; or nothing is known of it.
abbrev pub ComesAt : List Node → ((Value ℕ → Prog ℕ) → Prog ℕ) → State → Option (Value ℕ) → Type 0
ComesAt nodes p s (Some v) = (k : Value ℕ → Prog ℕ) → Moves nodes (p k) s (k v) s
ComesAt nodes p s None = Unit {0}

-- A row gives a value and only steps are taken, or nothing is done.
abbrev pub RowWorks : List Node → Prog ℕ → State → State → Option (Value ℕ) → Type 0
RowWorks nodes p old new (Some v) = Moves nodes p old (give v) new × OnlySteps old new
RowWorks nodes p old new None = new ≡ old

-- A node is evaluated and only steps are taken, or nothing is done.
abbrev pub Works : List Node → NodeId → Scope ℕ → State → State → Option (Value ℕ) → Type 0
Works nodes node scope old new (Some v) = ((k : Value ℕ → Prog ℕ) → Moves nodes (eval node scope k) old (k v) new) × OnlySteps old new
Works nodes node scope old new None = new ≡ old

-- Two nodes are, one after the other, or nothing is done.
abbrev pub BothWork : List Node → (left right : NodeId) → Scope ℕ → State → State → Option (Value ℕ × Value ℕ) → Type 0
BothWork nodes left right scope old new (Some both) =
    ((k : Value ℕ → Value ℕ → Prog ℕ) → Moves nodes (eval left scope (λ x. eval right scope (λ y. k x y))) old (k both.0 both.1) new) × OnlySteps old new
BothWork nodes left right scope old new None = new ≡ old

-- two values fit a heap
abbrev pub BothFit : List (ℕ × Cell ℕ) → Value ℕ × Value ℕ → Type 0
BothFit cells both = ValueFits cells both.0 × ValueFits cells both.1
