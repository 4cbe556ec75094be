-- What comes of a node whose value is at hand (ECMA-262, 13.1 and 13.2).
use Rattle.std.specs.Prelude.{◌≡◌, ℕ, true, false, List, Option, Some, None, slice_get}
use Rattle.world_heap.specs.declared.value.Value.{Value}
use Rattle.world_heap.specs.declared.cell.Cell.{Cell}
use Rattle.js_tree.specs.declared.node.NodeId.{NodeId}
use Rattle.js_tree.specs.declared.node.Node.{Node}
use Rattle.js_tree.specs.declared.node.Node.TheVariants as kinds
use Rattle.world_log.specs.declared.entry.Product.TheVariants.{Stopped}
use Rattle.world_log.specs.declared.entry.Stop.TheVariants.{Fuel}
use Rattle.js_semantics.specs.declared.scope.Scope.{Scope}
use Rattle.js_semantics.specs.World.{World}
use Rattle.js_semantics.specs.Access.{read_name}
use Rattle.js_semantics.specs.Prog.{Prog, Cont, bind, eval, give, step}
use Rattle.js_semantics.specs.Run.{Arrival, Budget, run}
use Rattle.js_machine.specs.declared.state.State.{State}
use Rattle.js_machine.specs.declared.state.Next.TheVariants.{Made}
use Rattle.js_machine.specs.Closed.{ValueFits}
use Rattle.js_machine.specs.Does.{Does, Moves, StepsDown}
use Rattle.js_primary.specs.declared.taking.Taken.{Taken}
use Rattle.js_primary.specs.declared.taking.Taken.TheVariants as taken

-- In this world one program is as another, whatever may still be done and whatever follows.
abbrev pub ComesTo : Prog ℕ → World ℕ → Prog ℕ → Type 0
ComesTo p w q = (ds : List Arrival) (b : Budget) (k : Cont ℕ) → run ds b w (bind p k) ≡ run ds b w (bind q k)

-- In this world a program gives a value, for nothing.
abbrev pub Gives : Prog ℕ → World ℕ → Value ℕ → Type 0
Gives p w v = ComesTo p w (give v)

-- A step is taken and the value kept, or none was left.
abbrev pub StepsTo : Value ℕ → State → State → Taken ℕ → Type 0
StepsTo value old new (taken.Value v) = (v ≡ value) × StepsDown old new true
StepsTo value old new (taken.Ended next) = (next ≡ Made (Stopped Fuel)) × StepsDown old new false
StepsTo value old new taken.Nothing = ⊥

-- where a value is at hand its step is taken, or none was left; else nothing is done
abbrev pub TakesGiven : Option (Value ℕ) → State → State → Taken ℕ → Type 0
TakesGiven (Some value) old new t = StepsTo value old new t
TakesGiven None old new t = (t ≡ taken.Nothing) × (new ≡ old)

-- where a value is at hand its step is taken, or none was left
abbrev pub TakesAtHand : Option (Value ℕ) → State → State → Taken ℕ → Type 0
TakesAtHand (Some value) old new t = StepsTo value old new t
TakesAtHand None old new t = Unit {0}

-- A program that goes on with a value by k comes to k at the value taken, or the world has stopped; or else nothing is done.
abbrev pub Comes : List Node → Prog ℕ → (Value ℕ → Prog ℕ) → State → State → Taken ℕ → Type 0
Comes nodes p k old new (taken.Value v) = Moves nodes p old (k v) new
Comes nodes p k old new (taken.Ended next) = Does nodes 2 p old new next
Comes nodes p k old new taken.Nothing = new ≡ old

-- something was done
abbrev pub IsTaken : Taken ℕ → Type 0
IsTaken (taken.Value v) = Unit {0}
IsTaken (taken.Ended next) = Unit {0}
IsTaken taken.Nothing = ⊥

-- A node is evaluated in place, or nothing is done.
abbrev pub Takes : List Node → NodeId → Scope ℕ → State → State → Taken ℕ → Type 0
Takes nodes node scope old new t = (k : Value ℕ → Prog ℕ) → Comes nodes (eval node scope k) k old new t

-- A name that is the target of an assignment is read from an environment on.
pub record ReadsName (nodes : List Node) (node : NodeId) (env : ℕ) (old new : State) (t : Taken ℕ) : Type 0 where
  pub name : List ℕ
  pub is : slice_get nodes node.0 ≡ Some (kinds.Name name)
  pub reads : (absent : Prog ℕ) (k : Value ℕ → Prog ℕ) → Comes nodes (step (read_name env name absent k)) k old new t

-- The target of an assignment is a name that is read, or nothing is done.
abbrev pub TakesBound : List Node → NodeId → ℕ → State → State → Taken ℕ → Type 0
TakesBound nodes node env old new (taken.Value v) = ReadsName nodes node env old new (taken.Value v)
TakesBound nodes node env old new (taken.Ended next) = ReadsName nodes node env old new (taken.Ended next)
TakesBound nodes node env old new taken.Nothing = new ≡ old

-- what was taken fits a heap
abbrev pub TakenFits : List (ℕ × Cell ℕ) → Taken ℕ → Type 0
TakenFits cells (taken.Value v) = ValueFits cells v
TakenFits cells (taken.Ended next) = Unit {0}
TakenFits cells taken.Nothing = Unit {0}
