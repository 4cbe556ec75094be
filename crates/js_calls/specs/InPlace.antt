-- Parameters that are bound in place, from the first on (ECMA-262, 10.2.11).
use Rattle.std.specs.Prelude.{◌≡◌, ℕ, List, Result, Ok, Err}
use Rattle.world_heap.specs.declared.value.Value.{Value}
use Rattle.js_tree.specs.declared.node.NodeId.{NodeId}
use Rattle.js_tree.specs.declared.node.Node.{Node}
use Rattle.js_semantics.specs.declared.scope.Scope.{Scope}
use Rattle.js_semantics.specs.Prog.{Prog}
use Rattle.js_machine.specs.declared.state.State.{State}
use Rattle.js_machine.specs.declared.state.Next.{Next}
use Rattle.js_machine.specs.Does.{Does, Moves}
use Rattle.js_machine.specs.Frames.{parameters_rest}
use Rattle.js_calls.specs.declared.in_place.Bound.{Bound}
use Rattle.js_calls.specs.declared.in_place.Bound.TheVariants as bounds

-- A program that binds a value has come to what follows, or the world has stopped; or else nothing is done.
abbrev pub Binds : List Node → Prog ℕ → Prog ℕ → State → State → Bound → Type 0
Binds nodes p q old new bounds.Done = Moves nodes p old q new
Binds nodes p q old new (bounds.Ended next) = Does nodes 2 p old new next
Binds nodes p q old new bounds.Nothing = new ≡ old

-- The parameters before a place are bound, or the world has stopped in one.
abbrev pub BindsTo : List Node → NodeId → List (Value ℕ) → Scope ℕ → State → State → Result ℕ Next → Type 0
BindsTo nodes node arguments scope old new (Ok at) = Moves nodes (parameters_rest nodes node 0 arguments scope) old (parameters_rest nodes node at arguments scope) new
BindsTo nodes node arguments scope old new (Err next) = Does nodes 2 (parameters_rest nodes node 0 arguments scope) old new next
