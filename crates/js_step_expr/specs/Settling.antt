-- What a part of a row comes to that gives a value, or ends the step.
use Rattle.std.specs.Prelude.{ℕ, List, Result, Ok, Err}
use Rattle.world_heap.specs.declared.value.Value.{Value}
use Rattle.js_tree.specs.declared.node.Node.{Node}
use Rattle.js_semantics.specs.Prog.{Prog}
use Rattle.js_machine.specs.declared.state.State.{State}
use Rattle.js_machine.specs.declared.state.Next.{Next}
use Rattle.js_machine.specs.Does.{Does, Moves}

-- A program that goes on with a value by k either comes to k at that value, or is done by a step.
abbrev pub Settles : List Node → Prog ℕ → (Value ℕ → Prog ℕ) → State → State → Result (Value ℕ) Next → Type 0
Settles nodes p k old new (Ok v) = Moves nodes p old (k v) new
Settles nodes p k old new (Err next) = Does nodes 2 p old new next
