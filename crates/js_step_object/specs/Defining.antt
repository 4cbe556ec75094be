-- What a function does that defines a property, or makes something, in a row (ECMA-262, 7.3.5 and 10.2.3).
use Rattle.std.specs.Prelude.{◌≡◌, ℕ, List, Option, Some, None, Result, Ok, Err, nat_eq}
use Rattle.std.specs.Option.{option_and_then}
use Rattle.js_tree.specs.declared.node.Node.{Node}
use Rattle.world_heap.specs.declared.value.Property.{Property}
use Rattle.world_heap.specs.declared.cell.Cell.{Cell}
use Rattle.world_heap.specs.declared.cell.Body.{Body}
use Rattle.world_heap.specs.Maps.{find}
use Rattle.world_heap.specs.Bodies.{body_of}
use Rattle.world_heap.specs.Table.{found_under}
use Rattle.js_semantics.specs.Prog.{Prog}
use Rattle.js_semantics.specs.Access.{define}
use Rattle.js_machine.specs.declared.state.State.{State}
use Rattle.js_machine.specs.declared.state.Next.{Next}
use Rattle.js_machine.specs.Does.{Does, Moves}

-- the body of the cell at a location, where there is one
abbrev pub body_at : List (ℕ × Cell ℕ) → ℕ → Option (Body ℕ)
body_at cells loc = option_and_then body_of (find nat_eq cells loc)

-- what stands under a key of a body
abbrev pub under_key : Option (Body ℕ) → List ℕ → Option (Property ℕ)
under_key None key = None
under_key (Some body) key = found_under body.properties key

-- what stands under a key of an object
abbrev pub standing : List (ℕ × Cell ℕ) → ℕ → List ℕ → Option (Property ℕ)
standing cells loc key = under_key (body_at cells loc) key

-- From old, a program that goes on with p comes to p in new; or the row has ended there.
abbrev pub Comes : List Node → (Prog ℕ → Prog ℕ) → State → State → Option Next → Type 0
Comes nodes f old new None = (p : Prog ℕ) → Moves nodes (f p) old p new
Comes nodes f old new (Some next) = (p : Prog ℕ) → Does nodes 2 (f p) old new next

-- the same of a program that goes on with a location
abbrev pub Makes : List Node → ((ℕ → Prog ℕ) → Prog ℕ) → State → State → Result ℕ Next → Type 0
Makes nodes f old new (Ok loc) = (k : ℕ → Prog ℕ) → Moves nodes (f k) old (k loc) new
Makes nodes f old new (Err next) = (k : ℕ → Prog ℕ) → Does nodes 2 (f k) old new next

-- The property is defined, whichever way it is made of what stands under the key.
abbrev pub Defines : List Node → ℕ → List ℕ → Property ℕ → State → State → Option Next → Type 0
Defines nodes loc key property old new ended =
    (make : Option (Property ℕ) → Property ℕ) → make (standing old.heap.cells loc key) ≡ property → Comes nodes (λ p. define loc key make p) old new ended
