-- What the calls answer: as the definition, but for memory, which may run out everywhere.
use Rattle.std.specs.Prelude.{◌≡◌, ℕ, List, ◌++◌, Option, Some, None, Result, Ok, Err}
use Rattle.parcel.specs.declared.parcel.PNode.{PNode}
use Rattle.wire_input.specs.Input.{Placed}
use Rattle.wire_input.specs.declared.InputFault.{InputFault}
use Rattle.wire_input.specs.declared.InputFault.TheVariants.{Json, Shape, Memory}

abbrev pub Answers : {A : Type 0} → Result A InputFault → Result A InputFault → Type 0
Answers (Ok value) told = told ≡ Ok value
Answers (Err Memory) told = Unit {0}
Answers (Err Shape) told = told ≡ Err Shape
Answers (Err Json) told = told ≡ Err Json

-- A part was placed, and its nodes stand behind those that stood before.
abbrev pub Places : {A : Type 0} → Result A InputFault → List PNode → List PNode → Placed A → Type 0
Places (Ok value) old new told = (nodes : List PNode) × (told ≡ Some (value, nodes)) × (new ≡ old ++ nodes)
Places (Err Memory) old new told = Unit {0}
Places (Err Shape) old new told = told ≡ None
Places (Err Json) old new told = ⊥

-- A text is given where it isn't too long.
abbrev pub TextAnswers : Result (List ℕ) InputFault → Option (List ℕ) → Type 0
TextAnswers (Ok units) told = told ≡ Some units
TextAnswers (Err Memory) told = Unit {0}
TextAnswers (Err Shape) told = told ≡ None
TextAnswers (Err Json) told = ⊥
