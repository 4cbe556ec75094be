-- Freezing an object (ECMA-262, 7.3.15: SetIntegrityLevel).
use Rattle.std.specs.Prelude.{◌≡◌, ℕ, Bool, true, false, List, map, Option, Some, None, nat_eq}
use Rattle.std.specs.Option.{option_map_or}
use Rattle.world_heap.specs.declared.value.Value.{Value}
use Rattle.world_heap.specs.declared.value.Property.{Property}
use Rattle.world_heap.specs.declared.value.Property.TheVariants.{Data, Access}
use Rattle.world_heap.specs.declared.cell.Body.{Body}
use Rattle.world_heap.specs.declared.cell.Cell.{Cell}
use Rattle.world_heap.specs.declared.cell.Cell.TheVariants.{Array, View}
use Rattle.world_heap.specs.Maps.{find, put}
use Rattle.world_heap.specs.Bodies.{body_of, with_body}

module _ {L : Type 0} where
  -- a property that can be neither written nor redefined nor deleted
  abbrev pub frozen_property : Property L → Property L
  frozen_property (Data v w e c) = Data v false e false
  frozen_property (Access g s e c) = Access g s e false

  abbrev pub frozen_entry : List ℕ × Property L → List ℕ × Property L
  frozen_entry m = (m.0, frozen_property m.1)

  -- a body of such properties that can't be extended
  abbrev pub frozen_body : Body L → Body L
  frozen_body b = record b { properties = map frozen_entry b.properties; extensible = false }

  -- An array's elements can't be written any more, and a body's properties neither.
  abbrev pub frozen_cell : Cell L → Cell L
  frozen_cell (Array p vs f) = Array p vs true
  frozen_cell c = option_map_or (λ b. with_body c (frozen_body b)) (body_of c) c

  -- a cell that is no view with elements
  abbrev pub IsFreezable : Option (Cell L) → Type 0
  IsFreezable None = Unit {0}
  IsFreezable (Some (View b l o n)) = n ≡ 0
  IsFreezable (Some c) = Unit {0}

-- the heap with the cell at a location frozen
abbrev pub cells_frozen : List (ℕ × Cell ℕ) → ℕ → List (ℕ × Cell ℕ)
cells_frozen cells l = option_map_or (λ c. put nat_eq cells l (frozen_cell c)) (find nat_eq cells l) cells

-- an array of this prototype stands at the location
abbrev pub IsArrayAt : List (ℕ × Cell ℕ) → ℕ → Option ℕ → Type 0
IsArrayAt cells l proto = (vs : List (Value ℕ)) × (f : Bool) × (find nat_eq cells l ≡ Some (Array proto vs f))
