-- A heap that goes on: cells are made behind the others, and what stands stays what it was.
use Rattle.std.specs.Prelude.{◌≡◌, ℕ, nat_eq, false, List, ◌++◌, Some, Option}
use Rattle.world_heap.specs.declared.value.Value.{Value}
use Rattle.world_heap.specs.declared.cell.Cell.{Cell}
use Rattle.world_heap.specs.declared.cell.Cell.TheVariants.{Array}
use Rattle.world_heap.specs.Maps.{keys, find}
use Rattle.world_heap.specs.Heaps.{IsNoEnv, IsWell}

-- the location of an array that isn't frozen (ECMA-262, 20.1.2.6)
abbrev pub IsOpen : List (ℕ × Cell ℕ) → ℕ → Type 0
IsOpen cells l = (proto : Option ℕ) × (items : List (Value ℕ)) × (find nat_eq cells l ≡ Some (Array proto items false))

-- From the old cells to the new ones: new locations come behind, a cell that is no environment stays one, so does an
-- array that isn't frozen, and the heap stays well.
pub record Grows (old new : List (ℕ × Cell ℕ)) : Type 0 where
  pub behind : (more : List ℕ) × (keys new ≡ keys old ++ more)
  pub no_env : (l : ℕ) → IsNoEnv nat_eq old l → IsNoEnv nat_eq new l
  pub open_array : (l : ℕ) → IsOpen old l → IsOpen new l
  pub well : IsWell nat_eq old → IsWell nat_eq new
