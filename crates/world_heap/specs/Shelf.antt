-- Values of several owners: each owner with the list of its values and their locations.
use Rattle.std.specs.Prelude.{◌≡◌, ℕ, List, [], ◌∷◌, false, nat_eq, unwrap_or}
use Rattle.world_heap.specs.Maps.{keys, find, stands, Stands}

module _ {T : Type 0} where
  -- the values of an owner
  abbrev pub values_of : List (ℕ × List (ℕ × T)) → ℕ → List (ℕ × T)
  values_of maps owner = unwrap_or (find nat_eq maps owner) []

  -- the owner has a value at the location
  abbrev pub IsAmong : List (ℕ × List (ℕ × T)) → ℕ → ℕ → Type 0
  IsAmong maps owner loc = Stands (keys (values_of maps owner)) loc

  -- no owner has a value at the location
  abbrev pub Apart : List (ℕ × List (ℕ × T)) → ℕ → Type 0
  Apart [] loc = Unit {0}
  Apart (m ∷ ms) loc = (stands nat_eq (keys m.1) loc ≡ false) × Apart ms loc
