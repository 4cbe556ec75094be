-- A store of values as the list of its slots, each with a value or vacant.
use Rattle.std.specs.Prelude.{◌≡◌, ℕ, List, Option, Some, is_none, count_by, slice_get}

module _ {T : Type 0} where
  -- how many slots are vacant
  abbrev pub vacancies : List (Option T) → ℕ
  vacancies slots = count_by is_none slots

  -- the slot has a value
  abbrev pub IsFilled : List (Option T) → ℕ → Type 0
  IsFilled slots at = (value : T) × (slice_get slots at ≡ Some (Some value))
