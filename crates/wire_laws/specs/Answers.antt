-- A reader's answer is a value or a fault, and never both.
use Rattle.std.specs.Prelude.{◌≡◌, ◌⊎◌, Result, Ok, Err}

module _ {A F : Type 0} where
  abbrev pub IsOneOf : Result A F → Type 0
  IsOneOf read = (((value : A) × (read ≡ Ok value)) ⊎ ((fault : F) × (read ≡ Err fault)))
      × ((value : A) (fault : F) → read ≡ Ok value → read ≡ Err fault → ⊥)
