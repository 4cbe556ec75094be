-- How a store keeps its slots. No public clause cites this module.
use Rattle.std.specs.Prelude.{◌≡◌, ◌≢◌, ℕ, List, [], ◌∷◌, length, Option, Some, None, slice_get}
use Rattle.cell_chunks.specs.Slots.{vacancies}

-- each member has the property
abbrev pub Each : {A : Type 0} → (A → Type 0) → List A → Type 0
Each P [] = Unit {0}
Each P (x ∷ xs) = P x × Each P xs

-- no number stands twice
abbrev pub IsApart : List ℕ → Type 0
IsApart [] = Unit {0}
IsApart (x ∷ xs) = Each (λ y. x ≢ y) xs × IsApart xs

module _ {T : Type 0} where
  -- the stack has each vacant slot once, and no other
  pub record IsStack (places : List (Option T)) (stack : List ℕ) : Type 0 where
    pub vacant : Each (λ s. slice_get places s ≡ Some None) stack
    pub apart : IsApart stack
    pub counted : length stack ≡ vacancies places
