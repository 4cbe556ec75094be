-- Sets of kinds of tokens, as lists of numbers.
use Rattle.std.specs.Prelude.{◌==◌, Bool, true, false, ℕ, List, [], ◌∷◌, if◌then◌else◌}

unfoldable pub among : List ℕ → ℕ → Bool
among [] kind = false
among (x ∷ xs) kind = if x == kind then true else among xs kind

-- those that pass a test
unfoldable pub kept : (ℕ → Bool) → List ℕ → List ℕ
kept test [] = []
kept test (x ∷ xs) = if test x then x ∷ kept test xs else kept test xs

-- No kind is in both.
unfoldable pub apart : List ℕ → List ℕ → Bool
apart [] ys = true
apart (x ∷ xs) ys = if among ys x then false else apart xs ys

-- The first holds all of the second.
unfoldable pub covers : List ℕ → List ℕ → Bool
covers xs [] = true
covers xs (y ∷ ys) = if among xs y then covers xs ys else false

-- The two lists are one.
unfoldable pub alike : List ℕ → List ℕ → Bool
alike [] [] = true
alike [] (y ∷ ys) = false
alike (x ∷ xs) [] = false
alike (x ∷ xs) (y ∷ ys) = if x == y then alike xs ys else false

abbrev pub and : Bool → Bool → Bool
and true b = b
and false b = false

abbrev pub not : Bool → Bool
not true = false
not false = true
