-- Lists whose members are tested one after another, and the places of cells.
use Rattle.std.proofs.Common.{◌≡◌, ℕ, zero, suc, ◌+◌, ◌≤◌, ◌<◌, List, [], ◌∷◌, length, take, get_or, refl, arith, add-one}
use Rattle.std.specs.Prelude.{option_map}
use Rattle.std.specs.Prelude.{slice_get}
use Rattle.world_heap.specs.Over.{ListOver}
use Rattle.world_heap.specs.Maps.{keys}

over_take-suc : {A : Type 0} (P : A → Type 0) (xs : List A) (i : ℕ) (x : A) → ListOver P (take i xs) → i < length xs → x ≡ get_or xs i x → P x → ListOver P (take (suc i) xs)
over_take-suc P [] i x h le at p = absurd (omega arith)
over_take-suc P (y ∷ ys) zero x h le at p = (rw at at p, tt)
over_take-suc P (y ∷ ys) (suc i) x h le at p = (h.0, over_take-suc P ys i x h.1 (omega arith) at p)

-- one more member has the property
pub over_take : {A : Type 0} (P : A → Type 0) (xs : List A) (i : ℕ) (x : A) → ListOver P (take i xs) → i < length xs → x ≡ get_or xs i x → P x → ListOver P (take (i + 1) xs)
over_take P xs i x h le at p = rw add-one (over_take-suc P xs i x h le at p)

-- and at last all have it
pub over_all : {A : Type 0} (P : A → Type 0) (xs : List A) (i : ℕ) → length xs ≤ i → ListOver P (take i xs) → ListOver P xs
over_all P [] i le h = tt
over_all P (x ∷ xs) zero le h = absurd (omega arith)
over_all P (x ∷ xs) (suc i) le h = (h.0, over_all P xs i (omega arith) h.1)

-- the location of the cell at a place
pub keys_at : {L C : Type 0} (cells : List (L × C)) (i : ℕ) → slice_get (keys cells) i ≡ option_map (λ c. c.0) (slice_get cells i)
keys_at [] i = refl
keys_at (c ∷ cs) zero = refl
keys_at (c ∷ cs) (suc i) = keys_at cs i
