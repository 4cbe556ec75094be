-- How a store keeps the values of its owners: in slots, with a list of the slots of each owner. No public clause cites
-- this module but for `IsDistinct`.
use Rattle.std.specs.Prelude.{◌≡◌, ℕ, zero, suc, ◌+◌, ◌≤◌, List, [], ◌∷◌, ◌++◌, length, Option, Some, None, slice_index_or, nat_eq, false, if◌then◌else◌}
use Rattle.cell_chunks.specs.Slots.{vacancies}
use Rattle.world_heap.specs.declared.store.Region.{Region}
use Rattle.world_heap.specs.Maps.{stands}
use Rattle.world_heap.specs.Over.{ListOver}

-- how many times the number stands in the list
abbrev pub times : ℕ → List ℕ → ℕ
times k [] = 0
times k (x ∷ xs) = (if nat_eq k x then 1 else 0) + times k xs

-- the slots of all owners
abbrev pub all_own : List Region → List ℕ
all_own [] = []
all_own (r ∷ rs) = r.own ++ all_own rs

-- no number stands twice
abbrev pub IsDistinct : List ℕ → Type 0
IsDistinct [] = Unit {0}
IsDistinct (x ∷ xs) = (stands nat_eq xs x ≡ false) × IsDistinct xs

abbrev pub owners : List Region → List ℕ
owners [] = []
owners (r ∷ rs) = r.owner ∷ owners rs

module _ {T : Type 0} where
  abbrev pub size_of : Option T → ℕ
  size_of None = 0
  size_of (Some v) = 1

  -- 1 where the slot is filled, and 0 where it is vacant or isn't there
  abbrev pub filled_at : List (Option T) → ℕ → ℕ
  filled_at slots k = size_of (slice_index_or slots k None)

  abbrev pub with_value : ℕ → Option T → List (ℕ × T) → List (ℕ × T)
  with_value l None cs = cs
  with_value l (Some v) cs = (l, v) ∷ cs

  -- the values in these slots, each with its slot
  abbrev pub gathered : List (Option T) → List ℕ → List (ℕ × T)
  gathered slots [] = []
  gathered slots (l ∷ ls) = with_value l (slice_index_or slots l None) (gathered slots ls)

  -- each owner with its values
  abbrev pub maps : List (Option T) → List Region → List (ℕ × List (ℕ × T))
  maps slots [] = []
  maps slots (r ∷ rs) = (r.owner, gathered slots r.own) ∷ maps slots rs

  -- A slot is filled exactly where it stands among these, and then once.
  pub record IsHeld (slots : List (Option T)) (held : List ℕ) : Type 0 where
    pub once : (k : ℕ) → times k held ≡ filled_at slots k
    pub counted : length slots ≡ vacancies slots + length held

  -- the slots of all owners are the filled ones, and no owner stands twice
  pub record IsStored (slots : List (Option T)) (regions : List Region) : Type 0 where
    pub held : IsHeld slots (all_own regions)
    pub distinct : IsDistinct (owners regions)

-- each slot of a region is marked with its owner
abbrev pub AreMarked : List (Option ℕ) → List Region → Type 0
AreMarked marks [] = Unit {0}
AreMarked marks (r ∷ rs) = ListOver (λ l. slice_index_or marks l None ≡ Some r.owner) r.own × AreMarked marks rs

-- A slot is marked with its owner where it is filled, and else it has no mark.
pub record IsMarked {T : Type 0} (slots : List (Option T)) (marks : List (Option ℕ)) (regions : List Region) : Type 0 where
  pub long : length slots ≤ length marks
  pub marked : AreMarked marks regions
  pub bare : (k : ℕ) → filled_at slots k ≡ 0 → slice_index_or marks k None ≡ None

-- the place of the first region of an owner
abbrev pub IsAt : List Region → ℕ → ℕ → Type 0
IsAt [] owner at = ⊥
IsAt (r ∷ rs) owner zero = r.owner ≡ owner
IsAt (r ∷ rs) owner (suc at) = (nat_eq r.owner owner ≡ false) × IsAt rs owner at
