-- The own keys of a cell (ECMA-262, 10.1.11: array indices ascending, then strings in the order of their creation;
-- 10.4.2: arrays; 10.4.5: views).
use Rattle.std.specs.Prelude.{ℕ, zero, suc, min, List, [], ◌∷◌, ◌++◌, length, map, filter, filter_map, is_none, if◌then◌else◌, nat_le, codes, decimal}
use Rattle.std.specs.Option.{option_map_or}
use Rattle.std.specs.Map.{keys_of}
use Rattle.wl_text.specs.Number.{index_of}
use Rattle.world_heap.specs.declared.cell.Cell.{Cell}
use Rattle.world_heap.specs.declared.cell.Cell.TheVariants.{Array, View}
use Rattle.world_heap.specs.Bodies.{body_of}

-- a number among numbers that ascend
abbrev pub inserted : ℕ → List ℕ → List ℕ
inserted n [] = n ∷ []
inserted n (x ∷ xs) = if nat_le n x then n ∷ x ∷ xs else x ∷ inserted n xs

-- the numbers, ascending
abbrev pub ascending : List ℕ → List ℕ
ascending [] = []
ascending (x ∷ xs) = inserted x (ascending xs)

-- the names that are array indices, as numbers, and the others
abbrev pub indices_of : List (List ℕ) → List ℕ
indices_of names = filter_map index_of names

abbrev pub others_of : List (List ℕ) → List (List ℕ)
others_of names = filter (λ name. is_none (index_of name)) names

-- array indices ascending, then the other names in their order
unfoldable pub ordered_names : List (List ℕ) → List (List ℕ)
ordered_names names = map decimal (ascending (indices_of names)) ++ others_of names

-- the array indices below a number
abbrev pub index_names : ℕ → List (List ℕ)
index_names zero = []
index_names (suc n) = index_names n ++ decimal n ∷ []

-- the own keys of a cell; an array has its indices and `length`, a view its indices before the keys of its body
abbrev pub own_keys : {L : Type 0} → Cell L → List (List ℕ)
own_keys (Array p vs f) = index_names (min (length vs) 9_007_199_254_740_991) ++ codes "length" ∷ []
own_keys (View b l o n) = index_names n ++ ordered_names (keys_of b.properties)
own_keys c = option_map_or (λ b. ordered_names (keys_of b.properties)) (body_of c) []
