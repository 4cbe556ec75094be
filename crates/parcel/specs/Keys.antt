-- Property keys in their order (ECMA-262, 10.1.11 OrdinaryOwnPropertyKeys; array indices: 6.1.7, The Object Type).
use Rattle.std.specs.Prelude.{ℕ, suc, ◌&&◌, nat_le, Bool, true, false, not, List, [], ◌∷◌, Option, Some, None, nat_eq}
use Rattle.std.specs.Cmp.Lexicographic.{pointwise}
use Rattle.std.specs.List.{list_any}
use Rattle.wl_text.specs.Number.{index_of}

-- The least index that the next key may be, once an index was met: the one above. After a name no index may come.
abbrev pub index_after : Option ℕ → Option ℕ
index_after None = None
index_after (Some index) = Some (suc index)

-- A name may always come; an index only where it isn't below the least one that is still allowed.
abbrev pub may_come : Option ℕ → Option ℕ → Bool
may_come least None = true
may_come None (Some index) = false
may_come (Some least) (Some index) = nat_le least index

-- array indices first, ascending; then the other keys
unfoldable pub are_in_order : Option ℕ → List (List ℕ) → Bool
are_in_order least [] = true
are_in_order least (key ∷ keys) = may_come least (index_of key) && are_in_order (index_after (index_of key)) keys

-- no key stands twice
unfoldable pub are_distinct : List (List ℕ) → Bool
are_distinct [] = true
are_distinct (key ∷ keys) = not (list_any (pointwise nat_eq key) keys) && are_distinct keys

-- distinct keys in the order of properties
abbrev pub are_keys : List (List ℕ) → Bool
are_keys keys = are_in_order (Some 0) keys && are_distinct keys
