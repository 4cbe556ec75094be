-- Tables from names to what stands under them, as lists in the order in which the names were first put.
use Rattle.std.specs.Prelude.{ℕ, List, Option, nat_eq}
use Rattle.std.specs.Cmp.Lexicographic.{pointwise}
use Rattle.std.specs.Map.{lookup, keys_of}
use Rattle.std.specs.List.{IsDistinct}
use Rattle.indexmap.specs.IndexMap.{insert_entry, shift_remove_entry}

module _ {V : Type 0} where
  -- no two names are the same
  abbrev pub HasDistinctNames : List (List ℕ × V) → Type 0
  HasDistinctNames entries = IsDistinct (pointwise nat_eq) (keys_of entries)

  -- what stands under the name
  abbrev pub found_under : List (List ℕ × V) → List ℕ → Option V
  found_under entries name = lookup (pointwise nat_eq name) entries

  -- the value under the name, which keeps its place where it stands and goes last where it is new
  abbrev pub put_under : List (List ℕ × V) → List ℕ → V → List (List ℕ × V)
  put_under entries name value = insert_entry (pointwise nat_eq) entries name value

  -- without the name; the others keep their order
  abbrev pub left_without : List (List ℕ × V) → List ℕ → List (List ℕ × V)
  left_without entries name = shift_remove_entry (pointwise nat_eq name) entries
