-- What is walked of a cell (ECMA-262, 23.1.5.1: an array; 24.1.5 and 24.2.5: the entries of a Map and of a Set).
use Rattle.std.specs.Prelude.{ℕ, [], Option, Some}
use Rattle.world_heap.specs.declared.cell.Cell.{Cell}
use Rattle.world_heap.specs.declared.cell.Cell.TheVariants as cells
use Rattle.js_semantics.specs.declared.fault.Fault.TheVariants.{NotIterable}
use Rattle.js_semantics.specs.Access.{make_array}
use Rattle.js_semantics.specs.Iteration.{push_entries, push_items}
use Rattle.js_semantics.specs.Prog.{Prog, throw}
use Rattle.js_iterate.specs.declared.walking.Walked.{Walked}
use Rattle.js_iterate.specs.declared.walking.Walked.TheVariants.{Itself, Values, Entries, Nothing}

-- what of a cell is walked
unfoldable pub walked_in : Option (Cell ℕ) → Walked ℕ
walked_in (Some (cells.Array proto items frozen)) = Itself
walked_in (Some (cells.Map body entries)) = Entries entries
walked_in (Some (cells.Set body values)) = Values values
walked_in other = Nothing

-- the array that is walked for it
unfoldable pub walk_found : Walked ℕ → ℕ → (ℕ → Prog ℕ) → Prog ℕ
walk_found Itself loc k = k loc
walk_found (Values values) loc k = make_array [] (λ array. push_items array values (k array))
walk_found (Entries entries) loc k = make_array [] (λ array. push_entries array entries (k array))
walk_found Nothing loc k = throw NotIterable
