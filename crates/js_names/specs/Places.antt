-- Where a name stands in an environment (ECMA-262, 9.1.1.1).
use Rattle.std.specs.Prelude.{ℕ, List, Option, Some, None, position, slice_get, option_map, nat_eq}
use Rattle.world_heap.specs.declared.value.Value.{Value}
use Rattle.world_heap.specs.declared.cell.Binding.{Binding}
use Rattle.world_heap.specs.declared.cell.Cell.{Cell}
use Rattle.world_heap.specs.declared.cell.Cell.TheVariants.{Env}
use Rattle.world_heap.specs.Maps.{put}
use Rattle.js_semantics.specs.Properties.{same_text}
use Rattle.js_semantics.specs.Environments.{rebound}
use Rattle.js_names.specs.declared.place.Seen.{Seen}
use Rattle.js_names.specs.declared.place.Seen.TheVariants.{Here, Outer, Nowhere}

module _ {L : Type 0} where
  -- the place of a name among bindings
  abbrev pub place_in : List (Binding L) → List ℕ → Option ℕ
  place_in bindings name = position (λ b. same_text b.name name) bindings

  -- what is seen of a name where no binding has it
  abbrev pub beyond : Option L → Seen L
  beyond None = Nowhere
  beyond (Some outer) = Outer outer

  abbrev pub here_or : Option ℕ → Option L → Seen L
  here_or (Some place) outer = Here place
  here_or None outer = beyond outer

  -- what is seen of a name in a cell: its place, the environment around, or nothing
  abbrev pub seen_in : Cell L → List ℕ → Seen L
  seen_in (Env outer bindings) name = here_or (place_in bindings name) outer
  seen_in other name = Nowhere

  -- the place of a name in a cell
  abbrev pub place_under : Option (Cell L) → List ℕ → Option ℕ
  place_under (Some (Env outer bindings)) name = place_in bindings name
  place_under other name = None

  -- the binding at a place of a cell
  abbrev pub binding_under : Option (Cell L) → ℕ → Option (Binding L)
  binding_under (Some (Env outer bindings)) place = slice_get bindings place
  binding_under other place = None

  -- the binding at a place of an environment, with the environment
  abbrev pub placed : (L → Option (Cell L)) → Option (L × ℕ) → Option (L × Binding L)
  placed cell None = None
  placed cell (Some found) = option_map (λ b. (found.0, b)) (binding_under (cell found.0) found.1)

-- the cells, where a name of an environment has a value
abbrev pub cells_bound : Option (Cell ℕ) → List (ℕ × Cell ℕ) → ℕ → List ℕ → Value ℕ → List (ℕ × Cell ℕ)
cells_bound (Some (Env outer bindings)) cells env name v = put nat_eq cells env (Env outer (rebound bindings name v))
cells_bound other cells env name v = cells
