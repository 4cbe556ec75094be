-- Deleting a property (ECMA-262, 10.1.10: ordinary objects; 10.4.2: arrays; 10.4.5.6: views).
use Rattle.std.specs.Prelude.{ℕ, Bool, true, false, List, length, Option, Some, None, if◌then◌else◌, nat_lt, nat_eq}
use Rattle.std.specs.Option.{option_and_then, option_map_or}
use Rattle.wl_text.specs.Number.{index_of}
use Rattle.world_heap.specs.declared.value.Property.{Property}
use Rattle.world_heap.specs.declared.value.Property.TheVariants.{Data, Access}
use Rattle.world_heap.specs.declared.cell.Body.{Body}
use Rattle.world_heap.specs.declared.cell.Cell.{Cell}
use Rattle.world_heap.specs.declared.cell.Cell.TheVariants.{Array, View}
use Rattle.world_heap.specs.Maps.{find}
use Rattle.world_heap.specs.Table.{found_under, left_without}
use Rattle.world_heap.specs.Bodies.{body_of, rebodied}
use Rattle.proto_props.specs.declared.remove.Removal.{Removal}
use Rattle.proto_props.specs.declared.remove.Removal.TheVariants.{Absent, Fixed, Free}
use Rattle.proto_props.specs.Own.{is_length, is_index_below}

module _ {L : Type 0} where
  -- whether a property may be removed
  abbrev pub is_configurable : Property L → Bool
  is_configurable (Data v w e c) = c
  is_configurable (Access g s e c) = c

  -- what becomes of a property that is to be removed
  abbrev pub removal_of : Option (Property L) → Removal
  removal_of None = Absent
  removal_of (Some p) = if is_configurable p then Free else Fixed

  abbrev pub removal_in : List ℕ → Option (Body L) → Removal
  removal_in key None = Absent
  removal_in key (Some b) = removal_of (found_under b.properties key)

  -- at a view, by the index that the key is
  abbrev pub removal_at : Body L → ℕ → List ℕ → Option ℕ → Removal
  removal_at b n key None = removal_of (found_under b.properties key)
  removal_at b n key (Some i) = if nat_lt i n then Fixed else Absent

  -- Elements and `length` of an array and the bytes of a view stay; other properties stay where they aren't
  -- configurable.
  abbrev pub removal : Cell L → List ℕ → Removal
  removal (Array p vs f) key = if is_length key then Fixed else if is_index_below (length vs) (index_of key) then Fixed else Absent
  removal (View b l o n) key = removal_at b n key (index_of key)
  removal c key = removal_in key (body_of c)

  -- the body without the property
  abbrev pub body_without : Body L → List ℕ → Body L
  body_without b key = record b { properties = left_without b.properties key }

-- the heap without the property of the cell at a location
abbrev pub cells_without : List (ℕ × Cell ℕ) → ℕ → List ℕ → List (ℕ × Cell ℕ)
cells_without cells l key = option_map_or (λ b. rebodied cells l (body_without b key)) (option_and_then body_of (find nat_eq cells l)) cells

-- what becomes of the property of the cell at a location
abbrev pub removal_from : List (ℕ × Cell ℕ) → ℕ → List ℕ → Removal
removal_from cells l key = option_map_or (λ c. removal c key) (find nat_eq cells l) Absent

-- whether the property is gone
abbrev pub is_gone : Removal → Bool
is_gone Absent = true
is_gone Fixed = false
is_gone Free = true

abbrev pub after_removal : Removal → List (ℕ × Cell ℕ) → ℕ → List ℕ → List (ℕ × Cell ℕ)
after_removal Absent cells l key = cells
after_removal Fixed cells l key = cells
after_removal Free cells l key = cells_without cells l key
