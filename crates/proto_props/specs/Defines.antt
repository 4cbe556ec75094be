-- Defining a property with all its attributes (ECMA-262, 10.1.6: ordinary objects; 10.4.2.1: arrays; 10.4.5.3: views).
use Rattle.std.specs.Prelude.{ℕ, ◌&&◌, ◌||◌, not, List, Option, Some, None, Bool, true, false, if◌then◌else◌, slice_get}
use Rattle.std.specs.Option.{option_and_then}
use Rattle.std.specs.Bool.{beq}
use Rattle.wl_text.specs.Number.{index_of}
use Rattle.world_heap.specs.declared.value.Value.{Value}
use Rattle.world_heap.specs.declared.value.Property.{Property}
use Rattle.world_heap.specs.declared.value.Property.TheVariants.{Data, Access}
use Rattle.world_heap.specs.declared.cell.Body.{Body}
use Rattle.world_heap.specs.declared.cell.Cell.{Cell}
use Rattle.world_heap.specs.declared.cell.Cell.TheVariants.{Array, View}
use Rattle.world_heap.specs.Maps.{find}
use Rattle.world_heap.specs.Table.{found_under}
use Rattle.world_heap.specs.Bodies.{body_of}
use Rattle.proto_props.specs.declared.outcome.Refusal.TheVariants.{ReadOnly}
use Rattle.proto_props.specs.Own.{is_length}
use Rattle.proto_props.specs.Gets.{length_number}
use Rattle.proto_props.specs.Removes.{is_configurable}
use Rattle.proto_props.specs.Same.{same_value, same_function}
use Rattle.proto_props.specs.Changes.{Change, Stays, Refuses}
use Rattle.proto_props.specs.Adds.{value_with, replaced, added, item_set}

module _ {L : Type 0} where
  abbrev pub is_enumerable : Property L → Bool
  is_enumerable (Data v w e c) = e
  is_enumerable (Access get set e c) = e

  -- the value of an own property of an array: of its length, or of an element
  abbrev pub item_value : List (Value L) → List ℕ → Option (Value L)
  item_value items key = if is_length key then Some (length_number items) else option_and_then (slice_get items) (index_of key)

module _ {L : Type 0} (same : L → L → Bool) where
  -- a data property that stays one, and has the same value where it can't be written; an accessor with the same functions
  abbrev pub keeps : Property L → Property L → Bool
  keeps (Data v w e c) (Data u x f d) = w || (not x && same_value same v u)
  keeps (Data v w e c) (Access get set f d) = false
  keeps (Access get set e c) (Data u x f d) = false
  keeps (Access get set e c) (Access h t f d) = same_function same get h && same_function same set t

  -- Whether a property may take the place of another (10.1.6.3: ValidateAndApplyPropertyDescriptor). One that isn't
  -- configurable keeps what it is and whether it is listed, but for the value while it can be written, and may be made
  -- read-only.
  abbrev pub allows : Property L → Property L → Bool
  allows q p = is_configurable q || (not (is_configurable p) && (beq (is_enumerable q) (is_enumerable p) && keeps q p))

  -- An own property of an array takes another value alone, and none other while the array is frozen: its attributes are
  -- those of the array, and no others can be asked for.
  abbrev pub item_defined : Option L → List (Value L) → (frozen : Bool) → L → List ℕ → Value L → Option (Value L) → Change L
  item_defined proto items frozen loc key v None = Refuses ReadOnly
  item_defined proto items true loc key v (Some u) = if same_value same v u then Stays else Refuses ReadOnly
  item_defined proto items false loc key v (Some u) = item_set proto items loc (index_of key) u

  -- by the own property that the array has
  abbrev pub array_defined : Option L → List (Value L) → (frozen : Bool) → L → List ℕ → Option (Value L) → Property L → Change L
  array_defined proto items frozen loc key None p = added (Some (Array proto items frozen)) loc key p
  array_defined proto items frozen loc key (Some v) p =
      item_defined proto items frozen loc key v (value_with (not frozen) (not (is_length key)) (not frozen && not (is_length key)) p)

  -- a property that takes the place of another
  abbrev pub defined_over : Option (Property L) → Option (Body L) → Cell L → L → List ℕ → Property L → Change L
  defined_over None b cell loc key p = added (Some cell) loc key p
  defined_over (Some q) b cell loc key p = if allows q p then replaced b cell loc key p else Refuses ReadOnly

  abbrev pub body_defined : Option (Body L) → Cell L → L → List ℕ → Property L → Change L
  body_defined b cell loc key p = defined_over (option_and_then (λ c. found_under c.properties key) b) b cell loc key p

  -- a byte of a view can't be defined, nor can one past its end
  abbrev pub view_defined : Body L → Cell L → L → List ℕ → Option ℕ → Property L → Change L
  view_defined b cell loc key None p = body_defined (Some b) cell loc key p
  view_defined b cell loc key (Some i) p = Refuses ReadOnly

  abbrev pub defined_in : Option (Cell L) → L → List ℕ → Property L → Change L
  defined_in None loc key p = added None loc key p
  defined_in (Some (Array proto items frozen)) loc key p = array_defined proto items frozen loc key (item_value items key) p
  defined_in (Some (View b buffer offset count)) loc key p = view_defined b (View b buffer offset count) loc key (index_of key) p
  defined_in (Some cell) loc key p = body_defined (body_of cell) cell loc key p

  -- defining a property of the cell at a location
  unfoldable pub defines : List (L × Cell L) → L → List ℕ → Property L → Change L
  defines cells loc key p = defined_in (find same cells loc) loc key p
