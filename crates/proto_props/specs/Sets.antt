-- Writing a property (ECMA-262, 10.1.9: ordinary objects; 10.4.2: arrays; 10.4.5.5: views).
use Rattle.std.specs.Prelude.{ℕ, ◌+◌, ◌-◌, ◌%◌, List, length, ℤ, pos, negsuc, Option, Some, None, Bool, true, false, if◌then◌else◌, nat_lt}
use Rattle.std.specs.Option.{option_and_then}
use Rattle.wl_text.specs.Number.{index_of}
use Rattle.world_heap.specs.declared.value.Value.{Value}
use Rattle.world_heap.specs.declared.value.Property.{Property}
use Rattle.world_heap.specs.declared.value.Property.TheVariants.{Data, Access}
use Rattle.world_heap.specs.declared.cell.Cell.{Cell}
use Rattle.world_heap.specs.declared.cell.Cell.TheVariants.{Array, View}
use Rattle.world_heap.specs.Maps.{find}
use Rattle.world_heap.specs.Bodies.{body_of, with_byte}
use Rattle.proto_props.specs.declared.chain.Reach.{Reach}
use Rattle.proto_props.specs.declared.chain.Reach.TheVariants.{Has, Past, Nowhere}
use Rattle.proto_props.specs.declared.outcome.Refusal.TheVariants.{Operand, ReadOnly}
use Rattle.proto_props.specs.declared.setting.Writability.{Writability}
use Rattle.proto_props.specs.declared.setting.Writability.TheVariants.{Missing, Fixed, Open, Setter}
use Rattle.proto_props.specs.Chains.{search}
use Rattle.proto_props.specs.Gets.{own_property}
use Rattle.proto_props.specs.Changes.{Change, Rewrites, Stays, CallsSetter, Refuses}
use Rattle.proto_props.specs.Adds.{number_of, plain, replaced, added, item_set}

-- the byte that a number is, modulo 256 (ECMA-262, 7.1.11: ToUint8)
abbrev pub byte_of : ℤ → ℕ
byte_of (pos n) = n % 256
byte_of (negsuc n) = 255 - n % 256

module _ {L : Type 0} where
  -- what a property that was found says of writing; an accessor without setter can't be written
  abbrev pub writability : Option (Property L) → Writability L
  writability None = Missing
  writability (Some (Data v false e c)) = Fixed
  writability (Some (Data v true e c)) = Open e c
  writability (Some (Access get None e c)) = Fixed
  writability (Some (Access get (Some set) e c)) = Setter set

  -- another value of an own property that can be written; its attributes stay
  abbrev pub rewritten : Option (Cell L) → L → List ℕ → Value L → (enumerable configurable : Bool) → Change L
  rewritten None loc key v e c = Refuses ReadOnly
  rewritten (Some (Array proto items frozen)) loc key v e c = item_set proto items loc (index_of key) v
  rewritten (Some cell) loc key v e c = replaced (body_of cell) cell loc key (Data v true e c)

  -- a byte of a buffer
  abbrev pub byte_set : Option (Cell L) → L → ℕ → ℕ → Change L
  byte_set None buffer at byte = Stays
  byte_set (Some cell) buffer at byte = Rewrites buffer (with_byte cell at byte)

  module _ (same : L → L → Bool) (cells : List (L × Cell L)) where
    -- the property of a cell under a key
    abbrev pub property_at : L → List ℕ → Option (Property L)
    property_at loc key = option_and_then (λ c. own_property same cells c key) (find same cells loc)

    -- 10.1.9.2 OrdinarySetWithOwnDescriptor, by what the property says that the search has found at a location. A property
    -- that can be written is written where it is the object's own, and else the object gets one of its own.
    abbrev pub set_by : L → Writability L → L → List ℕ → Value L → Change L
    set_by at Missing loc key v = added (find same cells loc) loc key (plain v)
    set_by at Fixed loc key v = Refuses ReadOnly
    set_by at (Open e c) loc key v = if same at loc then rewritten (find same cells loc) loc key v e c else added (find same cells loc) loc key (plain v)
    set_by at (Setter set) loc key v = CallsSetter set

    -- an index past the end of a view on the chain is no property, and nothing is written
    abbrev pub set_reached : Reach L → L → List ℕ → Value L → Change L
    set_reached (Has at) loc key v = set_by at (writability (property_at at key)) loc key v
    set_reached Past loc key v = Stays
    set_reached Nowhere loc key v = added (find same cells loc) loc key (plain v)

    -- 10.4.5, TypedArraySetElement: a number is written as a byte of the buffer, and past the end nothing is written
    abbrev pub element_set : L → (offset count index : ℕ) → Option ℤ → Change L
    element_set buffer offset count index (Some z) = if nat_lt index count then byte_set (find same cells buffer) buffer (offset + index) (byte_of z) else Stays
    element_set buffer offset count index None = Refuses Operand

    abbrev pub set_in : Option (Cell L) → Option ℕ → L → List ℕ → Value L → Change L
    set_in (Some (View b buffer offset count)) (Some index) loc key v = element_set buffer offset count index (number_of v)
    set_in cell index loc key v = set_reached (search same cells key (length cells) loc) loc key v

    -- writing a property of an object
    unfoldable pub sets : L → List ℕ → Value L → Change L
    sets loc key v = set_in (find same cells loc) (index_of key) loc key v
