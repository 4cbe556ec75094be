-- New and changed properties of a cell (ECMA-262, 10.1.6: ordinary objects; 10.4.2: arrays; 10.4.5: views).
use Rattle.std.specs.Prelude.{◌≡◌, ℕ, ◌==◌, ◌&&◌, List, [], ◌∷◌, ◌++◌, length, take, ℤ, pos, negsuc, Option, Some, None, Bool, true, false, if◌then◌else◌, nat_le, nat_eq, slice_set}
use Rattle.std.specs.Bool.{beq}
use Rattle.wl_text.specs.Number.{index_of}
use Rattle.world_heap.specs.declared.value.Value.{Value}
use Rattle.world_heap.specs.declared.value.Value.TheVariants.{Undefined, Null, Bool as Boolean, Num, Str, Ref}
use Rattle.world_heap.specs.declared.value.Property.{Property}
use Rattle.world_heap.specs.declared.value.Property.TheVariants.{Data, Access}
use Rattle.world_heap.specs.declared.cell.Body.{Body}
use Rattle.world_heap.specs.declared.cell.Cell.{Cell}
use Rattle.world_heap.specs.declared.cell.Cell.TheVariants.{Array, Buffer, View}
use Rattle.world_heap.specs.Maps.{find}
use Rattle.world_heap.specs.Table.{put_under}
use Rattle.world_heap.specs.Bodies.{body_of, with_body}
use Rattle.proto_props.specs.declared.outcome.Refusal.{Refusal}
use Rattle.proto_props.specs.declared.outcome.Refusal.TheVariants.{NotExtensible, Hole, Named, ReadOnly}
use Rattle.proto_props.specs.Changes.{Change, Rewrites, Extends, Refuses}

-- why an array, a buffer or a view takes no such key, which could else be extended or not
abbrev pub unnamed : Bool → Refusal
unnamed true = Named
unnamed false = NotExtensible

module _ {L : Type 0} where
  -- the body with a property, in its place where the key stands, and else last
  abbrev pub with_property : Body L → List ℕ → Property L → Body L
  with_property b key p = record b { properties = put_under b.properties key p }

  -- another property under a key that stands
  abbrev pub replaced : Option (Body L) → Cell L → L → List ℕ → Property L → Change L
  replaced None cell loc key p = Refuses NotExtensible
  replaced (Some b) cell loc key p = Rewrites loc (with_body cell (with_property b key p))

  -- a property that can be written, listed and removed
  abbrev pub plain : Value L → Property L
  plain v = Data v true true true

  -- the value of a data property that has these attributes
  abbrev pub value_with : (writable enumerable configurable : Bool) → Property L → Option (Value L)
  value_with w e c (Data v x f d) = if beq w x && (beq e f && beq c d) then Some v else None
  value_with w e c (Access get set f d) = None

  -- the element behind the last one of an array; one further behind would leave a hole
  abbrev pub appended : Option L → List (Value L) → (frozen : Bool) → L → ℕ → Option (Value L) → Change L
  appended proto items frozen loc i None = Refuses ReadOnly
  appended proto items true loc i (Some v) = Refuses NotExtensible
  appended proto items false loc i (Some v) = if i == length items then Extends loc (Array proto (items ++ v ∷ []) false) else Refuses Hole

  -- A new property of an array is an element. The attributes of an element are those of its array, and no others can be
  -- asked for.
  abbrev pub added_item : Option L → List (Value L) → (frozen : Bool) → L → Option ℕ → Property L → Change L
  added_item proto items true loc None p = Refuses NotExtensible
  added_item proto items false loc None p = Refuses Named
  added_item proto items frozen loc (Some i) p = appended proto items frozen loc i (value_with true true true p)

  -- a new property of an object that can be extended
  abbrev pub added_to : Option (Body L) → Cell L → L → List ℕ → Property L → Change L
  added_to None cell loc key p = Refuses NotExtensible
  added_to (Some b) cell loc key p = if b.extensible then Extends loc (with_body cell (with_property b key p)) else Refuses NotExtensible

  -- a new property of a cell; buffers and views take none
  abbrev pub added : Option (Cell L) → L → List ℕ → Property L → Change L
  added None loc key p = Refuses NotExtensible
  added (Some (Array proto items frozen)) loc key p = added_item proto items frozen loc (index_of key) p
  added (Some (Buffer b bytes)) loc key p = Refuses (unnamed b.extensible)
  added (Some (View b buffer offset count)) loc key p = Refuses (unnamed b.extensible)
  added (Some cell) loc key p = added_to (body_of cell) cell loc key p

  -- the number that a value is
  abbrev pub number_of : Value L → Option ℤ
  number_of Undefined = None
  number_of Null = None
  number_of (Boolean b) = None
  number_of (Num z) = Some z
  number_of (Str t) = None
  number_of (Ref l) = None

  -- an array that is cut to a length; it can't be made longer, since that would leave holes (10.4.2.4: ArraySetLength)
  abbrev pub cut_to : Option L → List (Value L) → L → Option ℤ → Change L
  cut_to proto items loc (Some (pos n)) = if nat_le n (length items) then Rewrites loc (Array proto (take n items) false) else Refuses Hole
  cut_to proto items loc (Some (negsuc n)) = Refuses Hole
  cut_to proto items loc None = Refuses Hole

  -- another value of an own property of an array that isn't frozen: of its length, or of an element
  abbrev pub item_set : Option L → List (Value L) → L → Option ℕ → Value L → Change L
  item_set proto items loc None v = cut_to proto items loc (number_of v)
  item_set proto items loc (Some i) v = Rewrites loc (Array proto (slice_set items i v) false)

-- an array stands at the location, and it isn't frozen
abbrev pub IsArray : List (ℕ × Cell ℕ) → ℕ → Type 0
IsArray cells l = (proto : Option ℕ) × (items : List (Value ℕ)) × (frozen : Bool) × (find nat_eq cells l ≡ Some (Array proto items frozen))

abbrev pub IsOpenArray : List (ℕ × Cell ℕ) → ℕ → Type 0
IsOpenArray cells l = (proto : Option ℕ) × (items : List (Value ℕ)) × (find nat_eq cells l ≡ Some (Array proto items false))
