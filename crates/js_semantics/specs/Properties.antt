-- Writing, defining and removing properties, as steps over the heap, and how reading one goes on (ECMA-262, 10.1: ordinary
-- objects; 10.4.2: arrays; 10.4.5: views; 7.3: operations).
use Rattle.std.specs.Prelude.{ℕ, ◌+◌, ◌-◌, ◌%◌, ◌==◌, List, [], ◌∷◌, ◌++◌, length, take, ℤ, pos, negsuc, Option, Some, None, Bool, true, false, if◌then◌else◌, nat_eq, nat_lt, nat_le, slice_set}
use Rattle.std.specs.List.{flat_map}
use Rattle.std.specs.Map.{keys_of}
use Rattle.std.specs.Option.{option_and_then, option_map_or}
use Rattle.std.specs.Cmp.Lexicographic.{pointwise}
use Rattle.wl_text.specs.Number.{index_of}
use Rattle.world_heap.specs.declared.value.Value.{Value}
use Rattle.world_heap.specs.declared.value.Value.TheVariants.{Undefined, Null, Bool as Boolean, Num, Str, Ref}
use Rattle.world_heap.specs.declared.value.Property.{Property}
use Rattle.world_heap.specs.declared.value.Property.TheVariants.{Data, Access}
use Rattle.world_heap.specs.declared.cell.Body.{Body}
use Rattle.world_heap.specs.declared.cell.Cell.{Cell}
use Rattle.world_heap.specs.declared.cell.Cell.TheVariants.{Array, Buffer, View, Symbol}
use Rattle.world_heap.specs.Table.{found_under, put_under}
use Rattle.world_heap.specs.Bodies.{body_of, with_body, with_byte}
use Rattle.world_heap.specs.Keys.{ordered_names}
use Rattle.proto_props.specs.declared.chain.Reach.{Reach}
use Rattle.proto_props.specs.declared.chain.Reach.TheVariants.{Has, Past, Nowhere}
use Rattle.proto_props.specs.declared.remove.Removal.{Removal}
use Rattle.proto_props.specs.declared.remove.Removal.TheVariants as removals
use Rattle.proto_props.specs.Own.{is_length}
use Rattle.proto_props.specs.Chains.{search, holder}
use Rattle.proto_props.specs.Gets.{own_property, text_unit}
use Rattle.proto_props.specs.Removes.{removal, body_without}
use Rattle.js_semantics.specs.declared.fault.Fault.{Fault}
use Rattle.js_semantics.specs.declared.fault.Fault.TheVariants.{NotAnObject, ReadOnly, WrongOperand, NoHoles}
use Rattle.js_semantics.specs.World.{World, cell_at}

-- What changing a property comes to: another cell at a location, with so many places more; nothing; a function to be
-- called; or an error.
pub data Change (L : Type 0) : Type 0 where
  Writes : L → Cell L → ℕ → Change L
  Stays : Change L
  CallsSetter : L → Change L
  Refuses : Fault → Change L

-- What deleting a property comes to.
pub data Deletion (L : Type 0) : Type 0 where
  Leaves : Deletion L
  Removes : L → Cell L → Deletion L
  Keeps : Deletion L

abbrev pub same_text : List ℕ → List ℕ → Bool
same_text a b = pointwise nat_eq a b

-- the byte that a number is, modulo 256 (ECMA-262, 7.1.11: ToUint8)
abbrev pub byte_of : ℤ → ℕ
byte_of (pos n) = n % 256
byte_of (negsuc n) = 255 - n % 256

module _ {L : Type 0} where
  -- a property that can be written, listed and removed
  abbrev pub plain : Value L → Property L
  plain v = Data v true true true

  -- a member of a built-in object: it can be written and removed, and isn't listed
  abbrev pub member : Value L → Property L
  member v = Data v true false true

  -- whether a location is that of a symbol, which is no object
  abbrev pub is_symbol : Option (Cell L) → Bool
  is_symbol (Some (Symbol t)) = true
  is_symbol other = false

  -- the location of an object
  abbrev pub object_of : Value L → World L → Option L
  object_of Undefined w = None
  object_of Null w = None
  object_of (Boolean b) w = None
  object_of (Num n) w = None
  object_of (Str t) w = None
  object_of (Ref loc) w = if is_symbol (cell_at loc w) then None else Some loc

  -- where the search for a key from an object on ends
  unfoldable pub reach : L → List ℕ → World L → Reach L
  reach loc key w = search w.same w.heap key (length w.heap) loc

  -- whether an object or one on its chain of prototypes has a property
  abbrev pub has_property : L → List ℕ → World L → Bool
  has_property loc key w = option_map_or (λ at. true) (holder (reach loc key w)) false

  -- the property of an object under a key
  unfoldable pub property_at : L → List ℕ → World L → Option (Property L)
  property_at loc key w = option_and_then (λ cell. own_property w.same w.heap cell key) (cell_at loc w)

  -- the unit of a string that reading it makes a text of
  abbrev pub made_of : Value L → List ℕ → Option (List ℕ)
  made_of (Str text) key = if is_length key then None else text_unit text key
  made_of other key = None

  -- a property under its key, with a place where the key is new
  abbrev pub with_property : Body L → List ℕ → Property L → Body L
  with_property b key p = record b { properties = put_under b.properties key p }

  abbrev pub places_for : Option (Property L) → ℕ
  places_for None = 1
  places_for (Some p) = 0

  -- a new property of an object with a body
  abbrev pub added_to : Option (Body L) → Cell L → L → List ℕ → Property L → Change L
  added_to None cell loc key p = Refuses ReadOnly
  added_to (Some b) cell loc key p =
      if b.extensible then Writes loc (with_body cell (with_property b key p)) 1 else Refuses ReadOnly

  -- A new property of an array: the element after its last one. There are no holes, and no other keys.
  abbrev pub added_item : Option L → List (Value L) → Bool → L → Option ℕ → Value L → Change L
  added_item proto items true loc index v = Refuses ReadOnly
  added_item proto items false loc None v = Refuses ReadOnly
  added_item proto items false loc (Some i) v = if i == length items then Writes loc (Array proto (items ++ v ∷ []) false) 1 else Refuses NoHoles

  -- a new property
  abbrev pub add_step : Option (Cell L) → L → List ℕ → Value L → Change L
  add_step None loc key v = Refuses ReadOnly
  add_step (Some (Array proto items frozen)) loc key v = added_item proto items frozen loc (index_of key) v
  add_step (Some (Buffer body bytes)) loc key v = Refuses ReadOnly
  add_step (Some (View body buffer offset count)) loc key v = Refuses ReadOnly
  add_step (Some cell) loc key v = added_to (body_of cell) cell loc key (plain v)

  -- an array that is cut to a length
  abbrev pub cut_to : Option L → List (Value L) → L → Value L → Change L
  cut_to proto items loc (Num (pos n)) = if nat_le n (length items) then Writes loc (Array proto (take n items) false) 0 else Refuses NoHoles
  cut_to proto items loc (Num (negsuc n)) = Refuses NoHoles
  cut_to proto items loc Undefined = Refuses NoHoles
  cut_to proto items loc Null = Refuses NoHoles
  cut_to proto items loc (Boolean b) = Refuses NoHoles
  cut_to proto items loc (Str t) = Refuses NoHoles
  cut_to proto items loc (Ref l) = Refuses NoHoles

  -- another value of an own property of an array
  abbrev pub rewritten_item : Option L → List (Value L) → L → Option ℕ → Value L → Change L
  rewritten_item proto items loc None v = cut_to proto items loc v
  rewritten_item proto items loc (Some i) v = Writes loc (Array proto (slice_set items i v) false) 0

  abbrev pub rewritten_body : Option (Body L) → Cell L → L → List ℕ → Property L → Change L
  rewritten_body None cell loc key p = Refuses ReadOnly
  rewritten_body (Some b) cell loc key p = Writes loc (with_body cell (with_property b key p)) 0

  -- another value of an own property that can be written
  abbrev pub rewrite_step : Option (Cell L) → L → List ℕ → Value L → (enumerable configurable : Bool) → Change L
  rewrite_step None loc key v e c = Refuses ReadOnly
  rewrite_step (Some (Array proto items frozen)) loc key v e c = rewritten_item proto items loc (index_of key) v
  rewrite_step (Some cell) loc key v e c = rewritten_body (body_of cell) cell loc key (Data v true e c)

  -- Set (ECMA-262, 10.1.9.2), where this is the property that the search has found.
  abbrev pub set_over : L → Option (Property L) → L → List ℕ → Value L → World L → Change L
  set_over at None loc key v w = add_step (cell_at loc w) loc key v
  set_over at (Some (Data old false e c)) loc key v w = Refuses ReadOnly
  set_over at (Some (Data old true e c)) loc key v w =
      if w.same at loc then rewrite_step (cell_at loc w) loc key v e c else add_step (cell_at loc w) loc key v
  set_over at (Some (Access get (Some set) e c)) loc key v w = CallsSetter set
  set_over at (Some (Access get None e c)) loc key v w = Refuses ReadOnly

  -- an index past the end of a view on the chain is no property, and nothing is written
  abbrev pub set_reached : Reach L → L → List ℕ → Value L → World L → Change L
  set_reached (Has at) loc key v w = set_over at (property_at at key w) loc key v w
  set_reached Past loc key v w = Stays
  set_reached Nowhere loc key v w = add_step (cell_at loc w) loc key v

  -- a byte of a buffer
  abbrev pub write_byte : Option (Cell L) → L → ℕ → ℕ → Change L
  write_byte None buffer at byte = Stays
  write_byte (Some cell) buffer at byte = Writes buffer (with_byte cell at byte) 0

  -- 10.4.5.5 [[Set]] of a view: a number at an index is a byte of its buffer, and past the end nothing is written
  abbrev pub set_byte : L → (offset count index : ℕ) → Value L → World L → Change L
  set_byte buffer offset count index (Num z) w =
      if nat_lt index count then write_byte (cell_at buffer w) buffer (offset + index) (byte_of z) else Stays
  set_byte buffer offset count index other w = Refuses WrongOperand

  abbrev pub set_in : Option (Cell L) → Option ℕ → L → List ℕ → Value L → World L → Change L
  set_in (Some (View body buffer offset count)) (Some index) loc key v w = set_byte buffer offset count index v w
  set_in cell index loc key v w = set_reached (reach loc key w) loc key v w

  -- Set on an object.
  unfoldable pub set_step : L → List ℕ → Value L → World L → Change L
  set_step loc key v w = set_in (cell_at loc w) (index_of key) loc key v w

  -- Set on a value: a string, number, boolean or symbol takes no property, and undefined and null are no objects.
  abbrev pub set_on : Value L → List ℕ → Value L → World L → Change L
  set_on Undefined key v w = Refuses NotAnObject
  set_on Null key v w = Refuses NotAnObject
  set_on (Boolean b) key v w = Refuses ReadOnly
  set_on (Num n) key v w = Refuses ReadOnly
  set_on (Str t) key v w = Refuses ReadOnly
  set_on (Ref loc) key v w = if is_symbol (cell_at loc w) then Refuses ReadOnly else set_step loc key v w

  -- The property of an object literal that a getter or a setter makes, together with one that stands there
  -- (ECMA-262, 10.1.6.3).
  abbrev pub with_getter : L → Option (Property L) → Property L
  with_getter get None = Access (Some get) None true true
  with_getter get (Some (Data v w e c)) = Access (Some get) None true true
  with_getter get (Some (Access old set e c)) = Access (Some get) set true true

  abbrev pub with_setter : L → Option (Property L) → Property L
  with_setter set None = Access None (Some set) true true
  with_setter set (Some (Data v w e c)) = Access None (Some set) true true
  with_setter set (Some (Access get old e c)) = Access get (Some set) true true

  abbrev pub defined_in : Option (Body L) → Cell L → L → List ℕ → (Option (Property L) → Property L) → Change L
  defined_in None cell loc key p = Refuses ReadOnly
  defined_in (Some b) cell loc key p =
      Writes loc (with_body cell (with_property b key (p (found_under b.properties key)))) (places_for (found_under b.properties key))

  abbrev pub defined_at : Option (Cell L) → L → List ℕ → (Option (Property L) → Property L) → Change L
  defined_at None loc key p = Refuses ReadOnly
  defined_at (Some cell) loc key p = defined_in (body_of cell) cell loc key p

  -- the definition of a member of a new object, from what stood under the key (ECMA-262, 7.3.5)
  unfoldable pub define_step : L → List ℕ → (Option (Property L) → Property L) → World L → Change L
  define_step loc key p w = defined_at (cell_at loc w) loc key p

  abbrev pub without : Option (Body L) → Cell L → L → List ℕ → Deletion L
  without None cell loc key = Leaves
  without (Some b) cell loc key = Removes loc (with_body cell (body_without b key))

  abbrev pub deleted : Removal → Cell L → L → List ℕ → Deletion L
  deleted removals.Absent cell loc key = Leaves
  deleted removals.Fixed cell loc key = Keeps
  deleted removals.Free cell loc key = without (body_of cell) cell loc key

  abbrev pub deleted_at : Option (Cell L) → L → List ℕ → Deletion L
  deleted_at None loc key = Leaves
  deleted_at (Some cell) loc key = deleted (removal cell key) cell loc key

  -- a string's length and its units stay
  abbrev pub deleted_unit : List ℕ → List ℕ → Deletion L
  deleted_unit text key = if is_length key then Keeps else option_map_or (λ unit. Keeps) (text_unit text key) Leaves

  -- Delete (ECMA-262, 13.5.1.2). Undefined and null have no properties at all.
  unfoldable pub delete_step : Value L → List ℕ → World L → Option (Deletion L)
  delete_step Undefined key w = None
  delete_step Null key w = None
  delete_step (Boolean b) key w = Some Leaves
  delete_step (Num n) key w = Some Leaves
  delete_step (Str text) key w = Some (deleted_unit text key)
  delete_step (Ref loc) key w = Some (deleted_at (cell_at loc w) loc key)

-- the entries of a body in the order of their keys (ECMA-262, 10.1.11.1)
unfoldable pub in_key_order : {V : Type 0} → List (List ℕ × V) → List (List ℕ × V)
in_key_order entries = flat_map (λ key. option_map_or (λ v. (key, v) ∷ []) (found_under entries key) []) (ordered_names (keys_of entries))
