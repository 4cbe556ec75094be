-- Reading a property (ECMA-262, 10.1.5 and 10.1.8: ordinary objects; 10.4.2: arrays; 10.4.3: strings; 10.4.5: views).
use Rattle.std.specs.Prelude.{ℕ, ◌+◌, min, Bool, true, false, not, pos, List, [], ◌∷◌, length, Option, Some, None, if◌then◌else◌, slice_get, slice_index, nat_lt, option_map}
use Rattle.std.specs.Option.{option_and_then, option_map_or}
use Rattle.wl_text.specs.Number.{index_of}
use Rattle.world_heap.specs.declared.value.Value.{Value}
use Rattle.world_heap.specs.declared.value.Value.TheVariants.{Undefined, Null, Bool as Boolean, Num, Str, Ref}
use Rattle.world_heap.specs.declared.value.Property.{Property}
use Rattle.world_heap.specs.declared.value.Property.TheVariants.{Data, Access}
use Rattle.world_heap.specs.declared.builtin.BuiltIn.TheVariants.{StringPrototype}
use Rattle.world_heap.specs.declared.cell.Body.{Body}
use Rattle.world_heap.specs.declared.cell.Cell.{Cell}
use Rattle.world_heap.specs.declared.cell.Cell.TheVariants.{Array, Buffer, View}
use Rattle.world_heap.specs.Maps.{keys, find}
use Rattle.world_heap.specs.Over.{ValueOver}
use Rattle.world_heap.specs.Table.{found_under}
use Rattle.world_heap.specs.Bodies.{body_of}
use Rattle.world_heap.specs.BuiltIns.{place_of}
use Rattle.proto_props.specs.declared.chain.Reach.{Reach}
use Rattle.proto_props.specs.declared.chain.Reach.TheVariants.{Has, Past, Nowhere}
use Rattle.proto_props.specs.declared.get.Got.{Got}
use Rattle.proto_props.specs.declared.get.Got.TheVariants.{Value as Given, CallGetter, Absent, Refused}
use Rattle.proto_props.specs.Own.{is_length}
use Rattle.proto_props.specs.Chains.{search}

-- the unit of a text at the index that the key is, as a text of its own
abbrev pub text_unit : List ℕ → List ℕ → Option (List ℕ)
text_unit text key = option_map (λ u. u ∷ []) (option_and_then (slice_get text) (index_of key))

module _ {L : Type 0} where
  -- the bytes of a buffer
  abbrev pub bytes_of : Cell L → List ℕ
  bytes_of (Buffer b bs) = bs
  bytes_of c = []

  -- what a property gives
  abbrev pub got_of : Option (Property L) → Got L
  got_of None = Absent
  got_of (Some (Data v w e c)) = Given v
  got_of (Some (Access None s e c)) = Given Undefined
  got_of (Some (Access (Some g) s e c)) = CallGetter g

  -- an array's length, as a number
  abbrev pub length_number : List (Value L) → Value L
  length_number vs = Num (pos (min (length vs) 9_007_199_254_740_991))

  module _ (same : L → L → Bool) (cells : List (L × Cell L)) where
    -- a byte of a buffer, and 0 where there is none
    abbrev pub byte_at : L → ℕ → ℕ
    byte_at l at = slice_index (option_map_or bytes_of (find same cells l) []) at

    -- a property of a view: a byte, or one of its body
    abbrev pub view_property : Body L → L → ℕ → ℕ → List ℕ → Option ℕ → Option (Property L)
    view_property b l o n key None = found_under b.properties key
    view_property b l o n key (Some i) = if nat_lt i n then Some (Data (Num (pos (byte_at l (o + i)))) true true true) else None

    -- The own property of a cell under a key. The elements and the `length` of an array are data properties, which can be
    -- written and the former deleted while the array isn't frozen; the bytes of a view are data properties.
    abbrev pub own_property : Cell L → List ℕ → Option (Property L)
    own_property (Array p vs f) key = if is_length key then Some (Data (length_number vs) (not f) false false)
        else option_map (λ v. Data v (not f) true (not f)) (option_and_then (slice_get vs) (index_of key))
    own_property (View b l o n) key = view_property b l o n key (index_of key)
    own_property c key = option_and_then (λ b. found_under b.properties key) (body_of c)

    -- what a search has found gives
    abbrev pub got_at : List ℕ → Reach L → Got L
    got_at key (Has l) = got_of (option_and_then (λ c. own_property c key) (find same cells l))
    got_at key Past = Absent
    got_at key Nowhere = Absent

    -- what a property of the prototype of strings gives
    abbrev pub string_got : List ℕ → Option L → Got L
    string_got key None = Absent
    string_got key (Some p) = got_at key (search same cells key (length cells) p)

    -- what a unit of a text gives, where there is one, or else the prototype of strings
    abbrev pub unit_got : List ℕ → Option (List ℕ) → Got L
    unit_got key None = string_got key (slice_get (keys cells) (place_of StringPrototype))
    unit_got key (Some unit) = Given (Str unit)

    abbrev pub text_got : List ℕ → List ℕ → Got L
    text_got text key = if is_length key then Given (Num (pos (length text))) else unit_got key (text_unit text key)

    -- what reading a property of a value gives
    abbrev pub gets : Value L → List ℕ → Got L
    gets Undefined key = Refused
    gets Null key = Refused
    gets (Boolean b) key = Absent
    gets (Num n) key = Absent
    gets (Str text) key = text_got text key
    gets (Ref l) key = got_at key (search same cells key (length cells) l)

-- P holds of each location in what reading a property gives.
abbrev pub GotOver : {L : Type 0} → (L → Type 0) → Got L → Type 0
GotOver P (Given v) = ValueOver P v
GotOver P (CallGetter g) = P g
GotOver P Absent = Unit {0}
GotOver P Refused = Unit {0}
