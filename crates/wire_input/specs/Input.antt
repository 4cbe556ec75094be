-- The parcel of a JSON value (ECMA-404; of whole numbers as ECMA-262, 21.1.2.5 Number.isSafeInteger).
use Rattle.std.specs.Prelude.{ℕ, zero, suc, ◌+◌, ◌==◌, nat_lt, nat_le, List, [], ◌∷◌, ◌++◌, length, Option, Some, None, is_some, option_map, option_and_then, if◌then◌else◌, Result, Ok, Err}
use Rattle.std.specs.Str.{is_utf8}
use Rattle.serde_json.specs.Data.{Data, null, boolean, number, string, array, object, Items, no_items, item, Members, no_members, member}
use Rattle.serde_json.specs.Find.{as_i64}
use Rattle.serde_json.specs.Read.{read}
use Rattle.wl_text.specs.Number.{index_of}
use Rattle.wl_text.specs.Text.{units_of}
use Rattle.parcel.specs.Checked.{is_checked}
use Rattle.parcel.specs.declared.parcel.Item.{Item}
use Rattle.parcel.specs.declared.parcel.Item.TheVariants.{Null, Bool, Num as Whole, Str, Node}
use Rattle.parcel.specs.declared.parcel.PNode.{PNode}
use Rattle.parcel.specs.declared.parcel.PNode.TheVariants.{Object, Array}
use Rattle.parcel.specs.declared.parcel.Parcel.{Parcel}
use Rattle.wire_input.specs.declared.InputFault.{InputFault}
use Rattle.wire_input.specs.declared.InputFault.TheVariants.{Json, Shape}

-- what a part of the value becomes, with the nodes that it needs; none where a number isn't whole, a text too long or
-- a node too many
abbrev pub Placed : Type 0 → Type 0
Placed A = Option (A × List PNode)

-- More behind a part, with the numbers of its nodes behind the part's.
abbrev pub placed_with : {A B C : Type 0} → (A → B → C) → Placed A → (ℕ → Placed B) → ℕ → Placed C
placed_with join None more next = None
placed_with join (Some first) more next = option_map (λ rest. (join first.0 rest.0, first.1 ++ rest.1)) (more (next + length first.1))

-- the text of a string, where it is no longer than one string may be
abbrev pub text_of : List ℕ → Option (List ℕ)
text_of utf8 = if nat_le (length (units_of utf8)) 1_048_576 then Some (units_of utf8) else None

-- A list or an object is node `next`, and its contents follow.
abbrev pub node_placed : {A : Type 0} → (List A → PNode) → (ℕ → Placed (List A)) → ℕ → Placed Item
node_placed node contents next =
    if nat_lt next 100_000 then option_map (λ inner. (Node next, node inner.0 ∷ inner.1)) (contents (next + 1)) else None

-- The class of a key: of an array index its length, since those of fewer digits are less; of another name 11. (Digits
-- are the same in UTF-8 as in UTF-16.)
abbrev pub class_of : List ℕ → ℕ
class_of key = if is_some (index_of key) then length key else 11

-- A property, with its value's nodes.
abbrev pub named : Placed Item → List ℕ → Placed (List ℕ × Item)
named value text = option_map (λ inner. ((text, inner.0), inner.1)) value

-- So many classes, one after another.
unfoldable pub classes_placed : {A : Type 0} → (ℕ → ℕ → Placed (List A)) → ℕ → ℕ → ℕ → Placed (List A)
classes_placed members zero class next = Some ([], [])
classes_placed members (suc count) class next = placed_with (λ first more. first ++ more) (members class next) (classes_placed members count (suc class)) next

-- Nodes are numbered by first visit. An object's members stand in byte order of their keys; they are visited class by
-- class, so that array indices come first, ascending, and then the names in byte order.
unfoldable mutual
  pub value_placed : Data → ℕ → Placed Item
  value_placed null next = Some (Null, [])
  value_placed (boolean b) next = Some (Bool b, [])
  value_placed (number n) next = option_map (λ whole. (whole, [])) (option_map (λ z. Whole z) (as_i64 n))
  value_placed (string s) next = option_map (λ text. (Str text, [])) (text_of s)
  value_placed (array values) next = node_placed (λ items. Array items) (items_placed values) next
  value_placed (object members) next = node_placed (λ properties. Object properties) (classes_placed (class_placed members) 11 1) next

  pub items_placed : Items → ℕ → Placed (List Item)
  items_placed no_items next = Some ([], [])
  items_placed (item value values) next = placed_with (λ first more. first ∷ more) (value_placed value next) (items_placed values) next

  -- the members of one class
  pub class_placed : Members → ℕ → ℕ → Placed (List (List ℕ × Item))
  class_placed no_members class next = Some ([], [])
  class_placed (member key value members) class next = if class_of key == class
      then placed_with (λ first more. first ∷ more)
      (option_and_then (named (value_placed value next)) (text_of key))
      (class_placed members class) next
      else class_placed members class next

-- a member as a property
abbrev pub member_placed : List ℕ → Data → ℕ → Placed (List ℕ × Item)
member_placed key value next = option_and_then (named (value_placed value next)) (text_of key)

-- The parcel, where it is within the limits of a copy and its numbers are in range.
abbrev pub within_limits : Parcel → Result Parcel InputFault
within_limits parcel = if is_checked parcel then Ok parcel else Err Shape

abbrev pub parcel_of_placed : Placed Item → Result Parcel InputFault
parcel_of_placed None = Err Shape
parcel_of_placed (Some found) = within_limits (record { root = found.0; nodes = found.1 })

unfoldable pub parcel_of_value : Data → Result Parcel InputFault
parcel_of_value value = parcel_of_placed (value_placed value 0)

abbrev pub parcel_of_read : Option Data → Result Parcel InputFault
parcel_of_read None = Err Json
parcel_of_read (Some value) = parcel_of_value value

-- the parcel of a JSON text in UTF-8
unfoldable pub parcel_of : List ℕ → Result Parcel InputFault
parcel_of bytes = if is_utf8 bytes then parcel_of_read (read bytes) else Err Json
