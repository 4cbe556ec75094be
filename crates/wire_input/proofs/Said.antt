-- What a JSON text says.
use Rattle.std.proofs.Common.{◌≡◌, ℕ, List, [], ◌++◌, length, Bool, true, false, Option, Some, None, Result, Ok, Err, refl, sym, ap, ◌∙◌}
use Rattle.std.proofs.lemmas.Str.{IsUtf8-from_is_utf8, is_utf8-from_IsUtf8}
use Rattle.std.specs.Str.{IsUtf8, is_utf8}
use Rattle.serde_json.specs.Data.{Data}
use Rattle.serde_json.specs.Read.{read}
use Rattle.parcel.specs.Checked.{is_checked}
use Rattle.parcel.specs.declared.parcel.Item.{Item}
use Rattle.parcel.specs.declared.parcel.PNode.{PNode}
use Rattle.parcel.specs.declared.parcel.Parcel.{Parcel}
use Rattle.wire_input.specs.Input.{parcel_of, parcel_of_value, parcel_of_placed, within_limits, value_placed}
use Rattle.wire_input.specs.Answer.{Answers, Places}
use Rattle.wire_input.specs.declared.InputFault.{InputFault}
use Rattle.wire_input.specs.declared.InputFault.TheVariants.{Json, Shape, Memory}

-- What is read gives the parcel of its value.
pub parcel_of-read : (bytes : List ℕ) (value : Data) → IsUtf8 bytes → read bytes ≡ Some value → parcel_of bytes ≡ parcel_of_value value
unfolding parcel_of
parcel_of-read bytes value utf8 e = rw (is_utf8-from_IsUtf8 bytes utf8, e) refl

-- What isn't read is no JSON.
pub parcel_of-refused : (bytes : List ℕ) → (IsUtf8 bytes → read bytes ≡ None) → parcel_of bytes ≡ Err Json
unfolding parcel_of
parcel_of-refused bytes none = by (is_utf8 bytes) refl
  where
    by : (b : Bool) → is_utf8 bytes ≡ b → parcel_of bytes ≡ Err Json
    by true e = rw (e, none (IsUtf8-from_is_utf8 bytes e)) refl
    by false e = rw e refl

module _ (value : Data) (old new : List PNode) (empty : old ≡ []) where
  placed-at : (told : Option (Item × List PNode)) → value_placed value (length old) ≡ told → value_placed value 0 ≡ told
  placed-at told e = ap (λ l. value_placed value (length l)) (sym empty) ∙ e

  -- The parcel that was placed is the parcel, within the limits.
  pub placed-told : (root : Item) → Places (Ok root) old new (value_placed value (length old))
      → parcel_of_value value ≡ within_limits (record { root = root; nodes = new })
  unfolding parcel_of_value
  placed-told root h =
      let nodes : new ≡ h.0 = h.2 ∙ ap (λ l. l ++ h.0) empty in
      ap parcel_of_placed (placed-at (Some (root, h.0)) h.1) ∙ ap (λ l. within_limits (record { root = root; nodes = l })) (sym nodes)

  pub value-nodes : (root : Item) → Places (Ok root) old new (value_placed value (length old)) → value_placed value 0 ≡ Some (root, new)
  value-nodes root h =
      let nodes : new ≡ h.0 = h.2 ∙ ap (λ l. l ++ h.0) empty in
      placed-at (Some (root, h.0)) h.1 ∙ ap (λ l. Some (root, l)) (sym nodes)

  pub fault-told : (fault : InputFault) → Places {A = Item} (Err fault) old new (value_placed value (length old)) → Answers {A = Parcel} (Err fault) (parcel_of_value value)
  unfolding parcel_of_value
  fault-told Json h = absurd h
  fault-told Shape h = ap parcel_of_placed (placed-at None h)
  fault-told Memory h = tt

pub within-checked : (parcel : Parcel) (told : Result Parcel InputFault) → told ≡ within_limits parcel → is_checked parcel ≡ true → told ≡ Ok parcel
within-checked parcel told e checked = e ∙ rw checked refl

pub within-not : (parcel : Parcel) (told : Result Parcel InputFault) → told ≡ within_limits parcel → is_checked parcel ≡ false → told ≡ Err Shape
within-not parcel told e checked = e ∙ rw checked refl
