-- What reading a property gives fits where it was found.
use Rattle.std.proofs.Common.{ℕ, zero, suc, true, false, List, [], ◌∷◌, Option, Some, None, if◌then◌else◌, slice_get, nat_eq}
use Rattle.std.specs.Cmp.Lexicographic.{pointwise}
use Rattle.world_heap.specs.declared.value.Property.{Property}
use Rattle.world_heap.specs.declared.value.Property.TheVariants.{Data, Access}
use Rattle.world_heap.specs.Over.{ListOver, OptionOver, PropertyOver}
use Rattle.world_heap.specs.Table.{found_under}
use Rattle.proto_props.specs.Gets.{GotOver, got_of}

-- what stands under a name
pub over_found : {V : Type 0} (P : V → Type 0) (entries : List (List ℕ × V)) (key : List ℕ) → ListOver (λ m. P m.1) entries → OptionOver P (found_under entries key)
over_found P [] key h = tt
over_found P (e ∷ entries) key h =
    elim (pointwise nat_eq key e.0) as (λ t. OptionOver P (if t then Some e.1 else found_under entries key)) [
      | true ↦ h.0
      | false ↦ over_found P entries key h.1
    ]

-- what stands at a place
pub over_item : {A : Type 0} (P : A → Type 0) (items : List A) (at : ℕ) → ListOver P items → OptionOver P (slice_get items at)
over_item P [] at h = tt
over_item P (x ∷ items) zero h = h.0
over_item P (x ∷ items) (suc at) h = over_item P items at h.1

-- what a property gives
pub given_fits : (P : ℕ → Type 0) (property : Option (Property ℕ)) → OptionOver (PropertyOver P) property → GotOver P (got_of property)
given_fits P None h = tt
given_fits P (Some (Data v w e c)) h = h
given_fits P (Some (Access None s e c)) h = tt
given_fits P (Some (Access (Some g) s e c)) h = h.0
