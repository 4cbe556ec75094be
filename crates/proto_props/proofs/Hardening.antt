-- The properties of a table frozen one after another.
use Rattle.std.proofs.Common.{◌≡◌, ℕ, zero, suc, ◌<◌, ◌≤◌, List, [], ◌∷◌, length, map, Some, refl, sym, ap, arith, slice_get}
use Rattle.std.specs.Map.{values_of}
use Rattle.indexmap.specs.IndexMap.{set_value_at}
use Rattle.world_heap.specs.declared.value.Property.{Property}
use Rattle.proto_props.specs.Freezes.{frozen_property, frozen_entry}

-- so many of them
abbrev pub part_frozen : ℕ → List (List ℕ × Property ℕ) → List (List ℕ × Property ℕ)
part_frozen zero es = es
part_frozen (suc n) [] = []
part_frozen (suc n) (e ∷ es) = frozen_entry e ∷ part_frozen n es

pub length-part : (n : ℕ) (es : List (List ℕ × Property ℕ)) → length (part_frozen n es) ≡ length es
length-part zero es = refl
length-part (suc n) [] = refl
length-part (suc n) (e ∷ es) = ap suc (length-part n es)

pub part_all : (n : ℕ) (es : List (List ℕ × Property ℕ)) → length es ≤ n → part_frozen n es ≡ map frozen_entry es
part_all zero [] h = refl
part_all zero (e ∷ es) h = absurd (omega arith)
part_all (suc n) [] h = refl
part_all (suc n) (e ∷ es) h = ap (λ ds. frozen_entry e ∷ ds) (part_all n es (omega arith))

-- one more
pub part_more : (n : ℕ) (es : List (List ℕ × Property ℕ)) (p q : Property ℕ) → n < length es → slice_get (values_of (part_frozen n es)) n ≡ Some p
    → set_value_at (set_value_at (part_frozen n es) n q) n (frozen_property p) ≡ part_frozen (suc n) es
part_more n [] p q h g = absurd (omega arith)
part_more zero (e ∷ es) p q h g = let same : e.1 ≡ p = cc in ap (λ x. (e.0, frozen_property x) ∷ es) (sym same)
part_more (suc n) (e ∷ es) p q h g = ap (λ ds. frozen_entry e ∷ ds) (part_more n es p q (omega (arith, h)) g)

pub length_written : (es : List (List ℕ × Property ℕ)) (i : ℕ) (w : Property ℕ) → length (set_value_at es i w) ≡ length es
length_written [] i w = refl
length_written (e ∷ es) zero w = refl
length_written (e ∷ es) (suc i) w = ap suc (length_written es i w)
