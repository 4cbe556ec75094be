-- Lemmas on lists of nodes.
use Rattle.std.proofs.Common.{inl, inr, ◌⊎◌, ◌≡◌, ◌<◌, ◌≤◌, ◌+◌, ℕ, zero, suc, List, [], ◌∷◌, ◌++◌, length, Option, Some, None, refl, ap, sym, ◌∙◌, subst, arith, get_or, length-append}
use Rattle.std.specs.List.{slice_get}
use Rattle.std.proofs.lemmas.Option.{slice_get_within, slice_get-get_or, get_or_from_slice_get}
use Rattle.std.proofs.lemmas.List.{get_or_append_left}
use Rattle.std.proofs.Math.Seq.{get_or-append_seam}
use Rattle.std.proofs.Math.Nat.{eq-or-lt_of_le}
use Rattle.std.specs.Option.{option_map}
use Rattle.js_tree.specs.declared.node.Node.{Node}
use Rattle.js_tree.specs.Nodes.{Nodes, node_at, StandsBelow, IsTree}

-- What stands in a list with one more at its end stands in the list, or is that one.
pub slice_get-push : {A : Type 0} (xs : List A) (y : A) (k : ℕ) (z : A) → slice_get (xs ++ y ∷ []) k ≡ Some z
    → (slice_get xs k ≡ Some z) ⊎ ((k ≡ length xs) × (y ≡ z))
slice_get-push xs y k z e =
    let within = slice_get_within (xs ++ y ∷ []) k z e in
    let bound : k ≤ length xs = omega (arith, within, length-append xs (y ∷ [])) in
    let found = get_or_from_slice_get (xs ++ y ∷ []) k z y e in
    elim (eq-or-lt_of_le bound) [
      | inl same ↦ inr (same, sym (get_or-append_seam xs y [] y) ∙ (ap (λ i. get_or (xs ++ y ∷ []) i y) (sym same) ∙ found))
      | inr below ↦ inl (slice_get-get_or xs k y below ∙ ap Some (sym (get_or_append_left xs (y ∷ []) y k below) ∙ found))
    ]

pub found_there : {A B : Type 0} (f : A → B) (o : Option A) (b : B) → option_map f o ≡ Some b → (a : A) × (o ≡ Some a) × (f a ≡ b)
found_there f (Some a) b e = (a, refl, cc)
found_there f None b e = absurd (cc)

-- A node whose children stand may come next.
pub IsTree-push : (nodes : Nodes) (node : Node) (place : ℕ) → IsTree nodes → StandsBelow (length nodes) node
    → IsTree (nodes ++ (node, place) ∷ [])
unfolding IsTree node_at
IsTree-push nodes node place ordered stands id found e =
    let there = found_there (λ n. n.0) (slice_get (nodes ++ (node, place) ∷ []) id) found e in
    elim (slice_get-push nodes (node, place) id there.0 there.1) [
      | inl old ↦ ordered id found (ap (option_map (λ n. n.0)) old ∙ ap Some there.2)
      | inr last ↦ rw (last.0, ← there.2, ← last.1) stands
    ]

pub length-pushed : {A : Type 0} (xs : List A) (y : A) → length (xs ++ y ∷ []) ≡ length xs + 1
length-pushed xs y = length-append xs (y ∷ []) ∙ omega arith
