-- Where a search along environments comes to.
use Rattle.std.proofs.Common.{◌≡◌, ◌+◌, ℕ, suc, true, false, List, [], ◌∷◌, Option, Some, None, slice_get, option_map, nat_eq, if◌then◌else◌, cond, refl, ap, sym, ◌∙◌, arith}
use Rattle.std.specs.List.{position_from}
use Rattle.std.specs.Option.{option_and_then}
use Rattle.std.proofs.lemmas.Iterator.Adapters.{position_from-zero}
use Rattle.world_heap.specs.declared.cell.Binding.{Binding}
use Rattle.world_heap.specs.declared.cell.Cell.{Cell}
use Rattle.world_heap.specs.declared.cell.Cell.TheVariants.{Env}
use Rattle.world_heap.specs.Maps.{find}
use Rattle.world_heap.specs.Views.{HeapView}
use Rattle.js_semantics.specs.World.{World, over}
use Rattle.js_semantics.specs.Properties.{same_text}
use Rattle.js_semantics.specs.Environments.{binding_in, outside, binding_within}
use Rattle.js_names.specs.declared.place.Seen.{Seen}
use Rattle.js_names.specs.declared.place.Seen.TheVariants.{Here, Outer, Nowhere}
use Rattle.js_names.specs.Places.{place_in, beyond, here_or, seen_in, binding_under, placed}

-- the binding of a name stands at the name's place
in_place_from : (n i : ℕ) (bs : List (Binding ℕ)) (name : List ℕ) → position_from (λ (b : Binding ℕ). same_text b.name name) n bs ≡ Some i → (k : ℕ) × (i ≡ n + k) × (slice_get bs k ≡ binding_in bs name)
in_place_from n i [] name h = absurd (cc)
in_place_from n i (b ∷ bs) name h =
    elim (same_text b.name name) as (λ t. cond t (Some n) (position_from (λ (b : Binding ℕ). same_text b.name name) (n + 1) bs) ≡ Some i → (k : ℕ) × (i ≡ n + k) × (slice_get (b ∷ bs) k ≡ (if t then Some b else binding_in bs name))) [
      | true ↦ λ e. let ni : n ≡ i = cc in (0, omega (arith, ni), refl)
      | false ↦ λ e. let rest = in_place_from (n + 1) i bs name e in (suc rest.0, omega (arith, rest.1), rest.2)
    ] h

no_place_from : (n : ℕ) (bs : List (Binding ℕ)) (name : List ℕ) → position_from (λ (b : Binding ℕ). same_text b.name name) n bs ≡ None → binding_in bs name ≡ None
no_place_from n [] name h = refl
no_place_from n (b ∷ bs) name h =
    elim (same_text b.name name) as (λ t. cond t (Some n) (position_from (λ (b : Binding ℕ). same_text b.name name) (n + 1) bs) ≡ None → (if t then Some b else binding_in bs name) ≡ None) [
      | true ↦ λ e. absurd (cc)
      | false ↦ λ e. no_place_from (n + 1) bs name e
    ] h

pub in_place : (bs : List (Binding ℕ)) (name : List ℕ) (i : ℕ) → place_in bs name ≡ Some i → slice_get bs i ≡ binding_in bs name
in_place bs name i h =
    let found = in_place_from 0 i bs name (sym (position_from-zero (λ (b : Binding ℕ). same_text b.name name) bs) ∙ h) in
    let same : i ≡ found.0 = omega (arith, found.1) in
    ap (slice_get bs) same ∙ found.2

pub no_place : (bs : List (Binding ℕ)) (name : List ℕ) → place_in bs name ≡ None → binding_in bs name ≡ None
no_place bs name h = no_place_from 0 bs name (sym (position_from-zero (λ (b : Binding ℕ). same_text b.name name) bs) ∙ h)

-- a name has a binding exactly where it has a place
in_place_some : (n i : ℕ) (bs : List (Binding ℕ)) (name : List ℕ) → position_from (λ (b : Binding ℕ). same_text b.name name) n bs ≡ Some i → (b : Binding ℕ) × (binding_in bs name ≡ Some b)
in_place_some n i [] name h = absurd (cc)
in_place_some n i (b ∷ bs) name h =
    elim (same_text b.name name) as (λ t. cond t (Some n) (position_from (λ (b : Binding ℕ). same_text b.name name) (n + 1) bs) ≡ Some i → (x : Binding ℕ) × ((if t then Some b else binding_in bs name) ≡ Some x)) [
      | true ↦ λ e. (b, refl)
      | false ↦ λ e. in_place_some (n + 1) i bs name e
    ] h

pub place_some : (bs : List (Binding ℕ)) (name : List ℕ) (i : ℕ) → place_in bs name ≡ Some i → (b : Binding ℕ) × (binding_in bs name ≡ Some b)
place_some bs name i h = in_place_some 0 i bs name (sym (position_from-zero (λ (b : Binding ℕ). same_text b.name name) bs) ∙ h)

-- where a search goes from what is seen in a cell
abbrev pub went : (ℕ → Option (ℕ × Binding ℕ)) → (ℕ → Option (Cell ℕ)) → ℕ → Seen ℕ → Option (ℕ × Binding ℕ)
went on cell at (Here place) = placed cell (Some (at, place))
went on cell at (Outer outer) = on outer
went on cell at Nowhere = None

env_went : (on : ℕ → Option (ℕ × Binding ℕ)) (cell : ℕ → Option (Cell ℕ)) (at : ℕ) (name : List ℕ) (outer : Option ℕ) (bs : List (Binding ℕ)) → cell at ≡ Some (Env outer bs)
    → outside (Some (Env outer bs)) at name on ≡ went on cell at (here_or (place_in bs name) outer)
env_went on cell at name outer bs is =
    elim (place_in bs name) as (λ p. place_in bs name ≡ p → outside (Some (Env outer bs)) at name on ≡ went on cell at (here_or p outer)) [
      | Some i ↦ λ e.
          let found = place_some bs name i e in
          let left = ap (λ b. elim b as (λ _. Option (ℕ × Binding ℕ)) [ Some b ↦ Some (at, b) | None ↦ option_and_then on outer ]) found.1 in
          let right : placed cell (Some (at, i)) ≡ Some (at, found.0) = ap (λ c. option_map (λ b. (at, b)) (binding_under c i)) is ∙ ap (option_map (λ b. (at, b))) (in_place bs name i e ∙ found.1) in
          left ∙ sym right
      | None ↦ λ e.
          let left = ap (λ b. elim b as (λ _. Option (ℕ × Binding ℕ)) [ Some b ↦ Some (at, b) | None ↦ option_and_then on outer ]) (no_place bs name e) in
          left ∙ elim outer as (λ o. option_and_then on o ≡ went on cell at (beyond o)) [ None ↦ refl | Some l ↦ refl ]
    ] refl

cell_went : (on : ℕ → Option (ℕ × Binding ℕ)) (cell : ℕ → Option (Cell ℕ)) (at : ℕ) (name : List ℕ) (c : Cell ℕ) → cell at ≡ Some c → outside (Some c) at name on ≡ went on cell at (seen_in c name)
cell_went on cell at name (Env outer bs) is = env_went on cell at name outer bs is
cell_went on cell at name other is = refl

-- a turn of the search
pub turn : (h : HeapView) (w : World ℕ) (name : List ℕ) (n m at : ℕ) (c : Cell ℕ) (s : Seen ℕ) → n ≡ suc m → find nat_eq h.cells at ≡ Some c → s ≡ seen_in c name
    → binding_within n at name (over h w) ≡ went (λ outer. binding_within m outer name (over h w)) (find nat_eq h.cells) at s
turn h w name n m at c s e f is =
    let on : ℕ → Option (ℕ × Binding ℕ) = λ outer. binding_within m outer name (over h w) in
    ap (λ k. binding_within k at name (over h w)) e ∙ ap (λ o. outside o at name on) f ∙ cell_went on (find nat_eq h.cells) at name c f ∙ ap (went on (find nat_eq h.cells) at) (sym is)

pub turn_none : (h : HeapView) (w : World ℕ) (name : List ℕ) (n m at : ℕ) → n ≡ suc m → find nat_eq h.cells at ≡ None → binding_within n at name (over h w) ≡ None
turn_none h w name n m at e f =
    ap (λ k. binding_within k at name (over h w)) e ∙ ap (λ o. outside o at name (λ outer. binding_within m outer name (over h w))) f
