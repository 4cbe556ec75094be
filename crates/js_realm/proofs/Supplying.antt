-- The realm at the locations of a heap, and at those of a supply that the heap follows.
use Rattle.std.proofs.Common.{◌≡◌, ℕ, zero, suc, ◌+◌, ◌<◌, true, false, if◌then◌else◌, List, [], ◌∷◌, ◌++◌, length, get_or, nat_eq, nat_lt, Option, Some, None, refl, sym, ap, ◌∙◌, arith}
use Rattle.std.proofs.lemmas.Bool.Decides.{nat_tests}
use Rattle.std.specs.Prelude.{option_map, option_to_list}
use Rattle.world_kind.specs.declared.WorldKind.{WorldKind}
use Rattle.world_kind.specs.declared.WorldKind.TheVariants.{Main, Preload, Page}
use Rattle.world_heap.specs.declared.cell.Cell.{Cell}
use Rattle.world_heap.specs.Heaps.{IsNoEnv}
use Rattle.world_heap.specs.Maps.{keys}
use Rattle.world_heap.specs.Starting.{empty_heap, with_built_in}
use Rattle.world_heap.specs.Views.{Bounds, HeapView, PoolView}
use Rattle.js_semantics.specs.World.{limited}
use Rattle.js_semantics.specs.Realm.{located, realm, realm_cells, realm_length}
use Rattle.js_machine.specs.Closed.{HasRealm}
use Rattle.js_machine.specs.Does.{Follows, IsRealm}
use Rattle.js_realm.specs.Building.{IsBare, bare_cells, contents, supply_of}
use Rattle.world_heap.specs.Stored.{IsDistinct}
use Rattle.js_realm.specs.Filling.{Fills, IsOpen, are_objects, with_all}
use Rattle.js_realm.proofs.Listing.{length-contents, length-keys, objects_no_env, some_at, stands_at}

-- the bare cells are objects, and with all their members those of the realm
pub objects_bare : (supply : ℕ → Option ℕ) (kind : WorldKind) → are_objects (bare_cells supply kind) ≡ true
unfolding realm_cells
objects_bare supply Main = refl
objects_bare supply Preload = refl
objects_bare supply Page = refl

pub length-bare : (supply : ℕ → Option ℕ) (kind : WorldKind) → length (bare_cells supply kind) ≡ realm_length kind
unfolding realm_cells
length-bare supply Main = refl
length-bare supply Preload = refl
length-bare supply Page = refl

pub length-realm : (supply : ℕ → Option ℕ) (kind : WorldKind) → length (realm_cells supply kind) ≡ realm_length kind
unfolding realm_cells
length-realm supply Main = refl
length-realm supply Preload = refl
length-realm supply Page = refl

pub with_all_is : (places : List ℕ) (kind : WorldKind) → with_all places kind (bare_cells (supply_of places) kind) ≡ realm_cells (supply_of places) kind
unfolding realm_cells
with_all_is places Main = refl
with_all_is places Preload = refl
with_all_is places Page = refl

-- the first locations of a supply
cut : ℕ → (ℕ → Option ℕ) → ℕ → Option ℕ
cut n supply k = if nat_lt k n then supply k else None

-- the realm has no other locations
realm_cut : (supply : ℕ → Option ℕ) (kind : WorldKind) → realm_cells (cut (realm_length kind) supply) kind ≡ realm_cells supply kind
unfolding cut realm_cells
realm_cut supply Main = refl
realm_cut supply Preload = refl
realm_cut supply Page = refl

is_below : (k n : ℕ) → nat_lt k n ≡ true → k < n
is_below k n h = grind (arith, nat_tests)

below_is : (k n : ℕ) → k < n → nat_lt k n ≡ true
below_is k n h = grind (arith, nat_tests)

cut_same : (n : ℕ) (s t : ℕ → Option ℕ) → ((k : ℕ) → k < n → s k ≡ t k) → cut n s ≡ cut n t
unfolding cut
cut_same n s t same = λ i k. at k i
  where
    at : (k : ℕ) → (if nat_lt k n then s k else None) ≡ (if nat_lt k n then t k else None)
    at k = elim (nat_lt k n) as (λ b. nat_lt k n ≡ b → (if b then s k else None) ≡ (if b then t k else None)) [
      | true ↦ λ e. same k (is_below k n e)
      | false ↦ λ e. refl
    ] refl

realm_same : (kind : WorldKind) (s t : ℕ → Option ℕ) → ((k : ℕ) → k < realm_length kind → s k ≡ t k) → realm_cells s kind ≡ realm_cells t kind
realm_same kind s t same = sym (realm_cut s kind) ∙ ap (λ u. realm_cells u kind) (cut_same (realm_length kind) s t same) ∙ realm_cut t kind

-- cells at the locations of a supply that gives theirs
located_is : (supply : ℕ → Option ℕ) (cs : List (ℕ × Cell ℕ)) (place : ℕ) → ((n : ℕ) → n < length cs → supply (place + n) ≡ Some (get_or (keys cs) n 0)) → located supply place (contents cs) ≡ cs
located_is supply [] place h = refl
located_is supply (c ∷ cs) place h =
    let here : place ≡ place + 0 = omega arith in
    let next : (n : ℕ) → place + 1 + n ≡ place + suc n = λ n. omega arith in
    ap (λ o. option_to_list (option_map (λ l. (l, c.1)) o) ++ located supply (place + 1) (contents cs)) (ap supply here ∙ h 0 (omega arith))
    ∙ ap (λ ds. c ∷ ds) (located_is supply cs (place + 1) (λ n within. ap supply (next n) ∙ h (suc n) (omega arith)))

followed : (supply : ℕ → ℕ) (cs : List (ℕ × Cell ℕ)) (place : ℕ) → Follows supply place cs → (n : ℕ) → n < length cs → get_or (keys cs) n 0 ≡ supply (place + n)
followed supply [] place h n within = absurd (omega arith)
followed supply (c ∷ cs) place h zero within = let here : place ≡ place + 0 = omega arith in h.0 ∙ ap supply here
followed supply (c ∷ cs) place h (suc n) within = let next : suc place + n ≡ place + suc n = omega arith in followed supply cs (suc place) h.1 n (omega arith) ∙ ap supply next

-- A heap with the cells of the realm at its own locations has that of each supply that it follows.
pub is_realm : (supply : ℕ → ℕ) (kind : WorldKind) (heap : HeapView) → Follows supply 0 heap.cells → contents heap.cells ≡ realm_cells (supply_of (keys heap.cells)) kind
    → heap.base ≡ realm_length kind → heap.counts ≡ record { cells = 0; places = 0; units = 0 } → IsRealm supply kind heap
unfolding realm
is_realm supply kind heap follows are base counts =
    let all = limited (realm_length kind + heap.limits.cells) supply in
    let len : length heap.cells ≡ realm_length kind = sym (length-contents heap.cells) ∙ ap length are ∙ length-realm (supply_of (keys heap.cells)) kind in
    let given : (n : ℕ) → n < realm_length kind → all n ≡ Some (supply n) =
    λ n h. ap (λ b. if b then Some (supply n) else None) (below_is n (realm_length kind + heap.limits.cells) (omega arith)) in
    let met : (n : ℕ) → n < realm_length kind → get_or (keys heap.cells) n 0 ≡ supply n =
    λ n h. let first : 0 + n ≡ n = omega arith in followed supply heap.cells 0 follows n (omega (arith, len)) ∙ ap supply first in
    record {
      cells = sym (located_is all heap.cells 0 (λ n h. let first : 0 + n ≡ n = omega arith in ap all first ∙ given n (omega (arith, len)) ∙ ap Some (sym (met n (omega (arith, len))))))
          ∙ ap (located all 0) (are ∙ realm_same kind (supply_of (keys heap.cells)) all (λ n h. ap Some (met n h) ∙ sym (given n h)));
      base = base;
      counts = counts;
    }

-- a heap of bare cells, when it is filled
module _ (limits : Bounds) (pool : PoolView) (kind : WorldKind) (heap : HeapView) (places : List ℕ) (bare : IsBare limits pool kind heap) (at_places : places ≡ keys heap.cells) where
  pub open_bare : IsDistinct places → IsOpen places heap
  open_bare distinct = record {
    located = sym at_places;
    distinct = distinct;
    objects = ap are_objects bare.are ∙ objects_bare (supply_of (keys heap.cells)) kind;
  }

  pub places_are : length places ≡ realm_length kind
  places_are = ap length at_places ∙ length-keys heap.cells ∙ sym (length-contents heap.cells) ∙ ap length bare.are ∙ length-bare (supply_of (keys heap.cells)) kind

  pub realm_filled : (new : HeapView) → Fills places (with_all places kind) heap new → (supply : ℕ → ℕ) → Follows supply 0 new.cells → IsRealm supply kind new
  realm_filled new fills supply follows =
      let base : new.base ≡ realm_length kind = ap (λ (h : HeapView). h.base) fills.rest ∙ ap (λ (h : HeapView). h.base) bare.rest in
      let counts : new.counts ≡ record { cells = 0; places = 0; units = 0 } = ap (λ (h : HeapView). h.counts) fills.rest ∙ ap (λ (h : HeapView). h.counts) bare.rest in
      is_realm supply kind new follows
      (fills.are ∙ ap (with_all places kind) (bare.are ∙ ap (λ ks. bare_cells (supply_of ks) kind) (sym at_places)) ∙ with_all_is places kind
      ∙ ap (λ ks. realm_cells (supply_of ks) kind) (sym fills.goes_on.located))
      base counts

  pub realm_rest : (new : HeapView) → Fills places (with_all places kind) heap new → new ≡ with_built_in (empty_heap limits pool) new.cells
  realm_rest new fills =
      let len : length new.cells ≡ realm_length kind = sym (length-keys new.cells) ∙ ap length fills.goes_on.located ∙ places_are in
      let base : realm_length kind ≡ 0 + length new.cells = omega (arith, len) in
      fills.rest ∙ ap (λ (h : HeapView). record h { cells = new.cells }) bare.rest
      ∙ ap (λ n. record (empty_heap limits pool) { cells = new.cells; base = n }) base

  pub realm_stands : (new : HeapView) → Fills places (with_all places kind) heap new → HasRealm kind new.cells
  realm_stands new fills place below =
      let within : place < length (keys new.cells) = omega (arith, ap length fills.goes_on.located, places_are, below) in
      some_at (IsNoEnv nat_eq new.cells) (keys new.cells) place within
      (objects_no_env new.cells (get_or (keys new.cells) place 0) fills.goes_on.objects (stands_at (keys new.cells) place within))
