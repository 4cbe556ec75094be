-- The built-in cells without their members: those of a new heap, and then the others.
use Rattle.std.proofs.Common.{◌≡◌, ℕ, ◌+◌, ◌<◌, true, List, [], ◌∷◌, ◌++◌, length, get_or, Some, None, refl, sym, ap, ◌∙◌, arith}
use Rattle.std.specs.Prelude.{replicate}
use Rattle.std.proofs.lemmas.List.{get_or_append_left}
use Rattle.world_kind.specs.declared.WorldKind.{WorldKind}
use Rattle.world_kind.specs.declared.WorldKind.TheVariants.{Main, Preload, Page}
use Rattle.world_heap.specs.declared.cell.Cell.{Cell}
use Rattle.world_heap.specs.BuiltIns.{plain_object, objects}
use Rattle.world_heap.specs.Maps.{keys}
use Rattle.world_heap.specs.Starting.{IsNew}
use Rattle.world_heap.specs.Views.{Bounds, HeapView, PoolView}
use Rattle.js_semantics.specs.Realm.{realm_cells, realm_length}
use Rattle.js_realm.specs.Building.{Adds, IsBare, bare_cells, contents, later_cells}
use Rattle.js_realm.specs.Filling.{are_objects}
use Rattle.js_realm.proofs.Listing.{contents-append, contents-objects, length-contents, length-keys}

-- the cells of a new heap
abbrev first_cells : (root error : ℕ) → List (Cell ℕ)
first_cells root error = (plain_object None ∷ plain_object (Some root) ∷ []) ++ replicate 6 (plain_object (Some error)) ++ replicate 9 (plain_object (Some root))

bare_is : (place : ℕ → ℕ) (kind : WorldKind) → first_cells (place 0) (place 1) ++ later_cells (place 0) (place 8) kind ≡ bare_cells (λ n. Some (place n)) kind
unfolding realm_cells
bare_is place Main = refl
bare_is place Preload = refl
bare_is place Page = refl

realm_has : (n root function : ℕ) (kind : WorldKind) → n ≡ 17 → n + length (later_cells root function kind) ≡ realm_length kind
realm_has n root function Main h = omega arith
realm_has n root function Preload h = omega arith
realm_has n root function Page h = omega arith

module _ (limits : Bounds) (pool : PoolView) (heap : HeapView) (new : IsNew limits pool heap) where
  cells_are : heap.cells ≡ ((((new.1.root, plain_object None) ∷ []) ++ objects new.1.root (new.1.error ∷ [])) ++ objects new.1.error new.1.kinds) ++ objects new.1.root new.1.rest
  cells_are = ap (λ (h : HeapView). h.cells) new.2 ∙ new.1.are

  root_is : get_or (keys heap.cells) 0 0 ≡ new.1.root
  root_is = ap (λ cs. get_or (keys cs) 0 0) cells_are

  error_is : get_or (keys heap.cells) 1 0 ≡ new.1.error
  error_is = ap (λ cs. get_or (keys cs) 1 0) cells_are

  contents_are : contents heap.cells ≡ first_cells new.1.root new.1.error
  contents_are =
      let a = new.1 in
      let front : List (ℕ × Cell ℕ) = (a.root, plain_object None) ∷ (a.error, plain_object (Some a.root)) ∷ [] in
      ap contents cells_are
      ∙ contents-append (front ++ objects a.error a.kinds) (objects a.root a.rest)
      ∙ (λ i. contents-append front (objects a.error a.kinds) i ++ contents-objects a.root a.rest 9 a.nine i)
      ∙ (λ i. (contents front ++ contents-objects a.error a.kinds 6 a.six i) ++ replicate 9 (plain_object (Some a.root)))

  pub length_is : length heap.cells ≡ 17
  length_is = sym (length-contents heap.cells) ∙ ap length contents_are

  pub base_is : heap.base ≡ 17
  base_is =
      let base : heap.base ≡ 0 + length new.0 = ap (λ (h : HeapView). h.base) new.2 in
      let cells : heap.cells ≡ new.0 = ap (λ (h : HeapView). h.cells) new.2 in
      let len = length_is in
      omega (arith, base, ap length cells, len)

  pub objects_are : are_objects (contents heap.cells) ≡ true
  objects_are = ap are_objects contents_are

  -- with the cells behind them
  pub bare_then : (kind : WorldKind) (whole : HeapView) → Adds (later_cells (get_or (keys heap.cells) 0 0) (get_or (keys heap.cells) 8 0) kind) heap whole → IsBare limits pool kind whole
  bare_then kind whole adds =
      let ks = keys heap.cells in
      let later = later_cells (get_or ks 0 0) (get_or ks 8 0) kind in
      let len : length ks ≡ 17 = length-keys heap.cells ∙ length_is in
      let same : (n : ℕ) → n < 17 → get_or ks n 0 ≡ get_or (keys whole.cells) n 0 =
      λ n h. sym (get_or_append_left ks adds.locs 0 n (omega arith)) ∙ ap (λ l. get_or l n 0) (sym adds.places) in
      let root = same 0 (omega arith) in
      let error = same 1 (omega arith) in
      let function = same 8 (omega arith) in
      let all : heap.base + length later ≡ realm_length kind = realm_has heap.base (get_or ks 0 0) (get_or ks 8 0) kind base_is in
      record {
        are = adds.are ∙ ap (λ cs. cs ++ later) contents_are
            ∙ sym (λ i. first_cells (root_is i) (error_is i) ++ later)
            ∙ (λ i. first_cells (root i) (error i) ++ later_cells (root i) (function i) kind)
            ∙ bare_is (λ n. get_or (keys whole.cells) n 0) kind;
        rest = adds.rest ∙ ap (λ n. record heap { cells = whole.cells; base = n }) all
            ∙ ap (λ (h : HeapView). record h { cells = whole.cells; base = realm_length kind }) new.2;
      }
