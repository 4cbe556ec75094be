-- Members that are put one after another, and cells that are filled one after another.
use Rattle.std.proofs.Common.{◌≡◌, ℕ, ◌<◌, true, false, if◌then◌else◌, List, [], ◌∷◌, length, get_or, nat_eq, Some, refl, sym, ap, ◌∙◌, subst, arith}
use Rattle.std.specs.Cmp.Lexicographic.{pointwise}
use Rattle.std.specs.Option.{option_and_then}
use Rattle.world_heap.specs.declared.value.Property.{Property}
use Rattle.world_heap.specs.declared.cell.Body.{Body}
use Rattle.world_heap.specs.declared.cell.Cell.{Cell}
use Rattle.world_heap.specs.Bodies.{body_of, rebodied}
use Rattle.world_heap.specs.Heaps.{Fits, IsCell, IsNoEnv, IsWell, IsWithin}
use Rattle.world_heap.specs.Maps.{keys, find, Stands}
use Rattle.world_heap.specs.Over.{PropertyOver, BodyOver, list_more, property_more}
use Rattle.world_heap.specs.Table.{put_under}
use Rattle.world_heap.specs.Views.{HeapView}
use Rattle.world_heap.proofs.Bodying.{fits_body, well_rebody}
use Rattle.js_realm.specs.Building.{Members, contents}
use Rattle.world_heap.specs.Stored.{IsDistinct}
use Rattle.js_realm.specs.Filling.{AreWithin, Fills, IsOpen, Puts, are_objects, filled}
use Rattle.js_realm.proofs.Listing.{keys-rebodied, length-keys, objects_filled, objects_no_env, rebodied_at, stands_at}

within_put : (places : List ℕ) (ms : Members) (name : List ℕ) (p : Property ℕ) → PropertyOver (Stands places) p → AreWithin places ms → AreWithin places (put_under ms name p)
within_put places [] name p h w = (h, tt)
within_put places (m ∷ ms) name p h w =
    elim (pointwise nat_eq name m.0) as (λ b. AreWithin places (if b then (m.0, p) ∷ ms else m ∷ put_under ms name p)) [
      | true ↦ (h, w.1)
      | false ↦ (w.0, within_put places ms name p h w.1)
    ]

pub puts_one : (places : List ℕ) (name : List ℕ) (p : Property ℕ) (old new : Members) → PropertyOver (Stands places) p → new ≡ put_under old name p → Puts places (λ ms. put_under ms name p) old new
puts_one places name p old new h is = record {
  is = is;
  within = λ w. subst (AreWithin places) (sym is) (within_put places old name p h w);
}

pub puts_then : (places : List ℕ) (f g : Members → Members) (a b c : Members) → Puts places f a b → Puts places g b c → Puts places (λ ms. g (f ms)) a c
puts_then places f g a b c p q = record {
  is = q.is ∙ ap g p.is;
  within = λ w. q.within (p.within w);
}

pub fills_then : (places : List ℕ) (f g : List (Cell ℕ) → List (Cell ℕ)) (a b c : HeapView) → Fills places f a b → Fills places g b c → Fills places (λ cs. g (f cs)) a c
fills_then places f g a b c p q = record {
  goes_on = q.goes_on;
  are = q.are ∙ ap g p.are;
  rest = q.rest ∙ ap (λ (h : HeapView). record h { cells = c.cells }) p.rest;
}

-- the object at a place of a heap with these locations
module _ (places : List ℕ) (heap : HeapView) (is_open : IsOpen places heap) (n : ℕ) (within : n < length places) where
  pub location_is : get_or (keys heap.cells) n 0 ≡ get_or places n 0
  location_is = ap (λ ks. get_or ks n 0) is_open.located

  among : n < length heap.cells
  among = omega (arith, length-keys heap.cells, ap length is_open.located, within)

  pub stands : IsCell nat_eq heap.cells (get_or places n 0)
  stands = subst (λ ks. Stands ks (get_or places n 0)) (sym is_open.located) (stands_at places n within)

  -- it gets other members
  pub fills_one : (b : Body ℕ) (ms : Members) (new : HeapView) → option_and_then body_of (find nat_eq heap.cells (get_or places n 0)) ≡ Some b
      → new ≡ record heap { cells = rebodied heap.cells (get_or places n 0) (record b { properties = ms }) } → Fills places (filled n ms) heap new
  fills_one b ms new found is =
      let l = get_or places n 0 in
      let cells : new.cells ≡ rebodied heap.cells l (record b { properties = ms }) = ap (λ (h : HeapView). h.cells) is in
      let here : option_and_then body_of (find nat_eq heap.cells (get_or (keys heap.cells) n 0)) ≡ Some b = ap (λ k. option_and_then body_of (find nat_eq heap.cells k)) location_is ∙ found in
      let distinct : IsDistinct (keys heap.cells) = subst IsDistinct (sym is_open.located) is_open.distinct in
      let are : contents new.cells ≡ filled n ms (contents heap.cells) =
      ap contents cells ∙ ap (λ k. contents (rebodied heap.cells k (record b { properties = ms }))) (sym location_is) ∙ rebodied_at heap.cells n b ms distinct among here in
      record {
        goes_on = record {
          located = ap keys cells ∙ keys-rebodied heap.cells l (record b { properties = ms }) ∙ is_open.located;
          distinct = is_open.distinct;
          objects = ap are_objects are ∙ objects_filled n ms (contents heap.cells) ∙ is_open.objects;
        };
        are = are;
        rest = is ∙ ap (λ cs. record heap { cells = cs }) (sym cells);
      }

  -- and the heap stays well
  pub well_filled : (c : Cell ℕ) (b : Body ℕ) (ms : Members) → find nat_eq heap.cells (get_or places n 0) ≡ Some c → body_of c ≡ Some b → Fits nat_eq heap.cells c → AreWithin places ms
      → IsWell nat_eq heap.cells → IsWell nat_eq (rebodied heap.cells (get_or places n 0) (record b { properties = ms }))
  well_filled c b ms found body fits members =
      let no_env : (l : ℕ) → Stands places l → IsNoEnv nat_eq heap.cells l = λ l h. objects_no_env heap.cells l is_open.objects (subst (λ ks. Stands ks l) (sym is_open.located) h) in
      let whole : BodyOver (IsNoEnv nat_eq heap.cells) b = fits_body (IsNoEnv nat_eq heap.cells) (IsCell nat_eq heap.cells) (IsWithin nat_eq heap.cells) c b body fits in
      well_rebody heap.cells (get_or places n 0) b (record b { properties = ms }) (ap (option_and_then body_of) found ∙ body) refl
      (whole.0, list_more (λ m. PropertyOver (Stands places) m.1) (λ m. PropertyOver (IsNoEnv nat_eq heap.cells) m.1) (λ m. property_more (Stands places) (IsNoEnv nat_eq heap.cells) no_env m.1) ms members)
