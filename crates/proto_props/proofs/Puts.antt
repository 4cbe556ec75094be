-- Properties put into bodies.
use Rattle.std.proofs.Common.{◌≡◌, ℕ, true, false, List, [], ◌∷◌, Some, refl, sym, ap, ◌∙◌, subst, nat_eq, if◌then◌else◌}
use Rattle.std.specs.Cmp.Lexicographic.{pointwise}
use Rattle.std.specs.Option.{option_and_then}
use Rattle.world_heap.specs.declared.cell.Body.{Body}
use Rattle.world_heap.specs.declared.cell.Cell.{Cell}
use Rattle.world_heap.specs.declared.cell.Cell.TheVariants.{Object, Array, Closure, Native, Far, Error, Map, Set, Promise, Port, Buffer, View, Symbol, Env}
use Rattle.world_heap.specs.declared.value.Property.{Property}
use Rattle.world_heap.specs.Maps.{find, put}
use Rattle.world_heap.specs.Table.{put_under}
use Rattle.world_heap.specs.Over.{ListOver, PropertyOver, BodyOver}
use Rattle.world_heap.specs.Heaps.{IsNoEnv, IsWell}
use Rattle.world_heap.specs.Bodies.{body_of, with_body, HasBody, rebodied}
use Rattle.world_heap.specs.Views.{HeapView}
use Rattle.world_heap.proofs.Bodying.{has_cell, rebodied_is}
use Rattle.proto_props.specs.Bared.{bare}
use Rattle.proto_props.specs.Adds.{with_property}
use Rattle.proto_props.proofs.Exchanges.{rebodied_body, rebodied_twice, body_over, well_back, put_same}

over_put : {V : Type 0} (P : V → Type 0) (entries : List (List ℕ × V)) (key : List ℕ) (v : V) → ListOver (λ m. P m.1) entries → P v → ListOver (λ m. P m.1) (put_under entries key v)
over_put P [] key v h p = (p, tt)
over_put P (e ∷ entries) key v h p =
    elim (pointwise nat_eq key e.0) as (λ t. ListOver (λ m. P m.1) (if t then (e.0, v) ∷ entries else e ∷ put_under entries key v)) [
      | true ↦ (p, h.1)
      | false ↦ (h.0, over_put P entries key v h.1 p)
    ]

with_body_same : (c : Cell ℕ) (b : Body ℕ) → body_of c ≡ Some b → with_body c b ≡ c
with_body_same (Object a) b h = let ab : a ≡ b = cc in ap Object (sym ab)
with_body_same (Array p vs f) b h = absurd (cc)
with_body_same (Closure a n v r) b h = let ab : a ≡ b = cc in ap (λ d. Closure d n v r) (sym ab)
with_body_same (Native a i vs) b h = let ab : a ≡ b = cc in ap (λ d. Native d i vs) (sym ab)
with_body_same (Far a n) b h = let ab : a ≡ b = cc in ap (λ d. Far d n) (sym ab)
with_body_same (Error a k) b h = let ab : a ≡ b = cc in ap (λ d. Error d k) (sym ab)
with_body_same (Map a es) b h = let ab : a ≡ b = cc in ap (λ d. Map d es) (sym ab)
with_body_same (Set a vs) b h = let ab : a ≡ b = cc in ap (λ d. Set d vs) (sym ab)
with_body_same (Promise a s rs) b h = let ab : a ≡ b = cc in ap (λ d. Promise d s rs) (sym ab)
with_body_same (Port a n v ms cs) b h = let ab : a ≡ b = cc in ap (λ d. Port d n v ms cs) (sym ab)
with_body_same (Buffer a bs) b h = let ab : a ≡ b = cc in ap (λ d. Buffer d bs) (sym ab)
with_body_same (View a l o n) b h = let ab : a ≡ b = cc in ap (λ d. View d l o n) (sym ab)
with_body_same (Symbol t) b h = absurd (cc)
with_body_same (Env o bs) b h = absurd (cc)

-- A body was taken out of a heap, and another put back.
module _ (old mid new : HeapView) (l : ℕ) (b : Body ℕ) (was : option_and_then body_of (find nat_eq old.cells l) ≡ Some b) (bared : mid ≡ record old { cells = rebodied old.cells l (bare b) }) where
  pub mid_body : HasBody mid.cells l
  mid_body = subst (λ (v : HeapView). HasBody v.cells l) (sym bared) (bare b, rebodied_body old.cells l b was (bare b))

  -- the same body
  pub back_well : IsWell nat_eq old.cells → IsWell nat_eq mid.cells → IsWell nat_eq (rebodied mid.cells l b)
  back_well well h =
      let is = ap (λ (v : HeapView). v.cells) bared in
      rw is (well_back old.cells l b was b refl (body_over old.cells l b was well) (rw is at h))

  pub back_same : new ≡ record mid { cells = rebodied mid.cells l b } → new ≡ old
  back_same e =
      let found = has_cell old.cells l b was in
      let cells : rebodied mid.cells l b ≡ old.cells = ap (λ (v : HeapView). rebodied v.cells l b) bared ∙ rebodied_twice old.cells l b was (bare b) b ∙ rebodied_is old.cells l found.0 b found.1
      ∙ ap (put nat_eq old.cells l) (with_body_same found.0 b found.2) ∙ put_same old.cells l found.0 found.1 in
      e ∙ (λ i. record (bared i) { cells = cells i })

  module _ (key : List ℕ) (p : Property ℕ) where
    pub put_well : PropertyOver (IsNoEnv nat_eq old.cells) p → IsWell nat_eq old.cells → IsWell nat_eq mid.cells → IsWell nat_eq (rebodied mid.cells l (with_property b key p))
    put_well fit well h =
        let is = ap (λ (v : HeapView). v.cells) bared in
        let over = body_over old.cells l b was well in
        let fits : BodyOver (IsNoEnv nat_eq old.cells) (with_property b key p) = (over.0, over_put (PropertyOver (IsNoEnv nat_eq old.cells)) b.properties key p over.1 fit) in
        rw is (well_back old.cells l b was (with_property b key p) refl fits (rw is at h))

    pub put_is : new ≡ record mid { cells = rebodied mid.cells l (with_property b key p) } → (c : Cell ℕ) (d : Body ℕ) → find nat_eq old.cells l ≡ Some c → body_of c ≡ Some d
        → new ≡ record old { cells = put nat_eq old.cells l (with_body c (with_property d key p)) }
    put_is e c d found has =
        let some : Some d ≡ Some b = sym (ap (option_and_then body_of) found ∙ has) ∙ was in
        let same : b ≡ d = cc in
        let cells : rebodied mid.cells l (with_property b key p) ≡ put nat_eq old.cells l (with_body c (with_property d key p)) =
        ap (λ (v : HeapView). rebodied v.cells l (with_property b key p)) bared ∙ rebodied_twice old.cells l b was (bare b) (with_property b key p) ∙ rebodied_is old.cells l c (with_property b key p) found
        ∙ ap (λ x. put nat_eq old.cells l (with_body c (with_property x key p))) same in
        e ∙ (λ i. record (bared i) { cells = cells i })
