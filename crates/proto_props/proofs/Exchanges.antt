-- Bodies taken out of a heap and put back.
use Rattle.std.proofs.Common.{◌≡◌, ℕ, true, false, List, [], ◌∷◌, Some, None, Option, refl, sym, ap, ◌∙◌, subst, arith, nat_eq, if◌then◌else◌, cond, Bool, length, map}
use Rattle.std.specs.Option.{option_and_then, option_map_or}
use Rattle.std.proofs.lemmas.Bool.Decides.{nat_tests}
use Rattle.world_heap.specs.declared.cell.Body.{Body}
use Rattle.world_heap.specs.declared.cell.Cell.{Cell}
use Rattle.world_heap.specs.declared.cell.Cell.TheVariants.{Object, Array, Closure, Native, Far, Error, Map, Set, Promise, Port, Buffer, View, Symbol, Env}
use Rattle.world_heap.specs.Maps.{keys, find, put, find-put, keys-put}
use Rattle.world_heap.specs.Table.{left_without}
use Rattle.world_heap.specs.Over.{ListOver, OptionOver, ValueOver, PropertyOver, BodyOver, list_more, option_more, value_more, property_more}
use Rattle.world_heap.specs.Heaps.{IsNoEnv, IsCell, IsWithin, Fits, IsWell}
use Rattle.world_heap.specs.Bodies.{body_of, with_body, HasBody, rebodied}
use Rattle.world_heap.proofs.Wells.{Alike, well_put, fits_found, found_stands, put_kept, no_env_kept}
use Rattle.world_heap.proofs.Bodying.{has_cell, put-put, rebodied_is, alike_body, fits_body, well_rebody}
use Rattle.world_heap.specs.declared.value.Value.{Value}
use Rattle.world_heap.specs.declared.value.Property.{Property}
use Rattle.world_heap.specs.declared.value.Property.TheVariants.{Data, Access}
use Rattle.proto_props.specs.Bared.{bare}
use Rattle.proto_props.specs.Freezes.{frozen_property, frozen_entry, frozen_body, frozen_cell, cells_frozen}
use Rattle.wl_text.specs.Number.{index_of}
use Rattle.proto_props.specs.declared.remove.Removal.{Removal}
use Rattle.proto_props.specs.declared.remove.Removal.TheVariants.{Absent, Fixed, Free}
use Rattle.proto_props.specs.Own.{is_length, is_index_below}
use Rattle.proto_props.specs.Removes.{removal, body_without, cells_without, after_removal}

with_body-twice : (c : Cell ℕ) (d e : Body ℕ) → with_body (with_body c d) e ≡ with_body c e
with_body-twice (Object b) d e = refl
with_body-twice (Array p vs f) d e = refl
with_body-twice (Closure b n v r) d e = refl
with_body-twice (Native b i vs) d e = refl
with_body-twice (Far b n) d e = refl
with_body-twice (Error b k) d e = refl
with_body-twice (Map b es) d e = refl
with_body-twice (Set b vs) d e = refl
with_body-twice (Promise b s rs) d e = refl
with_body-twice (Port b n v ms cs) d e = refl
with_body-twice (Buffer b bs) d e = refl
with_body-twice (View b l o n) d e = refl
with_body-twice (Symbol t) d e = refl
with_body-twice (Env o bs) d e = refl

body_of-with : (c : Cell ℕ) (b d : Body ℕ) → body_of c ≡ Some b → body_of (with_body c d) ≡ Some d
body_of-with (Object a) b d h = refl
body_of-with (Array p vs f) b d h = absurd (cc)
body_of-with (Closure a n v r) b d h = refl
body_of-with (Native a i vs) b d h = refl
body_of-with (Far a n) b d h = refl
body_of-with (Error a k) b d h = refl
body_of-with (Map a es) b d h = refl
body_of-with (Set a vs) b d h = refl
body_of-with (Promise a s rs) b d h = refl
body_of-with (Port a n v ms cs) b d h = refl
body_of-with (Buffer a bs) b d h = refl
body_of-with (View a l o n) b d h = refl
body_of-with (Symbol t) b d h = absurd (cc)
body_of-with (Env o bs) b d h = absurd (cc)

pub body_stands : (cells : List (ℕ × Cell ℕ)) (l : ℕ) → HasBody cells l → IsCell nat_eq cells l
body_stands cells l h = let found = has_cell cells l h.0 h.1 in found_stands cells l found.0 found.1

module _ (cells : List (ℕ × Cell ℕ)) (l : ℕ) (b : Body ℕ) (h : option_and_then body_of (find nat_eq cells l) ≡ Some b) where
  at_new : (d : Body ℕ) → let c = (has_cell cells l b h).0 in find nat_eq (put nat_eq cells l (with_body c d)) l ≡ Some (with_body c d)
  at_new d =
      let found = has_cell cells l b h in
      let same : nat_eq l l ≡ true = grind (arith, nat_tests) in
      find-put cells l (with_body found.0 d) l (found_stands cells l found.0 found.1) ∙ ap (λ t. if t then Some (with_body found.0 d) else find nat_eq cells l) same

  -- the body that was put is there
  pub rebodied_body : (d : Body ℕ) → option_and_then body_of (find nat_eq (rebodied cells l d) l) ≡ Some d
  rebodied_body d =
      let found = has_cell cells l b h in
      ap (λ cs. option_and_then body_of (find nat_eq cs l)) (rebodied_is cells l found.0 d found.1) ∙ ap (option_and_then body_of) (at_new d) ∙ body_of-with found.0 b d found.2

  -- only the last of two bodies counts
  pub rebodied_twice : (d e : Body ℕ) → rebodied (rebodied cells l d) l e ≡ rebodied cells l e
  rebodied_twice d e =
      let found = has_cell cells l b h in
      let c = found.0 in
      ap (λ cs. rebodied cs l e) (rebodied_is cells l c d found.1)
      ∙ rebodied_is (put nat_eq cells l (with_body c d)) l (with_body c d) e (at_new d)
      ∙ ap (put nat_eq (put nat_eq cells l (with_body c d)) l) (with_body-twice c d e)
      ∙ put-put cells l (with_body c d) (with_body c e)
      ∙ sym (rebodied_is cells l c e found.1)

  pub body_over : IsWell nat_eq cells → BodyOver (IsNoEnv nat_eq cells) b
  body_over well =
      let found = has_cell cells l b h in
      fits_body (IsNoEnv nat_eq cells) (IsCell nat_eq cells) (IsWithin nat_eq cells) found.0 b found.2 (fits_found (Fits nat_eq cells) cells l found.0 well.fits found.1)

  -- a body with the same prototype leaves the others where they are
  pub rebodied_no_env : (d : Body ℕ) → d.proto ≡ b.proto → (k : ℕ) → IsNoEnv nat_eq cells k → IsNoEnv nat_eq (rebodied cells l d) k
  rebodied_no_env d e k n =
      let found = has_cell cells l b h in
      subst (λ cs. IsNoEnv nat_eq cs k) (sym (rebodied_is cells l found.0 d found.1))
      (no_env_kept cells (put nat_eq cells l (with_body found.0 d)) (put_kept cells l (with_body found.0 d) found.0 found.1 (alike_body found.0 b d found.2 e)) k n)

  pub well_bare : IsWell nat_eq cells → IsWell nat_eq (rebodied cells l (bare b))
  well_bare well = well_rebody cells l b (bare b) h refl ((body_over well).0, tt) well

  -- a body is put back that fits, with the same prototype
  pub well_back : (d : Body ℕ) → d.proto ≡ b.proto → BodyOver (IsNoEnv nat_eq cells) d → IsWell nat_eq (rebodied cells l (bare b)) → IsWell nat_eq (rebodied (rebodied cells l (bare b)) l d)
  well_back d e fit well =
      let cells1 = rebodied cells l (bare b) in
      let more = rebodied_no_env (bare b) refl in
      well_rebody cells1 l (bare b) d (rebodied_body (bare b)) e (
        option_more (IsNoEnv nat_eq cells) (IsNoEnv nat_eq cells1) more d.proto fit.0,
        list_more (λ m. PropertyOver (IsNoEnv nat_eq cells) m.1) (λ m. PropertyOver (IsNoEnv nat_eq cells1) m.1) (λ m. property_more (IsNoEnv nat_eq cells) (IsNoEnv nat_eq cells1) more m.1) d.properties fit.1,
      )
      well

  pub without_is : (key : List ℕ) → cells_without cells l key ≡ rebodied cells l (body_without b key)
  without_is key = ap (λ o. option_map_or (λ d. rebodied cells l (body_without d key)) o cells) h

-- without a name the others stay
pub over_left : {V : Type 0} (P : List ℕ × V → Type 0) (entries : List (List ℕ × V)) (key : List ℕ) → ListOver P entries → ListOver P (left_without entries key)
over_left P [] key h = tt
over_left P (e ∷ entries) key h =
    elim (Rattle.std.specs.Cmp.Lexicographic.pointwise nat_eq key e.0) as (λ t. ListOver P (cond t entries (e ∷ left_without entries key))) [
      | true ↦ h.1
      | false ↦ (h.0, over_left P entries key h.1)
    ]

-- A property that may be removed is one of a body.
pub free_body : (c : Cell ℕ) (key : List ℕ) → removal c key ≡ Free → (b : Body ℕ) × (body_of c ≡ Some b)
free_body (Object b) key h = (b, refl)
free_body (Array p vs f) key h =
    elim (is_length key) as (λ t. (if t then Fixed else if is_index_below (length vs) (index_of key) then Fixed else Absent) ≡ Free → (b : Body ℕ) × (body_of (Array p vs f) ≡ Some b)) [
      | true ↦ λ e. absurd (cc)
      | false ↦ elim (is_index_below (length vs) (index_of key)) as (λ t. (if t then Fixed else Absent) ≡ Free → (b : Body ℕ) × (body_of (Array p vs f) ≡ Some b)) [
        | true ↦ λ e. absurd (cc)
        | false ↦ λ e. absurd (cc)
      ]
    ] h
free_body (Closure b n v r) key h = (b, refl)
free_body (Native b i vs) key h = (b, refl)
free_body (Far b n) key h = (b, refl)
free_body (Error b k) key h = (b, refl)
free_body (Map b es) key h = (b, refl)
free_body (Set b vs) key h = (b, refl)
free_body (Promise b s rs) key h = (b, refl)
free_body (Port b n v ms cs) key h = (b, refl)
free_body (Buffer b bs) key h = (b, refl)
free_body (View b l o n) key h = (b, refl)
free_body (Symbol t) key h = absurd (cc)
free_body (Env o bs) key h = absurd (cc)

-- An array of the same prototype with values that fit is put in the place of an array.
module _ (cells : List (ℕ × Cell ℕ)) (l : ℕ) (p : Option ℕ) (vs : List (Value ℕ)) (f : Bool) (found : find nat_eq cells l ≡ Some (Array p vs f)) where
  alike_array : (ws : List (Value ℕ)) (g : Bool) → Alike (Array p vs f) (Array p ws g)
  alike_array ws g = record { env = refl; proto = refl; bytes = refl }

  values_over : IsWell nat_eq cells → OptionOver (IsNoEnv nat_eq cells) p × ListOver (ValueOver (IsNoEnv nat_eq cells)) vs
  values_over well = fits_found (Fits nat_eq cells) cells l (Array p vs f) well.fits found

  pub well_array : (ws : List (Value ℕ)) (g : Bool) → ListOver (ValueOver (IsNoEnv nat_eq cells)) ws → IsWell nat_eq cells → IsWell nat_eq (put nat_eq cells l (Array p ws g))
  well_array ws g over well = well_put cells l (Array p ws g) (Array p vs f) found (alike_array ws g) well ((values_over well).0, over)

  pub array_found : (ws : List (Value ℕ)) (g : Bool) → find nat_eq (put nat_eq cells l (Array p ws g)) l ≡ Some (Array p ws g)
  array_found ws g =
      let same : nat_eq l l ≡ true = grind (arith, nat_tests) in
      find-put cells l (Array p ws g) l (found_stands cells l (Array p vs f) found) ∙ ap (λ t. if t then Some (Array p ws g) else find nat_eq cells l) same

  -- the values fit in the heap with another array there
  pub values_kept : IsWell nat_eq cells → (ws : List (Value ℕ)) (g : Bool) → ListOver (ValueOver (IsNoEnv nat_eq (put nat_eq cells l (Array p ws g)))) vs
  values_kept well ws g =
      let new = put nat_eq cells l (Array p ws g) in
      list_more (ValueOver (IsNoEnv nat_eq cells)) (ValueOver (IsNoEnv nat_eq new))
      (value_more (IsNoEnv nat_eq cells) (IsNoEnv nat_eq new) (no_env_kept cells new (put_kept cells l (Array p ws g) (Array p vs f) found (alike_array ws g)))) vs (values_over well).1

  pub array_frozen : cells_frozen cells l ≡ put nat_eq cells l (Array p vs true)
  array_frozen = ap (λ o. option_map_or (λ c. put nat_eq cells l (frozen_cell c)) o cells) found

-- a frozen property fits where the property does
module _ (P : ℕ → Type 0) where
  hard_fits : (p : Property ℕ) → PropertyOver P p → PropertyOver P (frozen_property p)
  hard_fits (Data v w e c) h = h
  hard_fits (Access g s e c) h = h

  pub frozen_fits : (es : List (List ℕ × Property ℕ)) → ListOver (λ m. PropertyOver P m.1) es → ListOver (λ m. PropertyOver P m.1) (map frozen_entry es)
  frozen_fits [] h = tt
  frozen_fits (e ∷ es) h = (hard_fits e.1 h.0, frozen_fits es h.1)

frozen_by : (c : Cell ℕ) (b : Body ℕ) → body_of c ≡ Some b → frozen_cell c ≡ with_body c (frozen_body b)
frozen_by (Object a) b h = let e : a ≡ b = cc in ap (λ d. Object (frozen_body d)) e
frozen_by (Array p vs f) b h = absurd (cc)
frozen_by (Closure a n v r) b h = let e : a ≡ b = cc in ap (λ d. Closure (frozen_body d) n v r) e
frozen_by (Native a i vs) b h = let e : a ≡ b = cc in ap (λ d. Native (frozen_body d) i vs) e
frozen_by (Far a n) b h = let e : a ≡ b = cc in ap (λ d. Far (frozen_body d) n) e
frozen_by (Error a k) b h = let e : a ≡ b = cc in ap (λ d. Error (frozen_body d) k) e
frozen_by (Map a es) b h = let e : a ≡ b = cc in ap (λ d. Map (frozen_body d) es) e
frozen_by (Set a vs) b h = let e : a ≡ b = cc in ap (λ d. Set (frozen_body d) vs) e
frozen_by (Promise a s rs) b h = let e : a ≡ b = cc in ap (λ d. Promise (frozen_body d) s rs) e
frozen_by (Port a n v ms cs) b h = let e : a ≡ b = cc in ap (λ d. Port (frozen_body d) n v ms cs) e
frozen_by (Buffer a bs) b h = let e : a ≡ b = cc in ap (λ d. Buffer (frozen_body d) bs) e
frozen_by (View a l o n) b h = let e : a ≡ b = cc in ap (λ d. View (frozen_body d) l o n) e
frozen_by (Symbol t) b h = absurd (cc)
frozen_by (Env o bs) b h = absurd (cc)

pub body_frozen : (cells : List (ℕ × Cell ℕ)) (l : ℕ) (b : Body ℕ) → option_and_then body_of (find nat_eq cells l) ≡ Some b → cells_frozen cells l ≡ rebodied cells l (frozen_body b)
body_frozen cells l b h =
    let found = has_cell cells l b h in
    ap (λ o. option_map_or (λ c. put nat_eq cells l (frozen_cell c)) o cells) found.1 ∙ ap (put nat_eq cells l) (frozen_by found.0 b found.2) ∙ sym (rebodied_is cells l found.0 (frozen_body b) found.1)

-- A cell without a body that is no array is frozen as it is.
pub frozen_none : (c : Cell ℕ) → body_of c ≡ None → ((p : Option ℕ) (vs : List (Value ℕ)) (f : Bool) → c ≡ Array p vs f → ⊥) → frozen_cell c ≡ c
frozen_none (Object b) h n = absurd (cc)
frozen_none (Array p vs f) h n = absurd (n p vs f refl)
frozen_none (Closure b n v r) h k = absurd (cc)
frozen_none (Native b i vs) h n = absurd (cc)
frozen_none (Far b n) h k = absurd (cc)
frozen_none (Error b k) h n = absurd (cc)
frozen_none (Map b es) h n = absurd (cc)
frozen_none (Set b vs) h n = absurd (cc)
frozen_none (Promise b s rs) h n = absurd (cc)
frozen_none (Port b n v ms cs) h k = absurd (cc)
frozen_none (Buffer b bs) h n = absurd (cc)
frozen_none (View b l o n) h k = absurd (cc)
frozen_none (Symbol t) h n = refl
frozen_none (Env o bs) h n = refl

pub put_same : {C : Type 0} (cs : List (ℕ × C)) (l : ℕ) (c : C) → find nat_eq cs l ≡ Some c → put nat_eq cs l c ≡ cs
put_same [] l c h = refl
put_same (x ∷ cs) l c h =
    elim (nat_eq x.0 l) as (λ t. (if t then Some x.1 else find nat_eq cs l) ≡ Some c → (if t then (x.0, c) ∷ cs else x ∷ put nat_eq cs l c) ≡ x ∷ cs) [
      | true ↦ λ e. let same : x.1 ≡ c = cc in ap (λ d. (x.0, d) ∷ cs) (sym same)
      | false ↦ λ e. ap (λ ds. x ∷ ds) (put_same cs l c e)
    ] h

pub none_frozen : (cells : List (ℕ × Cell ℕ)) (l : ℕ) (c : Cell ℕ) → find nat_eq cells l ≡ Some c → frozen_cell c ≡ c → cells_frozen cells l ≡ cells
none_frozen cells l c h e = ap (λ o. option_map_or (λ d. put nat_eq cells l (frozen_cell d)) o cells) h ∙ ap (put nat_eq cells l) e ∙ put_same cells l c h

-- The locations stay.
keys_by : (cells : List (ℕ × Cell ℕ)) (l : ℕ) (f : Cell ℕ → Cell ℕ) (o : Option (Cell ℕ)) → keys (option_map_or (λ c. put nat_eq cells l (f c)) o cells) ≡ keys cells
keys_by cells l f None = refl
keys_by cells l f (Some c) = keys-put cells l (f c)

pub keys_frozen : (cells : List (ℕ × Cell ℕ)) (l : ℕ) → keys (cells_frozen cells l) ≡ keys cells
keys_frozen cells l = keys_by cells l frozen_cell (find nat_eq cells l)

keys_without : (cells : List (ℕ × Cell ℕ)) (l : ℕ) (key : List ℕ) → keys (cells_without cells l key) ≡ keys cells
keys_without cells l key = by (option_and_then body_of (find nat_eq cells l))
  where
    by : (o : Option (Body ℕ)) → keys (option_map_or (λ b. rebodied cells l (body_without b key)) o cells) ≡ keys cells
    by None = refl
    by (Some b) = keys_by cells l (λ c. with_body c (body_without b key)) (find nat_eq cells l)

pub keys_removed : (r : Removal) (cells : List (ℕ × Cell ℕ)) (l : ℕ) (key : List ℕ) → keys (after_removal r cells l key) ≡ keys cells
keys_removed Absent cells l key = refl
keys_removed Fixed cells l key = refl
keys_removed Free cells l key = keys_without cells l key
