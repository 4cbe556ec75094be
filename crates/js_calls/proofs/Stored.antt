-- What writing a property leaves fits, and the heap goes on.
use Rattle.std.proofs.Common.{◌≡◌, ℕ, ◌+◌, ℤ, pos, negsuc, List, [], ◌∷◌, ◌++◌, length, take, slice_set, Option, Some, None, Bool, true, false, Result, Ok, Err, nat_eq, nat_le, nat_lt, ◌==◌, if◌then◌else◌, refl, sym, ap, ◌∙◌, length-set}
use Rattle.std.specs.Bool.{beq}
use Rattle.std.specs.Prelude.{◌&&◌}
use Rattle.std.specs.Cmp.Lexicographic.{pointwise}
use Rattle.wl_text.specs.Number.{index_of}
use Rattle.world_heap.specs.declared.value.Value.{Value}
use Rattle.world_heap.specs.declared.value.Property.{Property}
use Rattle.world_heap.specs.declared.value.Property.TheVariants.{Data, Access}
use Rattle.world_heap.specs.declared.cell.Body.{Body}
use Rattle.world_heap.specs.declared.cell.Cell.{Cell}
use Rattle.world_heap.specs.declared.cell.Cell.TheVariants.{Array, Buffer, View}
use Rattle.world_heap.specs.declared.limits.HeapFault.{HeapFault}
use Rattle.world_heap.specs.Maps.{find, put}
use Rattle.world_heap.specs.Table.{put_under}
use Rattle.world_heap.specs.Bodies.{body_of, with_body, with_byte}
use Rattle.world_heap.specs.Over.{ListOver, OptionOver, PropertyOver, BodyOver, CellOver}
use Rattle.world_heap.specs.Heaps.{IsCell, IsNoEnv, IsWithin, IsWell, Fits}
use Rattle.world_heap.specs.Views.{HeapView}
use Rattle.world_heap.proofs.Wells.{fits_found, list_push}
use Rattle.world_heap.proofs.Bodying.{alike_body, alike_byte, body_fits, fits_body}
use Rattle.proto_props.specs.declared.chain.Reach.{Reach}
use Rattle.proto_props.specs.declared.chain.Reach.TheVariants.{Has, Past, Nowhere}
use Rattle.proto_props.specs.declared.outcome.Refusal.TheVariants.{Hole, NotExtensible}
use Rattle.proto_props.specs.declared.outcome.SetDone.{SetDone}
use Rattle.proto_props.specs.Changes.{Change, Rewrites, Extends, Stays, CallsSetter, Refuses, Carries}
use Rattle.proto_props.specs.Chains.{search}
use Rattle.proto_props.specs.Adds.{with_property, replaced, plain, value_with, appended, added_item, added_to, added, number_of, cut_to, item_set}
use Rattle.proto_props.specs.Sets.{writability, rewritten, byte_set, byte_of, property_at, set_by, set_reached, element_set, set_in, sets}
use Rattle.proto_props.proofs.Arrays.{over_take, over_set}
use Rattle.js_names.specs.Growing.{Grows}
use Rattle.js_names.proofs.Growing.{grows_not, grows_put}
use Rattle.js_tree.specs.declared.node.Node.{Node}
use Rattle.js_machine.specs.declared.state.State.{State}
use Rattle.js_machine.specs.Closed.{GoesOn, IsClosed, ValueFits}
use Rattle.js_machine.proofs.Closing.{closed_grown}
use Rattle.js_calls.specs.Writing.{Written}

-- the heap goes on through a change
abbrev pub ChangeFits : List (ℕ × Cell ℕ) → Change ℕ → Type 0
ChangeFits cells (Rewrites l c) = Grows cells (put nat_eq cells l c)
ChangeFits cells (Extends l c) = Grows cells (put nat_eq cells l c)
ChangeFits cells Stays = Unit {0}
ChangeFits cells (CallsSetter setter) = Unit {0}
ChangeFits cells (Refuses refusal) = Unit {0}

over_put : {V : Type 0} (P : V → Type 0) (entries : List (List ℕ × V)) (key : List ℕ) (v : V) → ListOver (λ m. P m.1) entries → P v → ListOver (λ m. P m.1) (put_under entries key v)
over_put P [] key v h p = (p, tt)
over_put P (e ∷ entries) key v h p =
    elim (pointwise nat_eq key e.0) as (λ t. ListOver (λ m. P m.1) (if t then (e.0, v) ∷ entries else e ∷ put_under entries key v)) [
      | true ↦ (p, h.1)
      | false ↦ (h.0, over_put P entries key v h.1 p)
    ]

byte_fits : (P E : ℕ → Type 0) (V : ℕ → ℕ → ℕ → Type 0) (c : Cell ℕ) (at byte : ℕ) → CellOver P E V c → CellOver P E V (with_byte c at byte)
byte_fits P E V (Buffer b bs) at byte h = (h.0, rw (length-set bs at byte) h.1)
byte_fits P E V other at byte h = h

module _ (cells : List (ℕ × Cell ℕ)) (well : IsWell nat_eq cells) where
  -- an array that isn't frozen has other elements
  array_put : (l : ℕ) (p : Option ℕ) (vs ws : List (Value ℕ)) (f : Bool) → find nat_eq cells l ≡ Some (Array p vs f) → ListOver (ValueFits cells) ws → Grows cells (put nat_eq cells l (Array p ws false))
  array_put l p vs ws f found fit =
      grows_put cells l (Array p ws false) (Array p vs f) found (record { env = refl; proto = refl; bytes = refl }) (λ q us is. (p, ws, refl))
      (λ w. let old : Fits nat_eq cells (Array p vs f) = fits_found (Fits nat_eq cells) cells l (Array p vs f) w.fits found in (old.0, fit))

  -- a cell has another body
  body_put : (l : ℕ) (c : Cell ℕ) (b d : Body ℕ) → find nat_eq cells l ≡ Some c → body_of c ≡ Some b → d.proto ≡ b.proto → BodyOver (IsNoEnv nat_eq cells) d → Grows cells (put nat_eq cells l (with_body c d))
  body_put l c b d found has same fit =
      grows_put cells l (with_body c d) c found (alike_body c b d has same)
      (λ p vs is. let none : Some b ≡ None = sym has ∙ ap body_of is in absurd (cc))
      (λ w. body_fits (IsNoEnv nat_eq cells) (IsCell nat_eq cells) (IsWithin nat_eq cells) c d (fits_found (Fits nat_eq cells) cells l c w.fits found) fit)

  -- a buffer has another byte
  byte_put : (l : ℕ) (c : Cell ℕ) (at byte : ℕ) → find nat_eq cells l ≡ Some c → Grows cells (put nat_eq cells l (with_byte c at byte))
  byte_put l c at byte found =
      grows_put cells l (with_byte c at byte) c found (alike_byte c at byte)
      (λ p vs is. (p, vs, ap (λ x. with_byte x at byte) is))
      (λ w. byte_fits (IsNoEnv nat_eq cells) (IsCell nat_eq cells) (IsWithin nat_eq cells) c at byte (fits_found (Fits nat_eq cells) cells l c w.fits found))

  -- a property is put under a key
  property_put : (l : ℕ) (c : Cell ℕ) (b : Body ℕ) (key : List ℕ) (p : Property ℕ) → find nat_eq cells l ≡ Some c → body_of c ≡ Some b → PropertyOver (IsNoEnv nat_eq cells) p → Grows cells (put nat_eq cells l (with_body c (with_property b key p)))
  property_put l c b key p found has fit =
      let over = fits_body (IsNoEnv nat_eq cells) (IsCell nat_eq cells) (IsWithin nat_eq cells) c b has (fits_found (Fits nat_eq cells) cells l c well.fits found) in
      body_put l c b (with_property b key p) found has refl (over.0, over_put (PropertyOver (IsNoEnv nat_eq cells)) b.properties key p over.1 fit)

  array_fits : (l : ℕ) (p : Option ℕ) (vs : List (Value ℕ)) (f : Bool) → find nat_eq cells l ≡ Some (Array p vs f) → ListOver (ValueFits cells) vs
  array_fits l p vs f found = let old : Fits nat_eq cells (Array p vs f) = fits_found (Fits nat_eq cells) cells l (Array p vs f) well.fits found in old.1

  -- a new element
  asked_fits : (p : Property ℕ) → PropertyOver (IsNoEnv nat_eq cells) p → OptionOver (ValueFits cells) (value_with true true true p)
  asked_fits (Data v x f d) h =
      elim (beq true x && (beq true f && beq true d)) as (λ b. OptionOver (ValueFits cells) (if b then Some v else None)) [ true ↦ h | false ↦ tt ]
  asked_fits (Access g s f d) h = tt

  appended_fits : (l : ℕ) (p : Option ℕ) (vs : List (Value ℕ)) (f : Bool) (i : ℕ) (o : Option (Value ℕ)) → find nat_eq cells l ≡ Some (Array p vs f) → OptionOver (ValueFits cells) o → ChangeFits cells (appended p vs f l i o)
  appended_fits l p vs f i None found fit = tt
  appended_fits l p vs true i (Some v) found fit = tt
  appended_fits l p vs false i (Some v) found fit =
      elim (i == length vs) as (λ b. ChangeFits cells (if b then Extends l (Array p (vs ++ v ∷ []) false) else Refuses Hole)) [
        | true ↦ array_put l p vs (vs ++ v ∷ []) false found (list_push (ValueFits cells) vs v (array_fits l p vs false found) fit)
        | false ↦ tt
      ]

  item_added : (l : ℕ) (p : Option ℕ) (vs : List (Value ℕ)) (f : Bool) (i : Option ℕ) (q : Property ℕ) → find nat_eq cells l ≡ Some (Array p vs f) → PropertyOver (IsNoEnv nat_eq cells) q → ChangeFits cells (added_item p vs f l i q)
  item_added l p vs true None q found fit = tt
  item_added l p vs false None q found fit = tt
  item_added l p vs true (Some i) q found fit = appended_fits l p vs true i (value_with true true true q) found (asked_fits q fit)
  item_added l p vs false (Some i) q found fit = appended_fits l p vs false i (value_with true true true q) found (asked_fits q fit)

  -- a new property
  body_added : (l : ℕ) (c : Cell ℕ) (o : Option (Body ℕ)) (key : List ℕ) (q : Property ℕ) → find nat_eq cells l ≡ Some c → body_of c ≡ o → PropertyOver (IsNoEnv nat_eq cells) q → ChangeFits cells (added_to o c l key q)
  body_added l c None key q found has fit = tt
  body_added l c (Some b) key q found has fit =
      elim b.extensible as (λ t. ChangeFits cells (if t then Extends l (with_body c (with_property b key q)) else Refuses NotExtensible)) [
        | true ↦ property_put l c b key q found has fit
        | false ↦ tt
      ]

  added_fits : (l : ℕ) (o : Option (Cell ℕ)) (key : List ℕ) (q : Property ℕ) → find nat_eq cells l ≡ o → PropertyOver (IsNoEnv nat_eq cells) q → ChangeFits cells (added o l key q)
  added_fits l None key q found fit = tt
  added_fits l (Some (Array p vs f)) key q found fit = item_added l p vs f (index_of key) q found fit
  added_fits l (Some (Buffer b bs)) key q found fit = tt
  added_fits l (Some (View b d o n)) key q found fit = tt
  added_fits l (Some c) key q found fit = body_added l c (body_of c) key q found refl fit

  -- another value
  cut_fits : (l : ℕ) (p : Option ℕ) (vs : List (Value ℕ)) (f : Bool) (z : Option ℤ) → find nat_eq cells l ≡ Some (Array p vs f) → ChangeFits cells (cut_to p vs l z)
  cut_fits l p vs f None found = tt
  cut_fits l p vs f (Some (negsuc n)) found = tt
  cut_fits l p vs f (Some (pos n)) found =
      elim (nat_le n (length vs)) as (λ t. ChangeFits cells (if t then Rewrites l (Array p (take n vs) false) else Refuses Hole)) [
        | true ↦ array_put l p vs (take n vs) f found (over_take (ValueFits cells) n vs (array_fits l p vs f found))
        | false ↦ tt
      ]

  module _ (l : ℕ) (key : List ℕ) (v : Value ℕ) (fit : ValueFits cells v) where
    item_fits : (p : Option ℕ) (vs : List (Value ℕ)) (f : Bool) (i : Option ℕ) → find nat_eq cells l ≡ Some (Array p vs f) → ChangeFits cells (item_set p vs l i v)
    item_fits p vs f None found = cut_fits l p vs f (number_of v) found
    item_fits p vs f (Some i) found = array_put l p vs (slice_set vs i v) f found (over_set (ValueFits cells) vs i v (array_fits l p vs f found) fit)

    replaced_fits : (c : Cell ℕ) (o : Option (Body ℕ)) (e d : Bool) → find nat_eq cells l ≡ Some c → body_of c ≡ o → ChangeFits cells (replaced o c l key (Data v true e d))
    replaced_fits c None e d found has = tt
    replaced_fits c (Some b) e d found has = property_put l c b key (Data v true e d) found has fit

    rewritten_fits : (o : Option (Cell ℕ)) (e d : Bool) → find nat_eq cells l ≡ o → ChangeFits cells (rewritten o l key v e d)
    rewritten_fits None e d found = tt
    rewritten_fits (Some (Array p vs f)) e d found = item_fits p vs f (index_of key) found
    rewritten_fits (Some c) e d found = replaced_fits c (body_of c) e d found refl

    -- by what was found
    by_fits : (at : ℕ) (o : Option (Property ℕ)) → ChangeFits cells (set_by nat_eq cells at (writability o) l key v)
    by_fits at None = added_fits l (find nat_eq cells l) key (plain v) refl fit
    by_fits at (Some (Data u false e d)) = tt
    by_fits at (Some (Data u true e d)) =
        elim (nat_eq at l) as (λ t. ChangeFits cells (if t then rewritten (find nat_eq cells l) l key v e d else added (find nat_eq cells l) l key (plain v))) [
          | true ↦ rewritten_fits (find nat_eq cells l) e d refl
          | false ↦ added_fits l (find nat_eq cells l) key (plain v) refl fit
        ]
    by_fits at (Some (Access get None e d)) = tt
    by_fits at (Some (Access get (Some setter) e d)) = tt

    reached_fits : (reach : Reach ℕ) → ChangeFits cells (set_reached nat_eq cells reach l key v)
    reached_fits (Has at) = by_fits at (property_at nat_eq cells at key)
    reached_fits Past = tt
    reached_fits Nowhere = added_fits l (find nat_eq cells l) key (plain v) refl fit

    byte_set_fits : (buffer at byte : ℕ) (o : Option (Cell ℕ)) → find nat_eq cells buffer ≡ o → ChangeFits cells (byte_set o buffer at byte)
    byte_set_fits buffer at byte None found = tt
    byte_set_fits buffer at byte (Some c) found = byte_put buffer c at byte found

    element_fits : (buffer offset count index : ℕ) (z : Option ℤ) → ChangeFits cells (element_set nat_eq cells buffer offset count index z)
    element_fits buffer offset count index None = tt
    element_fits buffer offset count index (Some z) =
        elim (nat_lt index count) as (λ t. ChangeFits cells (if t then byte_set (find nat_eq cells buffer) buffer (offset + index) (byte_of z) else Stays)) [
          | true ↦ byte_set_fits buffer (offset + index) (byte_of z) (find nat_eq cells buffer) refl
          | false ↦ tt
        ]

    in_fits : (o : Option (Cell ℕ)) (i : Option ℕ) → ChangeFits cells (set_in nat_eq cells o i l key v)
    in_fits (Some (View b buffer offset count)) (Some index) = element_fits buffer offset count index (number_of v)
    in_fits o i = reached_fits (search nat_eq cells key (length cells) l)

    -- a property is written
    pub sets_fit : ChangeFits cells (sets nat_eq cells l key v)
    unfolding sets
    sets_fit = in_fits (find nat_eq cells l) (index_of key)

-- A change is carried out.
carried_grows : (change : Change ℕ) (old new : HeapView) (r : Result (SetDone ℕ) HeapFault) → Carries change old r new → ChangeFits old.cells change → Grows old.cells new.cells
carried_grows (Rewrites l c) old new (Ok what) h fit = rw (ap (λ (v : HeapView). v.cells) h.1) fit
carried_grows (Rewrites l c) old new (Err fault) h fit = rw (ap (λ (v : HeapView). v.cells) h.1) (grows_not old.cells)
carried_grows (Extends l c) old new (Ok what) h fit = rw (ap (λ (v : HeapView). v.cells) h.2) fit
carried_grows (Extends l c) old new (Err fault) h fit = rw (ap (λ (v : HeapView). v.cells) h.1) (grows_not old.cells)
carried_grows Stays old new r h fit = rw (ap (λ (v : HeapView). v.cells) h.1) (grows_not old.cells)
carried_grows (CallsSetter setter) old new r h fit = rw (ap (λ (v : HeapView). v.cells) h.1) (grows_not old.cells)
carried_grows (Refuses refusal) old new r h fit = rw (ap (λ (v : HeapView). v.cells) h.1) (grows_not old.cells)

-- the state goes on
pub written_done : (nodes : List Node) (change : Change ℕ) (old new : State) → IsClosed nodes old → ChangeFits old.heap.cells change → (what : SetDone ℕ) → Written change old new (Ok what) → GoesOn nodes old new
written_done nodes change old new closed fit what h = closed_grown nodes old new closed (carried_grows change old.heap new.heap (Ok what) h.0 fit) (ap (λ s. s.frames.items) h.2) (ap (λ s. s.control) h.2) (ap (λ s. s.kind) h.2)
