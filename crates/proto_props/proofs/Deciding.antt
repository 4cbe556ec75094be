-- What a change comes to, by the cell that it is made at.
use Rattle.std.proofs.Common.{◌≡◌, ℕ, List, Some, None, Ok, Err, Option, Bool, Result, refl, ap, ◌∙◌, nat_eq, length, option_map, is_some, true, false, not, ◌&&◌, if◌then◌else◌}
use Rattle.std.specs.Option.{option_and_then}
use Rattle.wl_text.specs.Number.{index_of}
use Rattle.world_heap.specs.declared.value.Value.{Value}
use Rattle.world_heap.specs.declared.value.Property.{Property}
use Rattle.world_heap.specs.declared.cell.Body.{Body}
use Rattle.world_heap.specs.declared.cell.Cell.{Cell}
use Rattle.world_heap.specs.declared.cell.Cell.TheVariants.{Object, Array, Closure, Native, Far, Error, Map, Set, Promise, Port, Buffer, View, Symbol, Env}
use Rattle.world_heap.specs.declared.limits.HeapFault.{HeapFault}
use Rattle.world_heap.specs.Maps.{keys, find, keys-put}
use Rattle.world_heap.specs.Bodies.{body_of}
use Rattle.world_heap.specs.Views.{HeapView}
use Rattle.proto_props.specs.declared.outcome.SetDone.{SetDone}
use Rattle.proto_props.specs.declared.outcome.SetDone.TheVariants.{Done, Refused}
use Rattle.proto_props.specs.declared.outcome.Refusal.TheVariants.{ReadOnly}
use Rattle.proto_props.specs.Own.{is_length}
use Rattle.proto_props.specs.Same.{same_value}
use Rattle.proto_props.specs.Chains.{search}
use Rattle.proto_props.specs.Changes.{Change, Rewrites, Extends, Stays, CallsSetter, Refuses, Rewriting, Extending, Carries}
use Rattle.proto_props.specs.Adds.{number_of, value_with}
use Rattle.proto_props.specs.Sets.{set_reached, element_set, set_in, sets}
use Rattle.proto_props.specs.Defines.{item_value, item_defined, array_defined, body_defined, view_defined, defined_in, defines}

-- The locations stay.
keys_rewriting : (old new : HeapView) (l : ℕ) (c : Cell ℕ) (r : Result (SetDone ℕ) HeapFault) → Rewriting old l c r new → keys new.cells ≡ keys old.cells
keys_rewriting old new l c (Ok done) h = ap (λ (v : HeapView). keys v.cells) h.1 ∙ keys-put old.cells l c
keys_rewriting old new l c (Err fault) h = ap (λ (v : HeapView). keys v.cells) h.1

keys_extending : (old new : HeapView) (l : ℕ) (c : Cell ℕ) (r : Result (SetDone ℕ) HeapFault) → Extending old l c r new → keys new.cells ≡ keys old.cells
keys_extending old new l c (Ok done) h = ap (λ (v : HeapView). keys v.cells) h.2 ∙ keys-put old.cells l c
keys_extending old new l c (Err fault) h = ap (λ (v : HeapView). keys v.cells) h.1

pub keys_carried : (change : Change ℕ) (old new : HeapView) (r : Result (SetDone ℕ) HeapFault) → Carries change old r new → keys new.cells ≡ keys old.cells
keys_carried (Rewrites l c) old new r h = keys_rewriting old new l c r h
keys_carried (Extends l c) old new r h = keys_extending old new l c r h
keys_carried Stays old new r h = ap (λ (v : HeapView). keys v.cells) h.1
keys_carried (CallsSetter s) old new r h = ap (λ (v : HeapView). keys v.cells) h.1
keys_carried (Refuses x) old new r h = ap (λ (v : HeapView). keys v.cells) h.1

-- a body that has a property
pub verdict_body : {A B : Type 0} (f : A → B) (g : Body ℕ → Option A) (o : Option (Body ℕ)) (t : B) → option_map f (option_and_then g o) ≡ Some t → (b : Body ℕ) × (o ≡ Some b)
verdict_body f g None t h = absurd (cc)
verdict_body f g (Some b) t h = (b, refl)

module _ (cells : List (ℕ × Cell ℕ)) (l : ℕ) (key : List ℕ) where
  module _ (v : Value ℕ) where
    in_named : (o : Option (Cell ℕ)) → set_in nat_eq cells o None l key v ≡ set_reached nat_eq cells (search nat_eq cells key (length cells) l) l key v
    in_named None = refl
    in_named (Some (Object b)) = refl
    in_named (Some (Array p vs f)) = refl
    in_named (Some (Closure b n e r)) = refl
    in_named (Some (Native b i vs)) = refl
    in_named (Some (Far b n)) = refl
    in_named (Some (Error b k)) = refl
    in_named (Some (Map b es)) = refl
    in_named (Some (Set b vs)) = refl
    in_named (Some (Promise b s rs)) = refl
    in_named (Some (Port b n h ms cs)) = refl
    in_named (Some (Buffer b bs)) = refl
    in_named (Some (View b d o n)) = refl
    in_named (Some (Symbol t)) = refl
    in_named (Some (Env o bs)) = refl

    in_other : (c : Cell ℕ) (x : Option ℕ) → ((b : Body ℕ) (d o n : ℕ) → c ≡ View b d o n → ⊥) → set_in nat_eq cells (Some c) x l key v ≡ set_reached nat_eq cells (search nat_eq cells key (length cells) l) l key v
    in_other (Object b) x not_view = refl
    in_other (Array p vs f) x not_view = refl
    in_other (Closure b n e r) x not_view = refl
    in_other (Native b i vs) x not_view = refl
    in_other (Far b n) x not_view = refl
    in_other (Error b k) x not_view = refl
    in_other (Map b es) x not_view = refl
    in_other (Set b vs) x not_view = refl
    in_other (Promise b s rs) x not_view = refl
    in_other (Port b n h ms cs) x not_view = refl
    in_other (Buffer b bs) x not_view = refl
    in_other (View b d o n) x not_view = absurd (not_view b d o n refl)
    in_other (Symbol t) x not_view = refl
    in_other (Env o bs) x not_view = refl

    -- an index of a view
    pub sets_element : (b : Body ℕ) (buffer offset count index : ℕ) → find nat_eq cells l ≡ Some (View b buffer offset count) → index_of key ≡ Some index → sets nat_eq cells l key v ≡ element_set nat_eq cells buffer offset count index (number_of v)
    unfolding sets
    sets_element b buffer offset count index found is = λ i. set_in nat_eq cells (found i) (is i) l key v

    -- another key
    pub sets_named : index_of key ≡ None → sets nat_eq cells l key v ≡ set_reached nat_eq cells (search nat_eq cells key (length cells) l) l key v
    unfolding sets
    sets_named is = ap (λ i. set_in nat_eq cells (find nat_eq cells l) i l key v) is ∙ in_named (find nat_eq cells l)

    -- a cell that is no view
    pub sets_other : (c : Cell ℕ) → find nat_eq cells l ≡ Some c → ((b : Body ℕ) (d o n : ℕ) → c ≡ View b d o n → ⊥) → sets nat_eq cells l key v ≡ set_reached nat_eq cells (search nat_eq cells key (length cells) l) l key v
    unfolding sets
    sets_other c found not_view = ap (λ o. set_in nat_eq cells o (index_of key) l key v) found ∙ in_other c (index_of key) not_view

  module _ (p : Property ℕ) where
    defined_other : (c : Cell ℕ) → ((o : Option ℕ) (vs : List (Value ℕ)) (f : Bool) → c ≡ Array o vs f → ⊥) → ((b : Body ℕ) (d o n : ℕ) → c ≡ View b d o n → ⊥) → defined_in nat_eq (Some c) l key p ≡ body_defined nat_eq (body_of c) c l key p
    defined_other (Object b) na nv = refl
    defined_other (Array o vs f) na nv = absurd (na o vs f refl)
    defined_other (Closure b n e r) na nv = refl
    defined_other (Native b i vs) na nv = refl
    defined_other (Far b n) na nv = refl
    defined_other (Error b k) na nv = refl
    defined_other (Map b es) na nv = refl
    defined_other (Set b vs) na nv = refl
    defined_other (Promise b s rs) na nv = refl
    defined_other (Port b n h ms cs) na nv = refl
    defined_other (Buffer b bs) na nv = refl
    defined_other (View b d o n) na nv = absurd (nv b d o n refl)
    defined_other (Symbol t) na nv = refl
    defined_other (Env o bs) na nv = refl

    -- an array
    pub defines_array : defined_in nat_eq (find nat_eq cells l) l key p ≡ defines nat_eq cells l key p
    unfolding defines
    defines_array = refl

    -- an index of a view, and another key
    pub defines_view : (b : Body ℕ) (buffer offset count : ℕ) (i : Option ℕ) → find nat_eq cells l ≡ Some (View b buffer offset count) → index_of key ≡ i → defines nat_eq cells l key p ≡ view_defined nat_eq b (View b buffer offset count) l key i p
    unfolding defines
    defines_view b buffer offset count i found is = ap (λ o. defined_in nat_eq o l key p) found ∙ ap (λ j. view_defined nat_eq b (View b buffer offset count) l key j p) is

    -- a cell that is neither
    pub defines_other : (c : Cell ℕ) → find nat_eq cells l ≡ Some c → ((o : Option ℕ) (vs : List (Value ℕ)) (f : Bool) → c ≡ Array o vs f → ⊥) → ((b : Body ℕ) (d o n : ℕ) → c ≡ View b d o n → ⊥)
        → defines nat_eq cells l key p ≡ body_defined nat_eq (body_of c) c l key p
    unfolding defines
    defines_other c found na nv = ap (λ o. defined_in nat_eq o l key p) found ∙ defined_other c na nv

    -- an own property of a frozen array
    pub defines_frozen : (proto : Option ℕ) (vs : List (Value ℕ)) (v u : Value ℕ) → find nat_eq cells l ≡ Some (Array proto vs true) → item_value vs key ≡ Some v
        → value_with (not true) (not (is_length key)) (not true && not (is_length key)) p ≡ Some u → defined_in nat_eq (find nat_eq cells l) l key p ≡ (if same_value nat_eq v u then Stays else Refuses ReadOnly)
    defines_frozen proto vs v u found own asked =
        ap (λ o. defined_in nat_eq o l key p) found ∙ (λ i. array_defined nat_eq proto vs true l key (own i) p) ∙ (λ i. item_defined nat_eq proto vs true l key v (asked i))

pub some_of : {A : Type 0} (o : Option A) → is_some o ≡ true → (a : A) × (o ≡ Some a)
some_of None h = absurd (cc)
some_of (Some a) h = (a, refl)

-- what is answered carries a change out that writes nothing
pub stays_or_refuses : (t : Bool) (old : HeapView) → Carries (if t then Stays else Refuses ReadOnly) old (Ok (if t then Done else Refused ReadOnly)) old
stays_or_refuses true old = (refl, refl)
stays_or_refuses false old = (refl, refl)
