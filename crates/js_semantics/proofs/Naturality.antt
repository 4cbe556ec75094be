-- States that agree go to states that agree. The definitions use nothing of a location but the test for equality, so they
-- can be read over the line of types that a permutation makes; renaming by what changes nothing is no change.
use Rattle.std.proofs.Common.{◌≡◌, ℕ, Bool, eqb, List, [], ◌∷◌, map, Option, Some, None, refl, sym, ap, ◌∙◌, subst}
use Rattle.std.specs.Prelude.{option_map}
use mathlib.Core.Path.{PathP, from_path_p}
use mathlib.Core.Equiv.{Iso, iso_to_equiv}
use Rattle.world_heap.specs.declared.value.Value.{Value}
use Rattle.world_heap.specs.declared.value.Value.TheVariants.{Undefined, Null, Bool as Boolean, Num, Str, Ref}
use Rattle.world_heap.specs.declared.value.Property.{Property}
use Rattle.world_heap.specs.declared.value.Property.TheVariants.{Data, Access}
use Rattle.world_heap.specs.declared.cell.Body.{Body}
use Rattle.world_heap.specs.declared.cell.PromiseState.{PromiseState}
use Rattle.world_heap.specs.declared.cell.PromiseState.TheVariants.{Pending, Kept, Broken}
use Rattle.world_heap.specs.declared.cell.Reaction.{Reaction}
use Rattle.world_heap.specs.declared.cell.Reaction.TheVariants.{Then as Afterwards, Settled, Replied}
use Rattle.world_heap.specs.declared.cell.Binding.{Binding}
use Rattle.world_heap.specs.declared.cell.MapEntry.{MapEntry}
use Rattle.world_heap.specs.declared.cell.Cell.{Cell}
use Rattle.world_heap.specs.declared.cell.Cell.TheVariants.{Object, Array, Closure, Native, Far, Error, Map, Set, Promise, Port, Buffer, View, Symbol, Env}
use Rattle.world_log.specs.declared.entry.Entry.{Entry}
use Rattle.js_semantics.specs.declared.scope.Scope.{Scope}
use Rattle.js_semantics.specs.World.{Heap}
use Rattle.js_semantics.specs.declared.outcome.Outcome.{Outcome}
use Rattle.js_semantics.specs.declared.outcome.Outcome.TheVariants.{Normal, Return, Break, Continue, Thrown}
use Rattle.js_semantics.specs.Prog.{Request, Step, Script, Node, Bind, Member, While, DoWhile, For, ForOf, Native as CallNative}
use Rattle.js_semantics.specs.Run.{Arrival, Setting, entries}
use Rattle.js_semantics.specs.Renamed.{Permutation, State, Left, Ends, Stays, evaluated, left_of, value_renamed, property_renamed, member_renamed, body_renamed, promise_renamed, reaction_renamed, binding_renamed, entry_renamed, cell_renamed, heap_renamed, outcome_renamed, scope_renamed, request_renamed, state_renamed, left_renamed, IsAgreeing}
use Rattle.js_semantics.proofs.Relocating.{same_line}

-- what changes no member changes no list, and no option
list_id : {A : Type 0} (f : A → A) → ((a : A) → f a ≡ a) → (xs : List A) → map f xs ≡ xs
list_id f h [] = refl
list_id f h (x ∷ xs) = λ i. h x i ∷ list_id f h xs i

option_id : {A : Type 0} (f : A → A) → ((a : A) → f a ≡ a) → (o : Option A) → option_map f o ≡ o
option_id f h None = refl
option_id f h (Some x) = ap Some (h x)

module _ {L : Type 0} where
  abbrev stay : L → L
  stay l = l

  stays : (l : L) → stay l ≡ l
  stays l = refl

  value_id : (v : Value L) → value_renamed stay v ≡ v
  value_id Undefined = refl
  value_id Null = refl
  value_id (Boolean b) = refl
  value_id (Num n) = refl
  value_id (Str t) = refl
  value_id (Ref l) = refl

  values_id : (vs : List (Value L)) → map (value_renamed stay) vs ≡ vs
  values_id vs = list_id (value_renamed stay) value_id vs

  property_id : (p : Property L) → property_renamed stay p ≡ p
  property_id (Data v w e c) = λ i. Data (value_id v i) w e c
  property_id (Access g s e c) = λ i. Access (option_id stay stays g i) (option_id stay stays s i) e c

  member_id : (m : List ℕ × Property L) → member_renamed stay m ≡ m
  member_id m = λ i. (m.0, property_id m.1 i)

  body_id : (b : Body L) → body_renamed stay b ≡ b
  body_id b = λ i. record {
    proto = option_id stay stays b.proto i;
    properties = list_id (member_renamed stay) member_id b.properties i;
    extensible = b.extensible;
  }

  promise_id : (s : PromiseState L) → promise_renamed stay s ≡ s
  promise_id Pending = refl
  promise_id (Kept v) = λ i. Kept (value_id v i)
  promise_id (Broken v) = λ i. Broken (value_id v i)

  reaction_id : (r : Reaction L) → reaction_renamed stay r ≡ r
  reaction_id (Afterwards k b n) = λ i. Afterwards (value_id k i) (value_id b i) n
  reaction_id (Settled n) = refl
  reaction_id (Replied n) = refl

  binding_id : (b : Binding L) → binding_renamed stay b ≡ b
  binding_id b = λ i. record { name = b.name; value = option_id (value_renamed stay) value_id b.value i; fixed = b.fixed }

  entry_id : (e : MapEntry L) → entry_renamed stay e ≡ e
  entry_id e = λ i. record { key = value_id e.key i; value = value_id e.value i }

  cell_id : (c : Cell L) → cell_renamed stay c ≡ c
  cell_id (Object b) = λ i. Object (body_id b i)
  cell_id (Array p vs z) = λ i. Array (option_id stay stays p i) (values_id vs i) z
  cell_id (Closure b n e r) = λ i. Closure (body_id b i) n e (option_id (value_renamed stay) value_id r i)
  cell_id (Native b n vs) = λ i. Native (body_id b i) n (values_id vs i)
  cell_id (Far b n) = λ i. Far (body_id b i) n
  cell_id (Error b k) = λ i. Error (body_id b i) k
  cell_id (Map b es) = λ i. Map (body_id b i) (list_id (entry_renamed stay) entry_id es i)
  cell_id (Set b vs) = λ i. Set (body_id b i) (values_id vs i)
  cell_id (Promise b s rs) = λ i. Promise (body_id b i) (promise_id s i) (list_id (reaction_renamed stay) reaction_id rs i)
  cell_id (Port b n h ms cs) = λ i. Port (body_id b i) n (value_id h i) (list_id stay stays ms i) (list_id stay stays cs i)
  cell_id (Buffer b bytes) = λ i. Buffer (body_id b i) bytes
  cell_id (View b l o n) = λ i. View (body_id b i) l o n
  cell_id (Symbol t) = refl
  cell_id (Env o bs) = λ i. Env (option_id stay stays o i) (list_id (binding_renamed stay) binding_id bs i)

  heap_id : (h : Heap L) → heap_renamed stay h ≡ h
  heap_id h = list_id (λ c. (stay c.0, cell_renamed stay c.1)) (λ c i. (c.0, cell_id c.1 i)) h

  outcome_id : (o : Outcome L) → outcome_renamed stay o ≡ o
  outcome_id (Normal v) = λ i. Normal (value_id v i)
  outcome_id (Return v) = λ i. Return (value_id v i)
  outcome_id Break = refl
  outcome_id Continue = refl
  outcome_id (Thrown v) = λ i. Thrown (value_id v i)

  scope_id : (s : Scope L) → scope_renamed stay s ≡ s
  scope_id s = λ i. record { env = s.env; receiver = value_id s.receiver i }

  request_id : (r : Request L) → request_renamed stay r ≡ r
  request_id Step = refl
  request_id (Script node) = refl
  request_id (Node node s) = λ i. Node node (scope_id s i)
  request_id (Bind node v s) = λ i. Bind node (value_id v i) (scope_id s i)
  request_id (Member node l s) = λ i. Member node l (scope_id s i)
  request_id (While test body s) = λ i. While test body (scope_id s i)
  request_id (DoWhile body test s) = λ i. DoWhile body test (scope_id s i)
  request_id (For copied test next body s) = λ i. For copied test next body (scope_id s i)
  request_id (ForOf constant pattern body l place item turn around) =
      λ i. ForOf constant pattern body l place (value_id item i) (scope_id turn i) (scope_id around i)
  request_id (CallNative id v vs) = λ i. CallNative id (value_id v i) (values_id vs i)

  state_id : (s : State L) → state_renamed stay s ≡ s
  state_id s = λ i. record {
    heap = heap_id s.heap i;
    depth = s.depth;
    units = s.units;
    loaded = s.loaded;
    budget = s.budget;
    supply = λ n. option_id stay stays (s.supply n) i;
  }

  left_id : (t : Left L) → left_renamed stay t ≡ t
  left_id (Ends o heap depth units b ds) = λ i. Ends (outcome_id o i) (heap_id heap i) depth units b ds
  left_id (Stays heap depth units) = λ i. Stays (heap_id heap i) depth units

-- over a line of types, a value has one other end
one_end : (A : 𝕀 → Type 0) {a : A 0} {b c : A 1} → PathP A a b → PathP A a c → b ≡ c
one_end A p q = sym (from_path_p A p) ∙ from_path_p A q

iso : Permutation → Iso ℕ ℕ
iso p = record { fun = p.to; inv = p.back; rinv = p.to_back; linv = p.back_to }

-- from a location to the same location over the line
over : (I : Iso ℕ ℕ) → (i : 𝕀) → ℕ → V i ℕ ℕ (iso_to_equiv I)
over I = λ i a. vin i a (I.fun a)

-- The law for every definition that is made over all types of locations alike: with arguments T and an answer U in which
-- locations can be renamed, it takes renamed arguments to the renamed answer.
module _ (T U : Type 0 → Type 0) (t_map : (A B : Type 0) → (A → B) → T A → T B) (u_map : (A B : Type 0) → (A → B) → U A → U B) where
  pub natural : ((t : T ℕ) → t_map ℕ ℕ stay t ≡ t) → ((u : U ℕ) → u_map ℕ ℕ stay u ≡ u) → (def : (L : Type 0) → (L → L → Bool) → T L → U L) (p : Permutation) (t : T ℕ) → def ℕ eqb (t_map ℕ ℕ p.to t) ≡ u_map ℕ ℕ p.to (def ℕ eqb t)
  unfolding iso over
  natural t_same u_same def p t =
      let I = iso p in
      let A : 𝕀 → Type 0 = λ i. U (V i ℕ ℕ (iso_to_equiv I)) in
      let ran : PathP A (def ℕ eqb (t_map ℕ ℕ stay t)) (def ℕ eqb (t_map ℕ ℕ p.to t)) = λ i. def (V i ℕ ℕ (iso_to_equiv I)) (same_line I i) (t_map ℕ (V i ℕ ℕ (iso_to_equiv I)) (over I i) t) in
      let renamed : PathP A (u_map ℕ ℕ stay (def ℕ eqb t)) (u_map ℕ ℕ p.to (def ℕ eqb t)) = λ i. u_map ℕ (V i ℕ ℕ (iso_to_equiv I)) (over I i) (def ℕ eqb t) in
      one_end A (subst (λ x. PathP A (def ℕ eqb x) (def ℕ eqb (t_map ℕ ℕ p.to t))) (t_same t) ran) (subst (λ x. PathP A x (u_map ℕ ℕ p.to (def ℕ eqb t))) (u_same (def ℕ eqb t)) renamed)

-- the entries of an evaluation, and how it leaves the world
result_of : (setting : Setting) (ds : List Arrival) (L : Type 0) → (L → L → Bool) → State L × Request L → List Entry × Left L
result_of setting ds L same t = (entries (evaluated same setting ds t.0 t.1), left_of (evaluated same setting ds t.0 t.1))

pub agreeing : IsAgreeing
unfolding IsAgreeing result_of
agreeing p setting ds s r =
    let e = natural (λ L. State L × Request L) (λ L. List Entry × Left L) (λ A B f t. (state_renamed f t.0, request_renamed f t.1)) (λ A B f u. (u.0, left_renamed f u.1)) (λ t i. (state_id t.0 i, request_id t.1 i)) (λ u i. (u.0, left_id u.1 i)) (result_of setting ds) p (s, r) in
    record { made = ap (λ x. x.0) e; left = ap (λ x. x.1) e }
