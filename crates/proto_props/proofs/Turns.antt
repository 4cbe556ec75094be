-- A turn of a search along a chain of prototypes.
use Rattle.std.proofs.Common.{◌≡◌, ℕ, zero, suc, ◌+◌, ◌-◌, ◌<◌, ◌≤◌, [], ◌∷◌, take, drop, slice_get, IsSomeAnd, arith, true, false, is_some, if◌then◌else◌, length, nat_lt, List, Some, None, Option, ap, ◌∙◌, refl, sym, subst, nat_eq, option_map}
use Rattle.world_heap.specs.declared.cell.Cell.{Cell}
use Rattle.wl_text.specs.Number.{index_of}
use Rattle.world_heap.specs.declared.cell.Body.{Body}
use Rattle.world_heap.specs.declared.cell.Cell.TheVariants.{Object, Array, Closure, Native, Far, Error, Map, Set, Promise, Port, Buffer, View, Symbol, Env}
use Rattle.std.proofs.lemmas.Bool.Decides.{nat_tests}
use Rattle.world_heap.specs.Maps.{find, stands, Stands}
use Rattle.world_heap.specs.Table.{found_under}
use Rattle.world_heap.specs.Over.{OptionOver}
use Rattle.world_heap.specs.Heaps.{proto_of, buffer_length, IsNoEnv, IsCell, IsWithin, Fits}
use Rattle.world_heap.proofs.Wells.{no_env_stands, fits_proto, found_stands}
use Rattle.proto_props.specs.declared.own.Look.{Look}
use Rattle.proto_props.specs.declared.own.Look.TheVariants.{Own, Past, Next}
use Rattle.proto_props.specs.Own.{is_length, is_index_below, onward, look_in, look_at, look}
use Rattle.std.specs.Option.{option_and_then}
use Rattle.proto_props.specs.Chains.{search, taken}
use Rattle.proto_props.specs.Gets.{text_unit}

pub turn : (cells : List (ℕ × Cell ℕ)) (key : List ℕ) (n m l : ℕ) (c : Cell ℕ) (seen : Look ℕ) → n ≡ suc m → find nat_eq cells l ≡ Some c → seen ≡ look c key
    → search nat_eq cells key n l ≡ taken (search nat_eq cells key m) l (Some seen)
turn cells key n m l c seen e f s =
    ap (λ k. search nat_eq cells key k l) e ∙ ap (λ o. taken (search nat_eq cells key m) l (option_map (λ d. look d key) o)) f
    ∙ ap (λ x. taken (search nat_eq cells key m) l (Some x)) (sym s)

onward_proto : (o : Option ℕ) (p : ℕ) → onward o ≡ Next p → o ≡ Some p
onward_proto None p h = absurd (cc)
onward_proto (Some q) p h = cc

look_in_proto : (b : Body ℕ) (key : List ℕ) (p : ℕ) → look_in b key ≡ Next p → b.proto ≡ Some p
look_in_proto b key p h =
    elim (is_some (found_under b.properties key)) as (λ t. (if t then Own else onward b.proto) ≡ Next p → b.proto ≡ Some p) [
      | true ↦ λ e. absurd (cc)
      | false ↦ λ e. onward_proto b.proto p e
    ] h

-- Where the search goes on, it is with the prototype.
pub look_proto : (c : Cell ℕ) (key : List ℕ) (p : ℕ) → look c key ≡ Next p → proto_of c ≡ Some p
look_proto (Array o vs f) key p h =
    elim (is_length key) as (λ t. (if t then Own else if is_index_below (length vs) (index_of key) then Own else onward o) ≡ Next p → o ≡ Some p) [
      | true ↦ λ e. absurd (cc)
      | false ↦ elim (is_index_below (length vs) (index_of key)) as (λ t. (if t then Own else onward o) ≡ Next p → o ≡ Some p) [
        | true ↦ λ e. absurd (cc)
        | false ↦ λ e. onward_proto o p e
      ]
    ] h
look_proto (View b l o n) key p h =
    elim (index_of key) as (λ i. look_at b n key i ≡ Next p → b.proto ≡ Some p) [
      | None ↦ λ e. look_in_proto b key p e
      | Some i ↦ λ e. by i e
    ] h
  where
    by : (i : ℕ) → (if nat_lt i n then Own else Past) ≡ Next p → b.proto ≡ Some p
    by i e =
        elim (nat_lt i n) as (λ t. (if t then Own else Past) ≡ Next p → b.proto ≡ Some p) [
          | true ↦ λ q. absurd (cc)
          | false ↦ λ q. absurd (cc)
        ] e
look_proto (Object b) key p h = look_in_proto b key p h
look_proto (Closure b n e r) key p h = look_in_proto b key p h
look_proto (Native b i vs) key p h = look_in_proto b key p h
look_proto (Far b n) key p h = look_in_proto b key p h
look_proto (Error b k) key p h = look_in_proto b key p h
look_proto (Map b es) key p h = look_in_proto b key p h
look_proto (Set b vs) key p h = look_in_proto b key p h
look_proto (Promise b s rs) key p h = look_in_proto b key p h
look_proto (Port b n v ms cs) key p h = look_in_proto b key p h
look_proto (Buffer b bs) key p h = look_in_proto b key p h
look_proto (Symbol t) key p h = absurd (cc)
look_proto (Env o bs) key p h = absurd (cc)

-- the prototype that a search goes on with stands
pub next_stands : (cells : List (ℕ × Cell ℕ)) (c : Cell ℕ) (key : List ℕ) (p : ℕ) → Fits nat_eq cells c → look c key ≡ Next p → IsCell nat_eq cells p
next_stands cells c key p fit h =
    let proto = subst (OptionOver (IsNoEnv nat_eq cells)) (look_proto c key p h) (fits_proto cells c fit) in
    no_env_stands cells p proto

-- a location in the list of locations stands
pub place_stands : (ks : List ℕ) (i k : ℕ) → slice_get ks i ≡ Some k → Stands ks k
place_stands [] i k h = absurd (cc)
place_stands (x ∷ ks) zero k h =
    let xk : x ≡ k = cc in
    let same : nat_eq x k ≡ true = grind (arith, nat_tests) in
    ap (λ b. if b then true else stands nat_eq ks k) same
place_stands (x ∷ ks) (suc i) k h =
    elim (nat_eq x k) as (λ b. (if b then true else stands nat_eq ks k) ≡ true) [
      | true ↦ refl
      | false ↦ place_stands ks i k h
    ]

-- the buffer of a view stands
pub within_stands : (cells : List (ℕ × Cell ℕ)) (l o n : ℕ) → IsWithin nat_eq cells l o n → IsCell nat_eq cells l
within_stands cells l o n h = by (find nat_eq cells l) refl h
  where
    by : (x : Option (Cell ℕ)) → find nat_eq cells l ≡ x → IsSomeAnd x (λ c. IsSomeAnd (buffer_length c) (λ bytes. o + n ≤ bytes)) → IsCell nat_eq cells l
    by None e q = absurd q
    by (Some c) e q = found_stands cells l c e

-- a unit of a text, as a part of it
pub unit_part : (text : List ℕ) (i n : ℕ) → n ≡ 1 → i < length text → (u : ℕ) × (slice_get text i ≡ Some u) × (take n (drop i text) ≡ u ∷ [])
unit_part [] i n e h = absurd (omega arith)
unit_part (x ∷ xs) zero n e h = (x, refl, ap (λ m. take m (x ∷ xs)) e)
unit_part (x ∷ xs) (suc i) n e h = unit_part xs i n e (omega (arith, h))

-- and as the text at an index
pub unit_at : (text key : List ℕ) (i : ℕ) (part : List ℕ) → index_of key ≡ Some i → i < length text → part ≡ take (i + 1 - i) (drop i text) → Some part ≡ text_unit text key
unit_at text key i part e h p =
    let unit = unit_part text i (i + 1 - i) (omega arith) h in
    ap Some (p ∙ unit.2) ∙ sym (ap (λ o. option_map (λ (u : ℕ). u ∷ []) (option_and_then (slice_get text) o)) e ∙ ap (option_map (λ (u : ℕ). u ∷ [])) unit.1)
