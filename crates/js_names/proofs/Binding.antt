-- Names of environments that get values.
use Rattle.std.proofs.Common.{◌≡◌, ◌<◌, ◌+◌, ℕ, suc, true, false, List, [], ◌∷◌, length, Option, Some, None, set, get_or, slice_get, nat_eq, if◌then◌else◌, cond, refl, ap, sym, ◌∙◌, subst, arith}
use Rattle.std.specs.List.{position_from}
use Rattle.std.specs.Cmp.Lexicographic.{same_text as texts_same}
use Rattle.std.proofs.lemmas.Iterator.Adapters.{position_from-zero}
use Rattle.std.proofs.lemmas.Option.{get_or_from_slice_get}
use Rattle.std.specs.Option.{option_map_or}
use Rattle.world_heap.specs.declared.value.Value.{Value}
use Rattle.world_heap.specs.declared.cell.Binding.{Binding}
use Rattle.world_heap.specs.declared.cell.Cell.{Cell}
use Rattle.world_heap.specs.declared.cell.Cell.TheVariants.{Object, Array, Closure, Native, Far, Error, Map, Set, Promise, Port, Buffer, View, Symbol, Env}
use Rattle.world_heap.specs.Maps.{find, put}
use Rattle.world_heap.specs.Over.{ListOver, OptionOver, ValueOver}
use Rattle.world_heap.specs.Bodies.{bound_at, with_binding}
use Rattle.world_heap.specs.Heaps.{IsCell}
use Rattle.world_heap.specs.Views.{HeapView}
use Rattle.world_heap.proofs.Wells.{found_stands}
use Rattle.js_semantics.specs.World.{World, over}
use Rattle.js_semantics.specs.Properties.{same_text}
use Rattle.js_semantics.specs.Environments.{rebound, bound_in, bind_in, binding_of, fill_name}
use Rattle.js_names.specs.Places.{place_in, place_under, binding_under, cells_bound}

-- the bindings with a name's value, by the name's place
filled_from : (n i : ℕ) (bs : List (Binding ℕ)) (name : List ℕ) (v : Value ℕ) (d : Binding ℕ) → position_from (λ (b : Binding ℕ). same_text b.name name) n bs ≡ Some i
    → (k : ℕ) × (i ≡ n + k) × (k < length bs) × (set bs k (record { name = name; value = Some v; fixed = (get_or bs k d).fixed }) ≡ rebound bs name v)
filled_from n i [] name v d h = absurd (cc)
filled_from n i (b ∷ bs) name v d h =
    elim (same_text b.name name) as (λ t. same_text b.name name ≡ t → cond t (Some n) (position_from (λ (b : Binding ℕ). same_text b.name name) (n + 1) bs) ≡ Some i
    → (k : ℕ) × (i ≡ n + k) × (k < length (b ∷ bs)) × (set (b ∷ bs) k (record { name = name; value = Some v; fixed = (get_or (b ∷ bs) k d).fixed }) ≡ (if t then record b { value = Some v } ∷ bs else b ∷ rebound bs name v))) [
      | true ↦ λ q e.
          let ni : n ≡ i = cc in
          let same : b.name ≡ name = texts_same b.name name (sym q) in
          (0, omega (arith, ni), omega arith, ap (λ text. record { name = text; value = Some v; fixed = b.fixed } ∷ bs) (sym same))
      | false ↦ λ q e. let rest = filled_from (n + 1) i bs name v d e in (suc rest.0, omega (arith, rest.1), omega (arith, rest.2), ap (λ cs. b ∷ cs) rest.3)
    ] refl h

pub filled_place : (bs : List (Binding ℕ)) (name : List ℕ) (i : ℕ) (v : Value ℕ) (d : Binding ℕ) → place_in bs name ≡ Some i
    → (i < length bs) × (set bs i (record { name = name; value = Some v; fixed = (get_or bs i d).fixed }) ≡ rebound bs name v)
filled_place bs name i v d h =
    let found = filled_from 0 i bs name v d (sym (position_from-zero (λ (b : Binding ℕ). same_text b.name name) bs) ∙ h) in
    let same : found.0 ≡ i = omega (arith, found.1) in
    (omega (arith, found.1, found.2), subst (λ k. set bs k (record { name = name; value = Some v; fixed = (get_or bs k d).fixed }) ≡ rebound bs name v) same found.3)

-- where no binding has the name, they stay as they are
unbound_from : (n : ℕ) (bs : List (Binding ℕ)) (name : List ℕ) (v : Value ℕ) → position_from (λ (b : Binding ℕ). same_text b.name name) n bs ≡ None → rebound bs name v ≡ bs
unbound_from n [] name v h = refl
unbound_from n (b ∷ bs) name v h =
    elim (same_text b.name name) as (λ t. cond t (Some n) (position_from (λ (b : Binding ℕ). same_text b.name name) (n + 1) bs) ≡ None → (if t then record b { value = Some v } ∷ bs else b ∷ rebound bs name v) ≡ b ∷ bs) [
      | true ↦ λ e. absurd (cc)
      | false ↦ λ e. ap (λ cs. b ∷ cs) (unbound_from (n + 1) bs name v e)
    ] h

put_same : (cells : List (ℕ × Cell ℕ)) (l : ℕ) (c : Cell ℕ) → find nat_eq cells l ≡ Some c → put nat_eq cells l c ≡ cells
put_same [] l c h = refl
put_same (x ∷ cells) l c h =
    elim (nat_eq x.0 l) as (λ b. (if b then Some x.1 else find nat_eq cells l) ≡ Some c → (if b then (x.0, c) ∷ cells else x ∷ put nat_eq cells l c) ≡ x ∷ cells) [
      | true ↦ λ e. let same : x.1 ≡ c = cc in ap (λ d. (x.0, d) ∷ cells) (sym same)
      | false ↦ λ e. ap (λ cs. x ∷ cs) (put_same cells l c e)
    ] h

pub none_bound : (cells : List (ℕ × Cell ℕ)) (env : ℕ) (name : List ℕ) (v : Value ℕ) → place_under (find nat_eq cells env) name ≡ None → cells_bound (find nat_eq cells env) cells env name v ≡ cells
none_bound cells env name v h = by (find nat_eq cells env) refl h
  where
    by : (o : Option (Cell ℕ)) → find nat_eq cells env ≡ o → place_under o name ≡ None → cells_bound o cells env name v ≡ cells
    by None e q = refl
    by (Some (Env outer bs)) e q =
        let same : rebound bs name v ≡ bs = unbound_from 0 bs name v (sym (position_from-zero (λ (b : Binding ℕ). same_text b.name name) bs) ∙ q) in
        ap (λ cs. put nat_eq cells env (Env outer cs)) same ∙ put_same cells env (Env outer bs) e
    by (Some other) e q = refl

-- the same, of a world
world_at : (o : Option (Cell ℕ)) (h : HeapView) (w : World ℕ) (env : ℕ) (name : List ℕ) (v : Value ℕ) → over (record h { cells = cells_bound o h.cells env name v }) w ≡ bound_in o env name v (over h w)
world_at None h w env name v = refl
world_at (Some (Env outer bs)) h w env name v = refl
world_at (Some other) h w env name v = refl

pub world_bound : (h : HeapView) (w : World ℕ) (env : ℕ) (name : List ℕ) (v : Value ℕ) → over (record h { cells = cells_bound (find nat_eq h.cells env) h.cells env name v }) w ≡ bind_in env name v (over h w)
world_bound h w env name v = world_at (find nat_eq h.cells env) h w env name v

pub world_unbound : (h : HeapView) (w : World ℕ) (env : ℕ) (name : List ℕ) (v : Value ℕ) → place_under (find nat_eq h.cells env) name ≡ None → over h w ≡ bind_in env name v (over h w)
world_unbound h w env name v none = ap (λ cs. over (record h { cells = cs }) w) (sym (none_bound h.cells env name v none)) ∙ world_bound h w env name v

pub filled_none : (w : World ℕ) (env : ℕ) (name : List ℕ) (v : Value ℕ) → binding_of env name w ≡ None → w ≡ fill_name env name v w
unfolding fill_name
filled_none w env name v none = sym (ap (λ o. elim o as (λ _. World ℕ) [ Some found ↦ bind_in found.0 name v w | None ↦ w ]) none)

pub filled_some : (w : World ℕ) (env : ℕ) (name : List ℕ) (v : Value ℕ) (found : ℕ × Binding ℕ) → binding_of env name w ≡ Some found → bind_in found.0 name v w ≡ fill_name env name v w
unfolding fill_name
filled_some w env name v found some = sym (ap (λ o. elim o as (λ _. World ℕ) [ Some found ↦ bind_in found.0 name v w | None ↦ w ]) some)

-- the environment that has the name
pub place_env : (o : Option (Cell ℕ)) (name : List ℕ) (place : ℕ) → place_under o name ≡ Some place → (outer : Option ℕ) × (bs : List (Binding ℕ)) × (o ≡ Some (Env outer bs)) × (place_in bs name ≡ Some place)
place_env None name place h = absurd (cc)
place_env (Some (Env outer bs)) name place h = (outer, bs, refl, h)
place_env (Some (Object b)) name place h = absurd (cc)
place_env (Some (Array p vs f)) name place h = absurd (cc)
place_env (Some (Closure b n e r)) name place h = absurd (cc)
place_env (Some (Native b i vs)) name place h = absurd (cc)
place_env (Some (Far b n)) name place h = absurd (cc)
place_env (Some (Error b k)) name place h = absurd (cc)
place_env (Some (Map b es)) name place h = absurd (cc)
place_env (Some (Set b vs)) name place h = absurd (cc)
place_env (Some (Promise b s rs)) name place h = absurd (cc)
place_env (Some (Port b n v ms cs)) name place h = absurd (cc)
place_env (Some (Buffer b bs)) name place h = absurd (cc)
place_env (Some (View b l o n)) name place h = absurd (cc)
place_env (Some (Symbol t)) name place h = absurd (cc)

pub rebound_fits : (P : ℕ → Type 0) (bs : List (Binding ℕ)) (name : List ℕ) (v : Value ℕ) → ValueOver P v → ListOver (λ (b : Binding ℕ). OptionOver (ValueOver P) b.value) bs → ListOver (λ (b : Binding ℕ). OptionOver (ValueOver P) b.value) (rebound bs name v)
rebound_fits P [] name v fit h = tt
rebound_fits P (b ∷ bs) name v fit h =
    elim (same_text b.name name) as (λ t. ListOver (λ (b : Binding ℕ). OptionOver (ValueOver P) b.value) (if t then record b { value = Some v } ∷ bs else b ∷ rebound bs name v)) [
      | true ↦ (fit, h.1)
      | false ↦ (h.0, rebound_fits P bs name v fit h.1)
    ]

-- what stands in a place of a name is written as a binding of that name
pub bound_binding : (cells : List (ℕ × Cell ℕ)) (env place : ℕ) (name : List ℕ) (v : Value ℕ) (was : Binding ℕ) → place_under (find nat_eq cells env) name ≡ Some place → binding_under (find nat_eq cells env) place ≡ Some was
    → bound_at cells env place (record { name = name; value = Some v; fixed = was.fixed }) ≡ cells_bound (find nat_eq cells env) cells env name v
bound_binding cells env place name v was here there =
    let found = place_env (find nat_eq cells env) name place here in
    let outer = found.0 in
    let bs = found.1 in
    let new : Binding ℕ = record { name = name; value = Some v; fixed = was.fixed } in
    let at : slice_get bs place ≡ Some was = sym (ap (λ o. binding_under o place) found.2) ∙ there in
    let same : set bs place new ≡ rebound bs name v = ap (λ (b : Binding ℕ). set bs place (record { name = name; value = Some v; fixed = b.fixed })) (sym (get_or_from_slice_get bs place was was at)) ∙ (filled_place bs name place v was found.3).1 in
    ap (λ o. option_map_or (λ c. put nat_eq cells env (with_binding c place new)) o cells) found.2
    ∙ ap (λ cs. put nat_eq cells env (Env outer cs)) same
    ∙ sym (ap (λ o. cells_bound o cells env name v) found.2)

-- the place of a name that stands is that of a cell
pub place_stands : (cells : List (ℕ × Cell ℕ)) (env place : ℕ) (name : List ℕ) → place_under (find nat_eq cells env) name ≡ Some place → IsCell nat_eq cells env
place_stands cells env place name here =
    let found = place_env (find nat_eq cells env) name place here in
    found_stands cells env (Env found.0 found.1) found.2
