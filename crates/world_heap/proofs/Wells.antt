-- A heap stays well where a cell is added, and where one is replaced by one that is alike.
use Rattle.std.proofs.Common.{MatchOption, IfSome, ◌≡◌, ℕ, zero, suc, ◌+◌, ◌≤◌, true, false, List, [], ◌∷◌, ◌++◌, Some, None, Option, refl, sym, ap, ◌∙◌, subst, arith, nat_eq, if◌then◌else◌, IsSomeAnd, ◌||◌}
use Rattle.std.specs.Option.{option_and_then, option_map_or}
use Rattle.std.proofs.lemmas.Bool.Decides.{nat_tests}
use Rattle.world_heap.specs.declared.cell.Cell.{Cell}
use Rattle.world_heap.specs.declared.cell.Cell.TheVariants.{Object, Array, Closure, Native, Far, Error, Map, Set, Promise, Port, Buffer, View, Symbol, Env}
use Rattle.world_heap.specs.Maps.{keys, find, put, stands, Stands, keys-append, keys-put, stands-push, find-push, find-put, find-stands}
use Rattle.world_heap.specs.Over.{ListOver, OptionOver, list_more, cell_more}
use Rattle.world_heap.specs.Heaps.{proto_of, is_env, buffer_length, IsNoEnv, IsCell, IsWithin, Fits, ends, IsWell}

-- two cells that others may not tell apart
pub record Alike (x y : Cell ℕ) : Type 0 where
  pub env : is_env y ≡ is_env x
  pub proto : proto_of y ≡ proto_of x
  pub bytes : buffer_length y ≡ buffer_length x

-- each cell still stands, or one that is alike
abbrev pub Kept : List (ℕ × Cell ℕ) → List (ℕ × Cell ℕ) → Type 0
Kept old new = (k : ℕ) (x : Cell ℕ) → find nat_eq old k ≡ Some x → (y : Cell ℕ) × (find nat_eq new k ≡ Some y) × Alike x y

pub found_stands : {C : Type 0} (cs : List (ℕ × C)) (l : ℕ) (c : C) → find nat_eq cs l ≡ Some c → Stands (keys cs) l
found_stands [] l c h = absurd (cc)
found_stands (x ∷ cs) l c h =
    elim (nat_eq x.0 l) as (λ b. (if b then Some x.1 else find nat_eq cs l) ≡ Some c → (if b then true else stands nat_eq (keys cs) l) ≡ true) [
      | true ↦ λ _. refl
      | false ↦ λ e. found_stands cs l c e
    ] h

pub absent_found : {C : Type 0} (cs : List (ℕ × C)) (l : ℕ) → stands nat_eq (keys cs) l ≡ false → find nat_eq cs l ≡ None
absent_found [] l h = refl
absent_found (x ∷ cs) l h =
    elim (nat_eq x.0 l) as (λ b. (if b then true else stands nat_eq (keys cs) l) ≡ false → (if b then Some x.1 else find nat_eq cs l) ≡ None) [
      | true ↦ λ e. absurd (cc)
      | false ↦ λ e. absent_found cs l e
    ] h

-- a fact of what is found, and of what is found in its place
some_kept : (P Q : Cell ℕ → Type 0) (o p : Option (Cell ℕ)) → ((x : Cell ℕ) → o ≡ Some x → (y : Cell ℕ) × (p ≡ Some y) × (P x → Q y)) → IsSomeAnd o P → IsSomeAnd p Q
some_kept P Q None p more h = absurd h
some_kept P Q (Some x) p more h = let m = more x refl in subst (λ o. IsSomeAnd o Q) (sym m.1) (m.2 h)

module _ (old new : List (ℕ × Cell ℕ)) (kept : Kept old new) where
  pub no_env_kept : (l : ℕ) → IsNoEnv nat_eq old l → IsNoEnv nat_eq new l
  no_env_kept l = some_kept (λ c. is_env c ≡ false) (λ c. is_env c ≡ false) (find nat_eq old l) (find nat_eq new l)
      (λ x e. let k = kept l x e in (k.0, k.1, λ h. k.2.env ∙ h))

  pub cell_kept : (l : ℕ) → IsCell nat_eq old l → IsCell nat_eq new l
  cell_kept l h =
      let found = find-stands old l h in
      let k = kept l found.0 found.1 in
      found_stands new l k.0 k.1

  pub within_kept : (l o n : ℕ) → IsWithin nat_eq old l o n → IsWithin nat_eq new l o n
  within_kept l o n = some_kept (λ c. IsSomeAnd (buffer_length c) (λ bytes. o + n ≤ bytes)) (λ c. IsSomeAnd (buffer_length c) (λ bytes. o + n ≤ bytes)) (find nat_eq old l) (find nat_eq new l)
      (λ x e. let k = kept l x e in (k.0, k.1, λ h. subst (λ b. IsSomeAnd b (λ bytes. o + n ≤ bytes)) (sym k.2.bytes) h))

  pub fits_kept : (c : Cell ℕ) → Fits nat_eq old c → Fits nat_eq new c
  fits_kept = cell_more (IsNoEnv nat_eq old) (IsNoEnv nat_eq new) no_env_kept (IsCell nat_eq old) (IsCell nat_eq new) cell_kept (IsWithin nat_eq old) (IsWithin nat_eq new) within_kept

pub no_env_stands : (cells : List (ℕ × Cell ℕ)) (l : ℕ) → IsNoEnv nat_eq cells l → IsCell nat_eq cells l
no_env_stands cells l h = by (find nat_eq cells l) refl h
  where
    by : (o : Option (Cell ℕ)) → find nat_eq cells l ≡ o → IsSomeAnd o (λ c. is_env c ≡ false) → IsCell nat_eq cells l
    by None e h = absurd h
    by (Some c) e h = found_stands cells l c e

-- the prototype of a cell that fits stands
pub fits_proto : (cells : List (ℕ × Cell ℕ)) (c : Cell ℕ) → Fits nat_eq cells c → OptionOver (IsNoEnv nat_eq cells) (proto_of c)
fits_proto cells (Object b) h = h.0
fits_proto cells (Array p vs f) h = h.0
fits_proto cells (Closure b n e r) h = h.0.0
fits_proto cells (Native b i vs) h = h.0.0
fits_proto cells (Far b n) h = h.0
fits_proto cells (Error b k) h = h.0.0
fits_proto cells (Map b es) h = h.0.0
fits_proto cells (Set b vs) h = h.0.0
fits_proto cells (Promise b s rs) h = h.0.0
fits_proto cells (Port b n v ms cs) h = h.0.0
fits_proto cells (Buffer b bs) h = h.0.0
fits_proto cells (View b l o n) h = h.0.0
fits_proto cells (Symbol t) h = tt
fits_proto cells (Env o bs) h = tt

pub fits_found : (P : Cell ℕ → Type 0) (cells : List (ℕ × Cell ℕ)) (l : ℕ) (c : Cell ℕ) → ListOver (λ e. P e.1) cells → find nat_eq cells l ≡ Some c → P c
fits_found P [] l c h e = absurd (cc)
fits_found P (x ∷ cells) l c h e =
    elim (nat_eq x.0 l) as (λ b. (if b then Some x.1 else find nat_eq cells l) ≡ Some c → P c) [
      | true ↦ λ q. let s : x.1 ≡ c = cc in subst P s h.0
      | false ↦ λ q. fits_found P cells l c h.1 q
    ] e

-- a step along the chain of prototypes
ends_step : (cells : List (ℕ × Cell ℕ)) (n l : ℕ) (c : Cell ℕ) → find nat_eq cells l ≡ Some c → ends nat_eq cells (suc n) l ≡ option_map_or (ends nat_eq cells n) (proto_of c) true
ends_step cells n l c e = ap (λ o. option_map_or (ends nat_eq cells n) (option_and_then proto_of o) true) e

ends_kept : (old new : List (ℕ × Cell ℕ)) → Kept old new → ListOver (λ c. Fits nat_eq old c.1) old → (n l : ℕ) → IsCell nat_eq old l → ends nat_eq old n l ≡ true → ends nat_eq new n l ≡ true
ends_kept old new kept fit zero l s h = absurd (cc)
ends_kept old new kept fit (suc n) l s h =
    let found = find-stands old l s in
    let k = kept l found.0 found.1 in
    let proto = fits_proto old found.0 (fits_found (Fits nat_eq old) old l found.0 fit found.1) in
    ends_step new n l k.0 k.1 ∙ ap (λ o. option_map_or (ends nat_eq new n) o true) k.2.proto
    ∙ by (proto_of found.0) (λ q. ends_kept old new kept fit n q) proto (sym (ends_step old n l found.0 found.1) ∙ h)
  where
    by : (o : Option ℕ) → ((q : ℕ) → IsCell nat_eq old q → ends nat_eq old n q ≡ true → ends nat_eq new n q ≡ true) → OptionOver (IsNoEnv nat_eq old) o → option_map_or (ends nat_eq old n) o true ≡ true → option_map_or (ends nat_eq new n) o true ≡ true
    by None go p e = refl
    by (Some q) go p e = go q (no_env_stands old q p) e

pub list_push : {A : Type 0} (P : A → Type 0) (xs : List A) (x : A) → ListOver P xs → P x → ListOver P (xs ++ x ∷ [])
list_push P [] x h p = (p, tt)
list_push P (y ∷ xs) x h p = (h.0, list_push P xs x h.1 p)

pub list_put : {C : Type 0} (P : C → Type 0) (cs : List (ℕ × C)) (l : ℕ) (d : C) → ListOver (λ c. P c.1) cs → P d → ListOver (λ c. P c.1) (put nat_eq cs l d)
list_put P [] l d h p = tt
list_put P (c ∷ cs) l d h p =
    elim (nat_eq c.0 l) as (λ b. ListOver (λ c. P c.1) (if b then (c.0, d) ∷ cs else c ∷ put nat_eq cs l d)) [
      | true ↦ (p, h.1)
      | false ↦ (h.0, list_put P cs l d h.1 p)
    ]

-- A cell is added.
module _ (cells : List (ℕ × Cell ℕ)) (well : IsWell nat_eq cells) (l : ℕ) (c : Cell ℕ) (fresh : stands nat_eq (keys cells) l ≡ false) (fit : Fits nat_eq cells c) where
  pub push_kept : Kept cells (cells ++ (l, c) ∷ [])
  push_kept k x e =
      let other : nat_eq l k ≡ false = elim (nat_eq l k) as (λ b. nat_eq l k ≡ b → b ≡ false) [
        | true ↦ λ q. let lk : l ≡ k = grind (arith, nat_tests) in let s = found_stands cells k x e in absurd (cc (ap (stands nat_eq (keys cells)) lk))
        | false ↦ λ _. refl
      ] refl in
      let alike : Alike x x = record { env = refl; proto = refl; bytes = refl } in
      (x, find-push cells l c k fresh ∙ ap (λ b. if b then Some c else find nat_eq cells k) other ∙ e, alike)

  pub well_push : IsWell nat_eq (cells ++ (l, c) ∷ [])
  well_push =
      let new = cells ++ (l, c) ∷ [] in
      let fit_new : Fits nat_eq new c = fits_kept cells new push_kept c fit in
      record {
        fits = list_push (λ e. Fits nat_eq new e.1) cells (l, c) (list_more (λ e. Fits nat_eq cells e.1) (λ e. Fits nat_eq new e.1) (λ e. fits_kept cells new push_kept e.1) cells well.fits) fit_new;
        end = λ k s. elim (stands nat_eq (keys cells) k) as (λ b. stands nat_eq (keys cells) k ≡ b → (n : ℕ) × (ends nat_eq new n k ≡ true)) [
          | true ↦ λ e. let n = well.end k e in (n.0, ends_kept cells new push_kept well.fits n.0 k e n.1)
          | false ↦ λ e.
              let lk : l ≡ k = last k s e in
              subst (λ m. (n : ℕ) × (ends nat_eq new n m ≡ true)) lk (own (proto_of c) refl (fits_proto cells c fit))
        ] refl;
      }
    where
      last : (k : ℕ) → Stands (keys (cells ++ (l, c) ∷ [])) k → stands nat_eq (keys cells) k ≡ false → l ≡ k
      last k s e =
          let both : (stands nat_eq (keys cells) k || nat_eq l k) ≡ true = sym (stands-push (keys cells) l k) ∙ ap (λ ks. stands nat_eq ks k) (sym (keys-append cells ((l, c) ∷ []))) ∙ s in
          let one : nat_eq l k ≡ true = ap (λ b. b || nat_eq l k) (sym e) ∙ both in
          grind (arith, nat_tests)

      same : nat_eq l l ≡ true
      same = grind (arith, nat_tests)

      here : find nat_eq (cells ++ (l, c) ∷ []) l ≡ Some c
      here = find-push cells l c l fresh ∙ ap (λ b. if b then Some c else find nat_eq cells l) same

      own : (o : Option ℕ) → proto_of c ≡ o → OptionOver (IsNoEnv nat_eq cells) o → (n : ℕ) × (ends nat_eq (cells ++ (l, c) ∷ []) n l ≡ true)
      own None e h = (1, ends_step (cells ++ (l, c) ∷ []) 0 l c here ∙ ap (λ o. option_map_or (ends nat_eq (cells ++ (l, c) ∷ []) 0) o true) e)
      own (Some p) e h =
          let s = no_env_stands cells p h in
          let n = well.end p s in
          (suc n.0, ends_step (cells ++ (l, c) ∷ []) n.0 l c here ∙ ap (λ o. option_map_or (ends nat_eq (cells ++ (l, c) ∷ []) n.0) o true) e ∙ ends_kept cells (cells ++ (l, c) ∷ []) push_kept well.fits n.0 p s n.1)

-- A cell is replaced by one that is alike.
module _ (cells : List (ℕ × Cell ℕ)) (l : ℕ) (c d : Cell ℕ) (found : find nat_eq cells l ≡ Some d) (alike : Alike d c) where
  pub put_kept : Kept cells (put nat_eq cells l c)
  put_kept k x e =
      let s = found_stands cells l d found in
      rw (find-put cells l c k s) (elim (nat_eq l k) as (λ b. nat_eq l k ≡ b → (y : Cell ℕ) × ((if b then Some c else find nat_eq cells k) ≡ Some y) × Alike x y) [
        | true ↦ λ q.
            let lk : l ≡ k = grind (arith, nat_tests) in
            let same : Some d ≡ Some x = sym found ∙ ap (find nat_eq cells) lk ∙ e in
            let dx : d ≡ x = cc in
            (c, refl, subst (λ z. Alike z c) dx alike)
        | false ↦ λ q. (x, e, record { env = refl; proto = refl; bytes = refl })
      ] refl)

  pub well_put : IsWell nat_eq cells → Fits nat_eq cells c → IsWell nat_eq (put nat_eq cells l c)
  well_put well fit =
      let new = put nat_eq cells l c in
      record {
        fits = list_put (Fits nat_eq new) cells l c (list_more (λ e. Fits nat_eq cells e.1) (λ e. Fits nat_eq new e.1) (λ e. fits_kept cells new put_kept e.1) cells well.fits) (fits_kept cells new put_kept c fit);
        end = λ k s.
            let old : IsCell nat_eq cells k = subst (λ ks. Stands ks k) (keys-put cells l c) s in
            let n = well.end k old in
            (n.0, ends_kept cells new put_kept well.fits n.0 k old n.1);
      }

-- what holds of each that is found, from what tells what was found
pub some_of : {X : Type 0} (o : Option X) (A : Type 0) (Q R : X → Type 0) → ((x : X) → Q x → R x) → MatchOption o A Q → IfSome o R
some_of None A Q R more h = tt
some_of (Some x) A Q R more h = more x h
