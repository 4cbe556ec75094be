-- How a heap goes on.
use Rattle.std.proofs.Common.{◌≡◌, ℕ, zero, suc, true, false, List, [], ◌∷◌, ◌++◌, Option, Some, None, IsSomeAnd, nat_eq, slice_get, if◌then◌else◌, refl, sym, ap, ◌∙◌, subst, append_assoc, append-nil, arith}
use Rattle.std.proofs.lemmas.Bool.Decides.{nat_tests}
use Rattle.world_heap.specs.declared.value.Value.{Value}
use Rattle.world_heap.specs.declared.cell.Cell.{Cell}
use Rattle.world_heap.specs.declared.cell.Cell.TheVariants.{Array, Env}
use Rattle.world_heap.specs.Maps.{keys, find, put, stands, Stands, keys-append, keys-put, find-put}
use Rattle.world_heap.specs.Over.{ValueOver}
use Rattle.world_heap.specs.Heaps.{is_env, IsNoEnv, IsCell, Fits, IsWell}
use Rattle.world_heap.proofs.Wells.{Alike, found_stands, fits_found, no_env_kept, put_kept, well_push, well_put}
use Rattle.js_semantics.specs.Environments.{rebound}
use Rattle.js_names.specs.Growing.{Grows}
use Rattle.js_names.specs.Places.{cells_bound}
use Rattle.js_names.proofs.Binding.{rebound_fits}

-- nothing is done
pub grows_not : (cells : List (ℕ × Cell ℕ)) → Grows cells cells
grows_not cells = record { behind = ([], sym (append-nil (keys cells))); no_env = λ l h. h; open_array = λ l h. h; well = λ h. h }

-- and on
pub grows_on : (old mid new : List (ℕ × Cell ℕ)) → Grows old mid → Grows mid new → Grows old new
grows_on old mid new f g = record {
  behind = (f.behind.0 ++ g.behind.0, g.behind.1 ∙ ap (λ ks. ks ++ g.behind.0) f.behind.1 ∙ append_assoc (keys old) f.behind.0 g.behind.0);
  no_env = λ l h. g.no_env l (f.no_env l h);
  open_array = λ l h. g.open_array l (f.open_array l h);
  well = λ h. g.well (f.well h);
}

stands_longer : (ks more : List ℕ) (l : ℕ) → Stands ks l → Stands (ks ++ more) l
stands_longer [] more l h = absurd (cc)
stands_longer (k ∷ ks) more l h =
    elim (nat_eq k l) as (λ b. (if b then true else stands nat_eq ks l) ≡ true → (if b then true else stands nat_eq (ks ++ more) l) ≡ true) [
      | true ↦ λ e. refl
      | false ↦ λ e. stands_longer ks more l e
    ] h

-- a cell still stands
pub cell_grown : (old new : List (ℕ × Cell ℕ)) → Grows old new → (l : ℕ) → IsCell nat_eq old l → IsCell nat_eq new l
cell_grown old new g l h = subst (λ ks. Stands ks l) (sym g.behind.1) (stands_longer (keys old) g.behind.0 l h)

some_longer : (P Q : ℕ → Type 0) → ((l : ℕ) → P l → Q l) → (ks more : List ℕ) (i : ℕ) → IsSomeAnd (slice_get ks i) P → IsSomeAnd (slice_get (ks ++ more) i) Q
some_longer P Q weaker [] more i h = absurd h
some_longer P Q weaker (k ∷ ks) more zero h = weaker k h
some_longer P Q weaker (k ∷ ks) more (suc i) h = some_longer P Q weaker ks more i h

-- and what stands at a place is still there
pub place_grown : (old new : List (ℕ × Cell ℕ)) → Grows old new → (i : ℕ) → IsSomeAnd (slice_get (keys old) i) (λ l. IsNoEnv nat_eq old l) → IsSomeAnd (slice_get (keys new) i) (λ l. IsNoEnv nat_eq new l)
place_grown old new g i h =
    subst (λ ks. IsSomeAnd (slice_get ks i) (λ l. IsNoEnv nat_eq new l)) (sym g.behind.1) (some_longer (λ l. IsNoEnv nat_eq old l) (λ l. IsNoEnv nat_eq new l) g.no_env (keys old) g.behind.0 i h)

found_longer : (cells : List (ℕ × Cell ℕ)) (l : ℕ) (c : Cell ℕ) (k : ℕ) (x : Cell ℕ) → find nat_eq cells k ≡ Some x → find nat_eq (cells ++ (l, c) ∷ []) k ≡ Some x
found_longer [] l c k x h = absurd (cc)
found_longer (y ∷ ys) l c k x h =
    elim (nat_eq y.0 k) as (λ b. (if b then Some y.1 else find nat_eq ys k) ≡ Some x → (if b then Some y.1 else find nat_eq (ys ++ (l, c) ∷ []) k) ≡ Some x) [
      | true ↦ λ e. e
      | false ↦ λ e. found_longer ys l c k x e
    ] h

some_found : (P : Cell ℕ → Type 0) (o p : Option (Cell ℕ)) → ((x : Cell ℕ) → o ≡ Some x → p ≡ Some x) → IsSomeAnd o P → IsSomeAnd p P
some_found P None p to h = absurd h
some_found P (Some x) p to h = subst (λ o. IsSomeAnd o P) (sym (to x refl)) h

-- a cell is made
pub grows_push : (cells : List (ℕ × Cell ℕ)) (l : ℕ) (c : Cell ℕ) → stands nat_eq (keys cells) l ≡ false → Fits nat_eq cells c → Grows cells (cells ++ (l, c) ∷ [])
grows_push cells l c fresh fit = record {
  behind = (l ∷ [], keys-append cells ((l, c) ∷ []));
  no_env = λ k h. some_found (λ x. is_env x ≡ false) (find nat_eq cells k) (find nat_eq (cells ++ (l, c) ∷ []) k) (found_longer cells l c k) h;
  open_array = λ k h. (h.0, h.1, found_longer cells l c k (Array h.0 h.1 false) h.2);
  well = λ w. well_push cells w l c fresh fit;
}

-- a cell is replaced by one that is alike, and as open
pub grows_put : (cells : List (ℕ × Cell ℕ)) (l : ℕ) (c d : Cell ℕ) → find nat_eq cells l ≡ Some d → Alike d c → ((p : Option ℕ) (vs : List (Value ℕ)) → d ≡ Array p vs false → (q : Option ℕ) × (ws : List (Value ℕ)) × (c ≡ Array q ws false)) → (IsWell nat_eq cells → Fits nat_eq cells c) → Grows cells (put nat_eq cells l c)
grows_put cells l c d found alike still fit = record {
  behind = ([], keys-put cells l c ∙ sym (append-nil (keys cells)));
  no_env = no_env_kept cells (put nat_eq cells l c) (put_kept cells l c d found alike);
  open_array = λ k h. rw (find-put cells l c k (found_stands cells l d found)) (elim (nat_eq l k) as (λ b. nat_eq l k ≡ b → (q : Option ℕ) × (ws : List (Value ℕ)) × ((if b then Some c else find nat_eq cells k) ≡ Some (Array q ws false))) [
    | true ↦ λ e.
        let lk : l ≡ k = grind (arith, nat_tests) in
        let same : Some d ≡ Some (Array h.0 h.1 false) = sym found ∙ ap (find nat_eq cells) lk ∙ h.2 in
        let is : d ≡ Array h.0 h.1 false = cc in
        let open_still = still h.0 h.1 is in
        (open_still.0, open_still.1, ap (λ x. Some x) open_still.2)
    | false ↦ λ e. h
  ] refl);
  well = λ w. well_put cells l c d found alike w (fit w);
}

-- a name of an environment gets a value
pub grows_bound : (cells : List (ℕ × Cell ℕ)) (env : ℕ) (name : List ℕ) (v : Value ℕ) → ValueOver (IsNoEnv nat_eq cells) v → Grows cells (cells_bound (find nat_eq cells env) cells env name v)
grows_bound cells env name v fit = by (find nat_eq cells env) refl
  where
    by : (o : Option (Cell ℕ)) → find nat_eq cells env ≡ o → Grows cells (cells_bound o cells env name v)
    by None e = grows_not cells
    by (Some (Env outer bs)) e =
        grows_put cells env (Env outer (rebound bs name v)) (Env outer bs) e (record { env = refl; proto = refl; bytes = refl }) (λ p vs is. absurd (cc))
        (λ well.
        let old : Fits nat_eq cells (Env outer bs) = fits_found (Fits nat_eq cells) cells env (Env outer bs) well.fits e in
        (old.0, rebound_fits (IsNoEnv nat_eq cells) bs name v fit old.1))
    by (Some other) e = grows_not cells
