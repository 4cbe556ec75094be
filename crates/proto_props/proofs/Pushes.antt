-- What stands in a heap stands where a cell is added.
use Rattle.std.proofs.Common.{◌≡◌, ℕ, true, false, List, [], ◌∷◌, ◌++◌, Some, None, Option, refl, sym, ap, ◌∙◌, subst, arith, nat_eq, if◌then◌else◌, IsSomeAnd}
use Rattle.std.proofs.lemmas.Bool.Decides.{nat_tests}
use Rattle.world_heap.specs.declared.cell.Cell.{Cell}
use Rattle.world_heap.specs.Maps.{keys, find, stands, find-push}
use Rattle.world_heap.specs.Heaps.{is_env, IsNoEnv}
use Rattle.world_heap.proofs.Wells.{found_stands}

pub no_env_push : (cells : List (ℕ × Cell ℕ)) (l : ℕ) (c : Cell ℕ) → stands nat_eq (keys cells) l ≡ false → (k : ℕ) → IsNoEnv nat_eq cells k → IsNoEnv nat_eq (cells ++ (l, c) ∷ []) k
no_env_push cells l c fresh k h = by (find nat_eq cells k) refl h
  where
    by : (o : Option (Cell ℕ)) → find nat_eq cells k ≡ o → IsSomeAnd o (λ x. is_env x ≡ false) → IsNoEnv nat_eq (cells ++ (l, c) ∷ []) k
    by None e n = absurd n
    by (Some x) e n =
        let s = found_stands cells k x e in
        let other : nat_eq l k ≡ false = elim (nat_eq l k) as (λ b. nat_eq l k ≡ b → b ≡ false) [
          | true ↦ λ q. let lk : l ≡ k = grind (arith, nat_tests) in absurd (cc (ap (stands nat_eq (keys cells)) lk))
          | false ↦ λ _. refl
        ] refl in
        let found : find nat_eq (cells ++ (l, c) ∷ []) k ≡ Some x = find-push cells l c k fresh ∙ ap (λ b. if b then Some c else find nat_eq cells k) other ∙ e in
        subst (λ o. IsSomeAnd o (λ y. is_env y ≡ false)) (sym found) n
