-- The heap of one owner among those of all.
use Rattle.std.proofs.Common.{◌≡◌, ℕ, suc, ◌+◌, ◌<◌, true, false, List, [], ◌∷◌, Some, refl, sym, ap, ◌∙◌, subst, arith, nat_eq, if◌then◌else◌, length, unwrap_or}
use Rattle.std.proofs.lemmas.Bool.Decides.{nat_tests}
use Rattle.world_heap.specs.declared.cell.Cell.{Cell}
use Rattle.world_heap.specs.declared.limits.Counts.{Counts}
use Rattle.world_heap.specs.Maps.{keys, find, put, without, stands, Stands, keys-put, find-put, find-stands}
use Rattle.world_heap.specs.Shelf.{values_of, Apart}
use Rattle.world_heap.specs.Over.{ListOver}
use Rattle.world_heap.specs.Heaps.{IsWell}
use Rattle.world_heap.specs.Views.{IsPooled, IsOwned}

module _ {T : Type 0} where
  pub values-put : (maps : List (ℕ × List (ℕ × T))) (o : ℕ) (cells : List (ℕ × T)) → Stands (keys maps) o → values_of (put nat_eq maps o cells) o ≡ cells
  values-put maps o cells s =
      let same : nat_eq o o ≡ true = grind (arith, nat_tests) in
      ap (λ x. unwrap_or x []) (find-put maps o cells o s ∙ ap (λ b. if b then Some cells else find nat_eq maps o) same)

  pub without-put : (maps : List (ℕ × List (ℕ × T))) (o : ℕ) (cells : List (ℕ × T)) → without nat_eq (put nat_eq maps o cells) o ≡ without nat_eq maps o
  without-put [] o cells = refl
  without-put (m ∷ maps) o cells =
      elim (nat_eq m.0 o) as (λ b. nat_eq m.0 o ≡ b → without nat_eq (if b then (m.0, cells) ∷ maps else m ∷ put nat_eq maps o cells) o ≡ (if b then maps else m ∷ without nat_eq maps o)) [
        | true ↦ λ e. ap (λ b. if b then maps else (m.0, cells) ∷ without nat_eq maps o) e
        | false ↦ λ e. ap (λ b. if b then put nat_eq maps o cells else m ∷ without nat_eq (put nat_eq maps o cells) o) e ∙ ap (λ ms. m ∷ ms) (without-put maps o cells)
      ] refl

  pub apart_own : (maps : List (ℕ × List (ℕ × T))) (o l : ℕ) → Apart maps l → stands nat_eq (keys (values_of maps o)) l ≡ false
  apart_own [] o l a = refl
  apart_own (m ∷ maps) o l a =
      elim (nat_eq m.0 o) as (λ b. stands nat_eq (keys (unwrap_or (if b then Some m.1 else find nat_eq maps o) [])) l ≡ false) [
        | true ↦ a.0
        | false ↦ apart_own maps o l a.1
      ]

  pub apart_others : (maps : List (ℕ × List (ℕ × T))) (o l : ℕ) → Apart maps l → Apart (without nat_eq maps o) l
  apart_others [] o l a = tt
  apart_others (m ∷ maps) o l a =
      elim (nat_eq m.0 o) as (λ b. Apart (if b then maps else m ∷ without nat_eq maps o) l) [
        | true ↦ a.1
        | false ↦ (a.0, apart_others maps o l a.1)
      ]

  pub length-without : (maps : List (ℕ × List (ℕ × T))) (o : ℕ) → Stands (keys maps) o → length maps ≡ length (without nat_eq maps o) + 1
  length-without [] o s = absurd (cc)
  length-without (m ∷ maps) o s =
      elim (nat_eq m.0 o) as (λ b. (if b then true else stands nat_eq (keys maps) o) ≡ true → suc (length maps) ≡ length (if b then maps else m ∷ without nat_eq maps o) + 1) [
        | true ↦ λ _. omega arith
        | false ↦ λ e. omega (arith, length-without maps o e)
      ] s

  pub find_values : (maps : List (ℕ × List (ℕ × T))) (o : ℕ) → Stands (keys maps) o → find nat_eq maps o ≡ Some (values_of maps o)
  find_values maps o s =
      let found = find-stands maps o s in
      found.1 ∙ ap Some (sym (ap (λ x. unwrap_or x []) found.1))

module _ {A : Type 0} (P : (ℕ × A) → Type 0) where
  over_put : (maps : List (ℕ × A)) (o : ℕ) (x : A) → ListOver P maps → ((k : ℕ) (y : A) → P (k, y) → P (k, x)) → ListOver P (put nat_eq maps o x)
  over_put [] o x h more = tt
  over_put (m ∷ maps) o x h more =
      elim (nat_eq m.0 o) as (λ b. ListOver P (if b then (m.0, x) ∷ maps else m ∷ put nat_eq maps o x)) [
        | true ↦ (more m.0 m.1 h.0, h.1)
        | false ↦ (h.0, over_put maps o x h.1 more)
      ]

  over_without : (maps : List (ℕ × A)) (o : ℕ) → ListOver P maps → ListOver P (without nat_eq maps o)
  over_without [] o h = tt
  over_without (m ∷ maps) o h =
      elim (nat_eq m.0 o) as (λ b. ListOver P (if b then maps else m ∷ without nat_eq maps o)) [
        | true ↦ h.1
        | false ↦ (h.0, over_without maps o h.1)
      ]

pub pooled_put : (maps : List (ℕ × List (ℕ × Cell ℕ))) (given o : ℕ) (cells : List (ℕ × Cell ℕ)) → IsPooled maps given → IsWell nat_eq cells → IsPooled (put nat_eq maps o cells) given
pooled_put maps given o cells h w = record {
  below = over_put (λ m. m.0 < given) maps o cells h.below (λ k y p. p);
  wells = over_put (λ m. IsWell nat_eq m.1) maps o cells h.wells (λ k y p. w);
}

pub pooled_without : (maps : List (ℕ × List (ℕ × Cell ℕ))) (given o : ℕ) → IsPooled maps given → IsPooled (without nat_eq maps o) given
pooled_without maps given o h = record {
  below = over_without (λ m. m.0 < given) maps o h.below;
  wells = over_without (λ m. IsWell nat_eq m.1) maps o h.wells;
}

-- a heap of the pool is well
pub pooled_well : (maps : List (ℕ × List (ℕ × Cell ℕ))) (o : ℕ) → ListOver (λ m. IsWell nat_eq m.1) maps → Stands (keys maps) o → IsWell nat_eq (values_of maps o)
pooled_well [] o h s = absurd (cc)
pooled_well (m ∷ maps) o h s =
    elim (nat_eq m.0 o) as (λ b. (if b then true else stands nat_eq (keys maps) o) ≡ true → IsWell nat_eq (unwrap_or (if b then Some m.1 else find nat_eq maps o) [])) [
      | true ↦ λ _. h.0
      | false ↦ λ e. pooled_well maps o h.1 e
    ] s

pub owned_put : (maps : List (ℕ × List (ℕ × Cell ℕ))) (o : ℕ) (cells : List (ℕ × Cell ℕ)) (counts : Counts) (base : ℕ) → Stands (keys maps) o → length cells ≡ base + counts.cells → IsOwned (put nat_eq maps o cells) o counts base
owned_put maps o cells counts base s e = record {
  stands = subst (λ ks. Stands ks o) (sym (keys-put maps o cells)) s;
  counted = ap length (values-put maps o cells s) ∙ e;
}

pub length-put : {C : Type 0} (cs : List (ℕ × C)) (l : ℕ) (d : C) → length (put nat_eq cs l d) ≡ length cs
length-put [] l d = refl
length-put (c ∷ cs) l d =
    elim (nat_eq c.0 l) as (λ b. length (if b then (c.0, d) ∷ cs else c ∷ put nat_eq cs l d) ≡ suc (length cs)) [
      | true ↦ refl
      | false ↦ ap suc (length-put cs l d)
    ]
