-- The cells that a heap begins with.
use Rattle.std.proofs.Common.{◌≡◌, ℕ, suc, ◌+◌, ◌<◌, true, false, List, [], ◌∷◌, ◌++◌, Some, refl, ap, ◌∙◌, arith, nat_eq, if◌then◌else◌, length, length-append, append_assoc}
use Rattle.std.proofs.lemmas.Bool.Decides.{nat_tests}
use Rattle.world_heap.specs.declared.cell.Cell.{Cell}
use Rattle.world_heap.specs.Maps.{keys, find, without, stands, Stands}
use Rattle.world_heap.specs.Over.{ListOver}
use Rattle.world_heap.specs.Heaps.{IsWell}
use Rattle.world_heap.specs.Views.{HeapView, IsPooled}
use Rattle.world_heap.specs.BuiltIns.{plain_object, objects}
use Rattle.world_heap.specs.Starting.{with_built_in}

pub objects-push : (proto : ℕ) (ls : List ℕ) (l : ℕ) → objects proto (ls ++ l ∷ []) ≡ objects proto ls ++ (l, plain_object (Some proto)) ∷ []
objects-push proto [] l = refl
objects-push proto (k ∷ ls) l = ap (λ cs. (k, plain_object (Some proto)) ∷ cs) (objects-push proto ls l)

pub with_built_in-twice : (heap : HeapView) (a b : List (ℕ × Cell ℕ)) → with_built_in (with_built_in heap a) b ≡ with_built_in heap (a ++ b)
with_built_in-twice heap a b =
    let sums : heap.base + length a + length b ≡ heap.base + length (a ++ b) = omega (arith, length-append a b) in
    λ i. record heap { cells = append_assoc heap.cells a b i; base = sums i }

pub with_built_in-none : (heap : HeapView) → with_built_in heap [] ≡ heap
with_built_in-none heap =
    let base : heap.base + 0 ≡ heap.base = omega arith in
    λ i. record heap { cells = append_nil heap.cells i; base = base i }
  where
    append_nil : (xs : List (ℕ × Cell ℕ)) → xs ++ [] ≡ xs
    append_nil [] = refl
    append_nil (x ∷ xs) = ap (λ ys. x ∷ ys) (append_nil xs)

-- an owner number that wasn't given out
module _ {A : Type 0} where
  pub below_absent : (maps : List (ℕ × A)) (given : ℕ) → ListOver (λ m. m.0 < given) maps → stands nat_eq (keys maps) given ≡ false
  below_absent [] given h = refl
  below_absent (m ∷ maps) given h =
      let ne : nat_eq m.0 given ≡ false = differs m.0 given h.0 in
      ap (λ b. if b then true else stands nat_eq (keys maps) given) ne ∙ below_absent maps given h.1
    where
      differs : (a b : ℕ) → a < b → nat_eq a b ≡ false
      differs a b lt = grind (arith, nat_tests)

  pub find-last : (maps : List (ℕ × A)) (o : ℕ) (x : A) → stands nat_eq (keys maps) o ≡ false → find nat_eq (maps ++ (o, x) ∷ []) o ≡ Some x
  find-last [] o x h = grind (arith, nat_tests)
  find-last (m ∷ maps) o x h =
      elim (nat_eq m.0 o) as (λ b. (if b then true else stands nat_eq (keys maps) o) ≡ false → (if b then Some m.1 else find nat_eq (maps ++ (o, x) ∷ []) o) ≡ Some x) [
        | true ↦ λ e. absurd (cc)
        | false ↦ λ e. find-last maps o x e
      ] h

  pub without-last : (maps : List (ℕ × A)) (o : ℕ) (x : A) → stands nat_eq (keys maps) o ≡ false → without nat_eq (maps ++ (o, x) ∷ []) o ≡ maps
  without-last [] o x h =
      let same : nat_eq o o ≡ true = grind (arith, nat_tests) in
      ap (λ b. if b then [] else (o, x) ∷ []) same
  without-last (m ∷ maps) o x h =
      elim (nat_eq m.0 o) as (λ b. (if b then true else stands nat_eq (keys maps) o) ≡ false → (if b then maps ++ (o, x) ∷ [] else m ∷ without nat_eq (maps ++ (o, x) ∷ []) o) ≡ m ∷ maps) [
        | true ↦ λ e. absurd (cc)
        | false ↦ λ e. ap (λ ms. m ∷ ms) (without-last maps o x e)
      ] h

  pub stands-last : (maps : List (ℕ × A)) (o : ℕ) (x : A) → Stands (keys (maps ++ (o, x) ∷ [])) o
  stands-last [] o x = let same : nat_eq o o ≡ true = grind (arith, nat_tests) in ap (λ b. if b then true else false) same
  stands-last (m ∷ maps) o x =
      elim (nat_eq m.0 o) as (λ b. (if b then true else stands nat_eq (keys (maps ++ (o, x) ∷ [])) o) ≡ true) [
        | true ↦ refl
        | false ↦ stands-last maps o x
      ]

  below_more : (maps : List (ℕ × A)) (given : ℕ) → ListOver (λ m. m.0 < given) maps → ListOver (λ m. m.0 < given + 1) maps
  below_more [] given h = tt
  below_more (m ∷ maps) given h = (omega (arith, h.0), below_more maps given h.1)

  over_push : (P : ℕ × A → Type 0) (maps : List (ℕ × A)) (m : ℕ × A) → ListOver P maps → P m → ListOver P (maps ++ m ∷ [])
  over_push P [] m h p = (p, tt)
  over_push P (n ∷ maps) m h p = (h.0, over_push P maps m h.1 p)

pub well-nil : IsWell {L = ℕ} nat_eq []
well-nil = record { fits = tt; end = λ l h. absurd (cc) }

pub pooled_open : (maps : List (ℕ × List (ℕ × Cell ℕ))) (given : ℕ) → IsPooled maps given → IsPooled (maps ++ (given, []) ∷ []) (given + 1)
pooled_open maps given h = record {
  below = over_push (λ m. m.0 < given + 1) maps (given, []) (below_more maps given h.below) (omega arith);
  wells = over_push (λ m. IsWell nat_eq m.1) maps (given, []) h.wells well-nil;
}

pub length-objects : (proto : ℕ) (ls : List ℕ) → length (objects proto ls) ≡ length ls
length-objects proto [] = refl
length-objects proto (l ∷ ls) = ap suc (length-objects proto ls)
