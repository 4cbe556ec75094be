-- Distinct locations that begin with those of given cells.
use Rattle.std.proofs.Common.{◌≡◌, ℕ, zero, suc, ◌+◌, ◌<◌, ◌≤◌, List, [], ◌∷◌, true, false, nat_eq, if◌then◌else◌, refl, sym, ap, ◌∙◌, arith}
use Rattle.std.proofs.lemmas.Bool.Decides.{nat_tests}
use Rattle.world_heap.specs.declared.cell.Cell.{Cell}
use Rattle.world_heap.specs.Maps.{keys, stands}
use Rattle.world_heap.specs.Over.{ListOver}
use Rattle.world_heap.specs.Stored.{IsDistinct}
use Rattle.js_machine.specs.Does.{Follows}
use Rattle.world_machine.specs.World.{AreDistinct}

-- a number above all these
above : List ℕ → ℕ
above [] = 0
above (k ∷ ks) = suc k + above ks

-- these numbers, and then those from a number on
supplied : ℕ → List ℕ → ℕ → ℕ
supplied top [] n = top + n
supplied top (k ∷ ks) zero = k
supplied top (k ∷ ks) (suc n) = supplied top ks n

all_below : (ks : List ℕ) (top : ℕ) → above ks ≤ top → ListOver (λ k. k < top) ks
unfolding above
all_below [] top h = tt
all_below (k ∷ ks) top h = (omega (arith, h), all_below ks top (omega (arith, h)))

not_among : (k x : ℕ) (ks : List ℕ) → (if nat_eq k x then true else stands nat_eq ks x) ≡ false → stands nat_eq ks x ≡ false
not_among k x ks s =
    elim (nat_eq k x) as (λ b. (if b then true else stands nat_eq ks x) ≡ false → stands nat_eq ks x ≡ false) [
      | true ↦ λ e. absurd (cc)
      | false ↦ λ e. e
    ] s

-- a number that isn't among them and lies below is none of those supplied
apart : (top x : ℕ) (ks : List ℕ) (n : ℕ) → stands nat_eq ks x ≡ false → x < top → supplied top ks n ≡ x → ⊥
unfolding supplied
apart top x [] n s l e = omega (arith, l, e)
apart top x (k ∷ ks) zero s l e =
    elim (nat_eq k x) as (λ b. nat_eq k x ≡ b → (if b then true else stands nat_eq ks x) ≡ false → ⊥) [
      | true ↦ λ t q. cc
      | false ↦ λ t q. grind (arith, nat_tests)
    ] refl s
apart top x (k ∷ ks) (suc n) s l e = apart top x ks n (not_among k x ks s) l e

one_to_one : (top : ℕ) (ks : List ℕ) → IsDistinct ks → ListOver (λ k. k < top) ks → AreDistinct (supplied top ks)
unfolding supplied
one_to_one top [] d l a b e = omega (arith, e)
one_to_one top (k ∷ ks) d l zero zero e = refl
one_to_one top (k ∷ ks) d l zero (suc b) e = absurd (apart top k ks b d.0 l.0 (sym e))
one_to_one top (k ∷ ks) d l (suc a) zero e = absurd (apart top k ks a d.0 l.0 e)
one_to_one top (k ∷ ks) d l (suc a) (suc b) e = ap suc (one_to_one top ks d.1 l.1 a b e)

follows_on : (top : ℕ) (supply : ℕ → ℕ) (n : ℕ) (cells : List (ℕ × Cell ℕ)) → ((i : ℕ) → supply (n + i) ≡ supplied top (keys cells) i) → Follows supply n cells
unfolding supplied
follows_on top supply n [] h = tt
follows_on top supply n (c ∷ cs) h =
    let here : n + 0 ≡ n = omega arith in (
      sym (sym (ap supply here) ∙ h 0),
      follows_on top supply (suc n) cs (λ i. let next : suc n + i ≡ n + suc i = omega arith in ap supply next ∙ h (suc i)),
    )

-- Cells with distinct locations have such a supply.
pub some_supply : (cells : List (ℕ × Cell ℕ)) → IsDistinct (keys cells) → (supply : ℕ → ℕ) × AreDistinct supply × Follows supply 0 cells
some_supply cells d =
    let ks = keys cells in
    let top = above ks in (
      supplied top ks,
      one_to_one top ks d (all_below ks top (omega arith)),
      follows_on top (supplied top ks) 0 cells (λ i. ap (supplied top ks) (zero_plus i)),
    )
  where
    zero_plus : (i : ℕ) → 0 + i ≡ i
    zero_plus i = omega arith
