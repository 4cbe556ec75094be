-- The stack of vacant slots, as slots are added, filled and vacated.
use Rattle.std.proofs.Common.{◌≡◌, ◌≢◌, ℕ, zero, suc, ◌+◌, ◌<◌, List, [], ◌∷◌, ◌++◌, length, set, Some, None, Option, refl, sym, ap, ◌∙◌, arith, slice_get, is_none, cond, length-append, length-set}
use Rattle.std.proofs.lemmas.List.Sums.{sum_by_push, sum_by-set, count_by-le-length}
use Rattle.std.proofs.lemmas.Option.{get_or_from_slice_get, slice_get_within}
use Rattle.cell_chunks.specs.Slots.{vacancies}
use Rattle.cell_chunks.specs.Store.{Each, IsApart, IsStack}

-- reads of a list after a push or a write
module _ {A : Type 0} where
  pub slice_get_push : (xs : List A) (k : ℕ) (x y : A) → slice_get xs k ≡ Some x → slice_get (xs ++ y ∷ []) k ≡ Some x
  slice_get_push [] k x y h = absurd (cc)
  slice_get_push (a ∷ xs) zero x y h = h
  slice_get_push (a ∷ xs) (suc k) x y h = slice_get_push xs k x y h

  pub slice_get_last : (xs : List A) (y : A) → slice_get (xs ++ y ∷ []) (length xs) ≡ Some y
  slice_get_last [] y = refl
  slice_get_last (a ∷ xs) y = slice_get_last xs y

  pub slice_get_same : (xs : List A) (k : ℕ) (x y : A) → slice_get xs k ≡ Some x → slice_get (set xs k y) k ≡ Some y
  slice_get_same [] k x y h = absurd (cc)
  slice_get_same (a ∷ xs) zero x y h = refl
  slice_get_same (a ∷ xs) (suc k) x y h = slice_get_same xs k x y h

  pub slice_get_other : (xs : List A) (i k : ℕ) (y : A) → k ≢ i → slice_get (set xs i y) k ≡ slice_get xs k
  slice_get_other [] i k y h = refl
  slice_get_other (a ∷ xs) zero zero y h = absurd (h refl)
  slice_get_other (a ∷ xs) zero (suc k) y h = refl
  slice_get_other (a ∷ xs) (suc i) zero y h = refl
  slice_get_other (a ∷ xs) (suc i) (suc k) y h = slice_get_other xs i k y (λ e. h (ap suc e))

-- members of a list, and a member more at its end
module _ {A : Type 0} where
  pub each_more : (P Q : A → Type 0) → ((x : A) → P x → Q x) → (xs : List A) → Each P xs → Each Q xs
  each_more P Q more [] h = tt
  each_more P Q more (x ∷ xs) h = (more x h.0, each_more P Q more xs h.1)

  pub each_push : (P : A → Type 0) (xs : List A) (y : A) → Each P xs → P y → Each P (xs ++ y ∷ [])
  each_push P [] y h p = (p, tt)
  each_push P (x ∷ xs) y h p = (h.0, each_push P xs y h.1 p)

  pub each_front : (P : A → Type 0) (xs : List A) (y : A) → Each P (xs ++ y ∷ []) → Each P xs
  each_front P [] y h = tt
  each_front P (x ∷ xs) y h = (h.0, each_front P xs y h.1)

  pub each_last : (P : A → Type 0) (xs : List A) (y : A) → Each P (xs ++ y ∷ []) → P y
  each_last P [] y h = h.0
  each_last P (x ∷ xs) y h = each_last P xs y h.1

  -- both properties of each member
  pub each_both : (P Q R : A → Type 0) → ((x : A) → P x → Q x → R x) → (xs : List A) → Each P xs → Each Q xs → Each R xs
  each_both P Q R both [] h k = tt
  each_both P Q R both (x ∷ xs) h k = (both x h.0 k.0, each_both P Q R both xs h.1 k.1)

pub apart_push : (xs : List ℕ) (y : ℕ) → IsApart xs → Each (λ x. x ≢ y) xs → IsApart (xs ++ y ∷ [])
apart_push [] y a f = (tt, tt)
apart_push (x ∷ xs) y a f = (each_push (λ z. x ≢ z) xs y a.0 f.0, apart_push xs y a.1 f.1)

pub apart_front : (xs : List ℕ) (y : ℕ) → IsApart (xs ++ y ∷ []) → IsApart xs
apart_front [] y a = tt
apart_front (x ∷ xs) y a = (each_front (λ z. x ≢ z) xs y a.0, apart_front xs y a.1)

pub apart_last : (xs : List ℕ) (y : ℕ) → IsApart (xs ++ y ∷ []) → Each (λ x. x ≢ y) xs
apart_last [] y a = tt
apart_last (x ∷ xs) y a = (each_last (λ z. x ≢ z) xs y a.0, apart_last xs y a.1)

module _ {T : Type 0} where
  -- how many slots are vacant after a slot was added, filled or vacated
  pub vacancies-push : (ps : List (Option T)) → vacancies (ps ++ None ∷ []) ≡ vacancies ps + 1
  vacancies-push ps = sum_by_push (λ p. cond (is_none p) 1 0) ps None

  vacancies-set : (ps : List (Option T)) (s : ℕ) (p q : Option T) → slice_get ps s ≡ Some p → vacancies (set ps s q) + cond (is_none p) 1 0 ≡ vacancies ps + cond (is_none q) 1 0
  vacancies-set ps s p q h =
      let f : Option T → ℕ = λ p. cond (is_none p) 1 0 in
      rw (ap f (sym (get_or_from_slice_get ps s p p h))) (sum_by-set f ps s q p (slice_get_within ps s p h))

  pub vacancies-fill : (ps : List (Option T)) (s : ℕ) (v : T) → slice_get ps s ≡ Some None → vacancies (set ps s (Some v)) + 1 ≡ vacancies ps
  vacancies-fill ps s v h = omega (arith, vacancies-set ps s None (Some v) h)

  pub vacancies-vacate : (ps : List (Option T)) (s : ℕ) (w : T) → slice_get ps s ≡ Some (Some w) → vacancies (set ps s None) ≡ vacancies ps + 1
  vacancies-vacate ps s w h = omega (arith, vacancies-set ps s (Some w) None h)

  pub vacancies-write : (ps : List (Option T)) (s : ℕ) (v w : T) → slice_get ps s ≡ Some (Some w) → vacancies (set ps s (Some v)) ≡ vacancies ps
  vacancies-write ps s v w h = omega (arith, vacancies-set ps s (Some w) (Some v) h)

  -- a filled slot isn't in the stack
  pub not_stacked : (ps : List (Option T)) (stack : List ℕ) (s : ℕ) (w : T) → slice_get ps s ≡ Some (Some w) → Each (λ x. slice_get ps x ≡ Some None) stack → Each (λ x. x ≢ s) stack
  not_stacked ps stack s w h = each_more _ _ (λ x p e. let q : slice_get ps s ≡ Some None = ap (slice_get ps) (sym e) ∙ p in cc) stack

  pub stack_push : (ps : List (Option T)) (stack : List ℕ) → IsStack ps stack → IsStack (ps ++ None ∷ []) (stack ++ length ps ∷ [])
  stack_push ps stack h = record {
    vacant = each_push _ stack (length ps) (each_more _ _ (λ x p. slice_get_push ps x None None p) stack h.vacant) (slice_get_last ps None);
    apart = apart_push stack (length ps) h.apart (each_more _ _ (λ x p e. omega (arith, slice_get_within ps x None p)) stack h.vacant);
    counted = omega (arith, length-append stack (length ps ∷ []), vacancies-push ps, h.counted);
  }

  pub stack_vacant : (ps : List (Option T)) (stack : List ℕ) (s : ℕ) → IsStack ps (stack ++ s ∷ []) → slice_get ps s ≡ Some None
  stack_vacant ps stack s h = each_last _ stack s h.vacant

  pub stack_fill : (ps : List (Option T)) (stack : List ℕ) (s : ℕ) (v : T) → IsStack ps (stack ++ s ∷ []) → IsStack (set ps s (Some v)) stack
  stack_fill ps stack s v h = record {
    vacant = each_both _ _ _ (λ x p n. slice_get_other ps s x (Some v) n ∙ p) stack (each_front _ stack s h.vacant) (apart_last stack s h.apart);
    apart = apart_front stack s h.apart;
    counted = omega (arith, length-append stack (s ∷ []), vacancies-fill ps s v (stack_vacant ps stack s h), h.counted);
  }

  pub stack_vacate : (ps : List (Option T)) (stack : List ℕ) (s : ℕ) (w : T) → IsStack ps stack → slice_get ps s ≡ Some (Some w) → IsStack (set ps s None) (stack ++ s ∷ [])
  stack_vacate ps stack s w h e =
      let n = not_stacked ps stack s w e h.vacant in
      record {
        vacant = each_push _ stack s (each_both _ _ _ (λ x p n. slice_get_other ps s x None n ∙ p) stack h.vacant n) (slice_get_same ps s (Some w) None e);
        apart = apart_push stack s h.apart n;
        counted = omega (arith, length-append stack (s ∷ []), vacancies-vacate ps s w e, h.counted);
      }

  pub stack_write : (ps : List (Option T)) (stack : List ℕ) (s : ℕ) (v w : T) → IsStack ps stack → slice_get ps s ≡ Some (Some w) → IsStack (set ps s (Some v)) stack
  stack_write ps stack s v w h e = record {
    vacant = each_both _ _ _ (λ x p n. slice_get_other ps s x (Some v) n ∙ p) stack h.vacant (not_stacked ps stack s w e h.vacant);
    apart = h.apart;
    counted = h.counted ∙ sym (vacancies-write ps s v w e);
  }

  -- where a slot is filled, fewer are vacant than there are
  pub vacancies-within : (ps : List (Option T)) (s : ℕ) (w : T) → slice_get ps s ≡ Some (Some w) → vacancies ps < length ps
  vacancies-within ps s w h = omega (arith, vacancies-vacate ps s w h, count_by-le-length is_none (set ps s None), length-set ps s None)
