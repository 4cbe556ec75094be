-- Slots that are filled, written and vacated, among those of all owners.
use Rattle.std.proofs.Common.{◌≡◌, ◌≢◌, ℕ, zero, suc, ◌+◌, ◌<◌, ◌≤◌, true, false, List, [], ◌∷◌, ◌++◌, length, get_or, set, Some, None, Option, refl, sym, ap, ◌∙◌, arith, replicate, nat_eq, if◌then◌else◌, slice_get, length-append, length-set, cond, is_none}
use Rattle.std.proofs.lemmas.Bool.Decides.{nat_tests}
use Rattle.std.proofs.lemmas.List.Sums.{sum_by-append}
use Rattle.std.proofs.lemmas.List.Folds.{sum_by-replicate}
use Rattle.std.proofs.lemmas.List.{get_or-set_same, get_or-set_other, length-replicate}
use Rattle.std.proofs.lemmas.Option.{get_or_from_slice_get, slice_get_within}
use Rattle.cell_chunks.specs.Slots.{vacancies, IsFilled}
use Rattle.cell_chunks.proofs.Stacks.{vacancies-fill, vacancies-vacate, vacancies-write}
use Rattle.world_heap.specs.Maps.{keys, find, put, stands, Stands}
use Rattle.world_heap.specs.Stored.{times, size_of, filled_at, with_value, gathered, IsHeld}

pub times-append : (k : ℕ) (xs ys : List ℕ) → times k (xs ++ ys) ≡ times k xs + times k ys
times-append k [] ys = omega arith
times-append k (x ∷ xs) ys = omega (arith, times-append k xs ys)

-- the first list has the number once more than the second, and is longer by that
pub record IsMore (l : ℕ) (more less : List ℕ) : Type 0 where
  pub times_are : (k : ℕ) → times k more ≡ (if nat_eq k l then 1 else 0) + times k less
  pub lengths : length more ≡ 1 + length less

module _ {T : Type 0} where
  pub filled_slot : (slots : List (Option T)) (k : ℕ) → filled_at slots k ≡ 1 → IsFilled slots k
  filled_slot [] k h = absurd (omega arith)
  filled_slot (None ∷ slots) zero h = absurd (omega arith)
  filled_slot (Some v ∷ slots) zero h = (v, refl)
  filled_slot (s ∷ slots) (suc k) h = filled_slot slots k h

  pub filled_at-set : (slots : List (Option T)) (s k : ℕ) (x : Option T) → s < length slots → filled_at (set slots s x) k ≡ (if nat_eq k s then size_of x else filled_at slots k)
  filled_at-set slots s k x h =
      elim (nat_eq k s) as (λ b. nat_eq k s ≡ b → filled_at (set slots s x) k ≡ (if b then size_of x else filled_at slots k)) [
        | true ↦ λ e. let q : k ≡ s = grind (arith, nat_tests) in rw q (ap size_of (get_or-set_same slots s x None h))
        | false ↦ λ e. let q : k ≢ s = grind (arith, nat_tests) in ap size_of (get_or-set_other slots s k x None q)
      ] refl

  pub filled_at-more : (slots : List (Option T)) (n k : ℕ) → filled_at (slots ++ replicate n None) k ≡ filled_at slots k
  filled_at-more [] zero k = refl
  filled_at-more [] (suc n) zero = refl
  filled_at-more [] (suc n) (suc k) = filled_at-more [] n k
  filled_at-more (s ∷ slots) n zero = refl
  filled_at-more (s ∷ slots) n (suc k) = filled_at-more slots n k

  pub vacancies-more : (slots : List (Option T)) (n : ℕ) → vacancies (slots ++ replicate n None) ≡ vacancies slots + n
  vacancies-more slots n = sum_by-append (λ p. cond (is_none p) 1 0) slots (replicate n none) ∙ ap (λ m. vacancies slots + m) (sum_by-replicate (λ p. cond (is_none p) 1 0) n none ∙ omega arith)
    where
      none : Option T
      none = None

  pub held_put : (slots : List (Option T)) (s : ℕ) (v : T) (more less : List ℕ) → IsHeld slots less → slice_get slots s ≡ Some None → IsMore s more less → IsHeld (set slots s (Some v)) more
  held_put slots s v more less h e m =
      let within : s < length slots = slice_get_within slots s None e in
      let vacant : filled_at slots s ≡ 0 = ap size_of (get_or_from_slice_get slots s None None e) in
      record {
        once = λ k. m.times_are k ∙ elim (nat_eq k s) as (λ b. nat_eq k s ≡ b → (if b then 1 else 0) + times k less ≡ (if b then 1 else filled_at slots k)) [
          | true ↦ λ q. let ks : k ≡ s = grind (arith, nat_tests) in omega (arith, h.once k, rw (← ks) at vacant)
          | false ↦ λ q. omega (arith, h.once k)
        ] refl ∙ sym (filled_at-set slots s k (Some v) within);
        counted = omega (arith, length-set slots s (Some v), vacancies-fill slots s v e, h.counted, m.lengths);
      }

  pub held_take : (slots : List (Option T)) (s : ℕ) (v : T) (more less : List ℕ) → IsHeld slots more → slice_get slots s ≡ Some (Some v) → IsMore s more less → IsHeld (set slots s None) less
  held_take slots s v more less h e m =
      let within : s < length slots = slice_get_within slots s (Some v) e in
      let filled : filled_at slots s ≡ 1 = ap size_of (get_or_from_slice_get slots s (Some v) None e) in
      record {
        once = λ k. elim (nat_eq k s) as (λ b. nat_eq k s ≡ b → times k more ≡ (if b then 1 else 0) + times k less → times k less ≡ (if b then 0 else filled_at slots k)) [
          | true ↦ λ q t. let ks : k ≡ s = grind (arith, nat_tests) in omega (arith, h.once k, rw (← ks) at filled, t)
          | false ↦ λ q t. omega (arith, h.once k, t)
        ] refl (m.times_are k) ∙ sym (filled_at-set slots s k None within);
        counted = omega (arith, length-set slots s None, vacancies-vacate slots s v e, h.counted, m.lengths);
      }

  pub held_write : (slots : List (Option T)) (s : ℕ) (v w : T) (held : List ℕ) → IsHeld slots held → slice_get slots s ≡ Some (Some w) → IsHeld (set slots s (Some v)) held
  held_write slots s v w held h e =
      let within : s < length slots = slice_get_within slots s (Some w) e in
      let filled : filled_at slots s ≡ 1 = ap size_of (get_or_from_slice_get slots s (Some w) None e) in
      record {
        once = λ k. elim (nat_eq k s) as (λ b. nat_eq k s ≡ b → times k held ≡ (if b then 1 else filled_at slots k)) [
          | true ↦ λ q. let ks : k ≡ s = grind (arith, nat_tests) in h.once k ∙ ap (filled_at slots) ks ∙ filled
          | false ↦ λ q. h.once k
        ] refl ∙ sym (filled_at-set slots s k (Some v) within);
        counted = omega (arith, length-set slots s (Some v), vacancies-write slots s v w e, h.counted);
      }

  pub held_room : (slots : List (Option T)) (n : ℕ) (held : List ℕ) → IsHeld slots held → IsHeld (slots ++ replicate n None) held
  held_room slots n held h =
      let none : Option T = None in record {
        once = λ k. h.once k ∙ sym (filled_at-more slots n k);
        counted = omega (arith, length-append slots (replicate n none), length-replicate n none, vacancies-more slots n, h.counted);
      }

  -- the values in slots, where another slot is written, or slots are added
  pub gathered-set : (slots : List (Option T)) (s : ℕ) (x : Option T) (own : List ℕ) → times s own ≡ 0 → gathered (set slots s x) own ≡ gathered slots own
  gathered-set slots s x [] h = refl
  gathered-set slots s x (k ∷ own) h =
      elim (nat_eq s k) as (λ b. nat_eq s k ≡ b → (if b then 1 else 0) + times s own ≡ 0 → gathered (set slots s x) (k ∷ own) ≡ gathered slots (k ∷ own)) [
        | true ↦ λ q t. absurd (omega (arith, t))
        | false ↦ λ q t.
            let ne : k ≢ s = grind (arith, nat_tests) in
            let zero : times s own ≡ 0 = omega (arith, t) in
            λ i. with_value k (get_or-set_other slots s k x None ne i) (gathered-set slots s x own zero i)
      ] refl h

  pub gathered-more : (slots : List (Option T)) (n : ℕ) (own : List ℕ) → gathered (slots ++ replicate n None) own ≡ gathered slots own
  gathered-more slots n [] = refl
  gathered-more slots n (k ∷ own) = λ i. with_value k (get_or-more slots n k i) (gathered-more slots n own i)
    where
      get_or-more : (slots : List (Option T)) (n k : ℕ) → get_or (slots ++ replicate n None) k None ≡ get_or slots k None
      get_or-more [] zero k = refl
      get_or-more [] (suc n) zero = refl
      get_or-more [] (suc n) (suc k) = get_or-more [] n k
      get_or-more (s ∷ slots) n zero = refl
      get_or-more (s ∷ slots) n (suc k) = get_or-more slots n k

  pub gathered-push : (slots : List (Option T)) (own : List ℕ) (l : ℕ) (v : T) → slice_get slots l ≡ Some (Some v) → gathered slots (own ++ l ∷ []) ≡ gathered slots own ++ (l, v) ∷ []
  gathered-push slots [] l v h = ap (λ x. with_value l x []) (get_or_from_slice_get slots l (Some v) None h)
  gathered-push slots (k ∷ own) l v h =
      elim (get_or slots k None) as (λ x. with_value k x (gathered slots (own ++ l ∷ [])) ≡ with_value k x (gathered slots own) ++ (l, v) ∷ []) [
        | None ↦ gathered-push slots own l v h
        | Some w ↦ ap (λ cs. (k, w) ∷ cs) (gathered-push slots own l v h)
      ]

  -- Own slots are all filled.
  abbrev pub AreFilled : List (Option T) → List ℕ → Type 0
  AreFilled slots [] = Unit {0}
  AreFilled slots (k ∷ own) = IsFilled slots k × AreFilled slots own

  pub keys-gathered : (slots : List (Option T)) (own : List ℕ) → AreFilled slots own → keys (gathered slots own) ≡ own
  keys-gathered slots [] h = refl
  keys-gathered slots (k ∷ own) h =
      ap (λ x. keys (with_value k x (gathered slots own))) (get_or_from_slice_get slots k (Some h.0.0) None h.0.1) ∙ ap (λ ks. k ∷ ks) (keys-gathered slots own h.1)

  pub find-gathered : (slots : List (Option T)) (own : List ℕ) (l : ℕ) (v : T) → AreFilled slots own → Stands own l → slice_get slots l ≡ Some (Some v) → find nat_eq (gathered slots own) l ≡ Some v
  find-gathered slots [] l v h s g = absurd (cc)
  find-gathered slots (k ∷ own) l v h s g =
      ap (λ x. find nat_eq (with_value k x (gathered slots own)) l) (get_or_from_slice_get slots k (Some h.0.0) None h.0.1) ∙ elim (nat_eq k l) as (λ b. nat_eq k l ≡ b → (if b then true else stands nat_eq own l) ≡ true → (if b then Some h.0.0 else find nat_eq (gathered slots own) l) ≡ Some v) [
        | true ↦ λ e _.
            let q : k ≡ l = grind (arith, nat_tests) in
            let r : Some (Some h.0.0) ≡ Some (Some v) = sym h.0.1 ∙ ap (slice_get slots) q ∙ g in
            cc
        | false ↦ λ e t. find-gathered slots own l v h.1 t g
      ] refl s

  -- a write at one of the own slots, each of which stands once
  pub put-gathered : (slots : List (Option T)) (own : List ℕ) (l : ℕ) (v w : T) → AreFilled slots own → times l own ≡ 1 → slice_get slots l ≡ Some (Some w) → gathered (set slots l (Some v)) own ≡ put nat_eq (gathered slots own) l v
  put-gathered slots [] l v w h t g = absurd (omega arith)
  put-gathered slots (k ∷ own) l v w h t g =
      let within : l < length slots = slice_get_within slots l (Some w) g in
      let here : get_or slots k None ≡ Some h.0.0 = get_or_from_slice_get slots k (Some h.0.0) None h.0.1 in
      elim (nat_eq l k) as (λ b. nat_eq l k ≡ b → (if b then 1 else 0) + times l own ≡ 1 → gathered (set slots l (Some v)) (k ∷ own) ≡ put nat_eq (gathered slots (k ∷ own)) l v) [
        | true ↦ λ e t.
            let q : k ≡ l = grind (arith, nat_tests) in
            let zero : times l own ≡ 0 = omega (arith, t) in
            let kl : nat_eq k l ≡ true = grind (arith, nat_tests) in
            let new : get_or (set slots l (Some v)) k None ≡ Some v = ap (λ m. get_or (set slots l (Some v)) m None) q ∙ get_or-set_same slots l (Some v) None within in
            (λ i. with_value k (new i) (gathered-set slots l (Some v) own zero i)) ∙ sym (ap (λ x. put nat_eq (with_value k x (gathered slots own)) l v) here ∙ ap (λ b. if b then (k, v) ∷ gathered slots own else (k, h.0.0) ∷ put nat_eq (gathered slots own) l v) kl)
        | false ↦ λ e t.
            let ne : k ≢ l = grind (arith, nat_tests) in
            let kl : nat_eq k l ≡ false = grind (arith, nat_tests) in
            let rest = put-gathered slots own l v w h.1 (omega (arith, t)) g in
            let new : get_or (set slots l (Some v)) k None ≡ Some h.0.0 = get_or-set_other slots l k (Some v) None ne ∙ here in
            (λ i. with_value k (new i) (rest i)) ∙ sym (ap (λ x. put nat_eq (with_value k x (gathered slots own)) l v) here ∙ ap (λ b. if b then (k, v) ∷ gathered slots own else (k, h.0.0) ∷ put nat_eq (gathered slots own) l v) kl)
      ] refl t

module _ {T : Type 0} where
  pub size_bound : (x : Option T) → size_of x ≤ 1
  size_bound None = omega arith
  size_bound (Some v) = omega arith

  -- a number stands at most once among the slots of all owners
  pub held_bound : (slots : List (Option T)) (held : List ℕ) (k : ℕ) → IsHeld slots held → times k held ≤ 1
  held_bound slots held k h = omega (arith, h.once k, size_bound (get_or slots k None))

  pub held_filled : (slots : List (Option T)) (held : List ℕ) (k : ℕ) → IsHeld slots held → 0 < times k held → IsFilled slots k
  held_filled slots held k h t = filled_slot slots k (omega (arith, h.once k, held_bound slots held k h))

  -- and not where its slot is vacant
  pub held_vacant : (slots : List (Option T)) (held : List ℕ) (k : ℕ) → IsHeld slots held → slice_get slots k ≡ Some None → times k held ≡ 0
  held_vacant slots held k h e = h.once k ∙ ap size_of (get_or_from_slice_get slots k None None e)

  pub are_filled : (slots : List (Option T)) (own : List ℕ) → ((k : ℕ) → 0 < times k own → IsFilled slots k) → AreFilled slots own
  are_filled slots [] each = tt
  are_filled slots (x ∷ own) each =
      let same : nat_eq x x ≡ true = grind (arith, nat_tests) in (
        each x (rw same (omega arith)),
        are_filled slots own (λ k t. each k (omega (arith, t))),
      )

pub stands_times : (own : List ℕ) (l : ℕ) → Stands own l → 0 < times l own
stands_times [] l s = absurd (cc)
stands_times (k ∷ own) l s =
    elim (nat_eq k l) as (λ b. nat_eq k l ≡ b → (if b then true else stands nat_eq own l) ≡ true → 0 < (if nat_eq l k then 1 else 0) + times l own) [
      | true ↦ λ e _. let q : nat_eq l k ≡ true = grind (arith, nat_tests) in rw q (omega arith)
      | false ↦ λ e t. omega (arith, stands_times own l t)
    ] refl s

pub times_absent : (own : List ℕ) (l : ℕ) → times l own ≡ 0 → stands nat_eq own l ≡ false
times_absent [] l h = refl
times_absent (k ∷ own) l h =
    elim (nat_eq k l) as (λ b. nat_eq k l ≡ b → (if b then true else stands nat_eq own l) ≡ false) [
      | true ↦ λ e. let q : nat_eq l k ≡ true = grind (arith, nat_tests) in absurd (omega (arith, rw q at h))
      | false ↦ λ e. times_absent own l (omega (arith, h))
    ] refl
