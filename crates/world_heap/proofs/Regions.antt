-- The regions of the owners, among the slots of all.
use Rattle.std.proofs.Common.{◌≡◌, ℕ, zero, suc, ◌+◌, ◌<◌, ◌≤◌, true, false, List, [], ◌∷◌, ◌++◌, length, get_or, set, Some, None, Option, refl, sym, ap, ◌∙◌, subst, arith, replicate, remove, slice_get, position, nat_eq, if◌then◌else◌, length-append, cond, sum_by}
use Rattle.std.proofs.lemmas.Bool.Decides.{nat_tests}
use Rattle.std.proofs.lemmas.Iterator.Adapters.{position_from-zero}
use Rattle.std.proofs.lemmas.List.Sums.{sum_by-cons}
use Rattle.std.specs.List.{position_from}
use Rattle.cell_chunks.specs.Slots.{IsFilled}
use Rattle.world_heap.specs.declared.store.Region.{Region}
use Rattle.world_heap.specs.Maps.{keys, find, put, without, stands, Stands}
use Rattle.world_heap.specs.Shelf.{values_of, IsAmong, Apart}
use Rattle.world_heap.specs.Stored.{times, all_own, owners, maps, gathered, IsAt, IsDistinct, IsStored}
use Rattle.world_heap.proofs.Slots.{times-append, AreFilled, keys-gathered, find-gathered, put-gathered, gathered-set, gathered-more, are_filled, held_filled, held_bound, stands_times, times_absent}

pub at_within : (rs : List Region) (o at : ℕ) → IsAt rs o at → at < length rs
at_within [] o at h = absurd h
at_within (r ∷ rs) o zero h = omega arith
at_within (r ∷ rs) o (suc at) h = omega (arith, at_within rs o at h.1)

pub at_owner : (rs : List Region) (o at : ℕ) (d : Region) → IsAt rs o at → (get_or rs at d).owner ≡ o
at_owner [] o at d h = absurd h
at_owner (r ∷ rs) o zero d h = h
at_owner (r ∷ rs) o (suc at) d h = at_owner rs o at d h.1

-- the place that `position` finds
pub at_position_from : (rs : List Region) (o n i : ℕ) → position_from (λ (r : Region). nat_eq r.owner o) n rs ≡ Some i → (at : ℕ) × (i ≡ n + at) × IsAt rs o at
at_position_from [] o n i h = absurd (cc)
at_position_from (r ∷ rs) o n i h =
    elim (nat_eq r.owner o) as (λ b. nat_eq r.owner o ≡ b → cond b (Some n) (position_from (λ (r : Region). nat_eq r.owner o) (n + 1) rs) ≡ Some i → (at : ℕ) × (i ≡ n + at) × IsAt (r ∷ rs) o at) [
      | true ↦ λ e q. let ni : n ≡ i = cc in (0, omega (arith, ni), grind (arith, nat_tests))
      | false ↦ λ e q. let rest = at_position_from rs o (n + 1) i q in (suc rest.0, omega (arith, rest.1), (e, rest.2))
    ] refl h

pub at_position : (rs : List Region) (o i : ℕ) → position (λ (r : Region). nat_eq r.owner o) rs ≡ Some i → IsAt rs o i
at_position rs o i h =
    let found = at_position_from rs o 0 i (sym (position_from-zero (λ (r : Region). nat_eq r.owner o) rs) ∙ h) in
    let same : found.0 ≡ i = omega (arith, found.1) in
    subst (IsAt rs o) same found.2

-- where the owner stands there is a place
pub at_stands : (rs : List Region) (o n : ℕ) → Stands (owners rs) o → position_from (λ (r : Region). nat_eq r.owner o) n rs ≡ None → ⊥
at_stands [] o n s h = cc
at_stands (r ∷ rs) o n s h =
    elim (nat_eq r.owner o) as (λ b. (if b then true else stands nat_eq (owners rs) o) ≡ true → cond b (Some n) (position_from (λ (r : Region). nat_eq r.owner o) (n + 1) rs) ≡ None → ⊥) [
      | true ↦ λ s h. cc
      | false ↦ λ s h. at_stands rs o (n + 1) s h
    ] s h

pub at_found : (rs : List Region) (o : ℕ) → Stands (owners rs) o → position (λ (r : Region). nat_eq r.owner o) rs ≡ None → ⊥
at_found rs o s h = at_stands rs o 0 s (sym (position_from-zero (λ (r : Region). nat_eq r.owner o) rs) ∙ h)

-- where there is none, the owner doesn't stand
pub at_absent : (rs : List Region) (o : ℕ) → position (λ (r : Region). nat_eq r.owner o) rs ≡ None → stands nat_eq (owners rs) o ≡ false
at_absent rs o h =
    elim (stands nat_eq (owners rs) o) as (λ b. stands nat_eq (owners rs) o ≡ b → b ≡ false) [
      | true ↦ λ s. absurd (at_found rs o s h)
      | false ↦ λ _. refl
    ] refl

pub owners-set : (rs : List Region) (o at : ℕ) (n : Region) → IsAt rs o at → n.owner ≡ o → owners (set rs at n) ≡ owners rs
owners-set [] o at n h e = absurd h
owners-set (r ∷ rs) o zero n h e = ap (λ k. k ∷ owners rs) (e ∙ sym h)
owners-set (r ∷ rs) o (suc at) n h e = ap (λ ks. r.owner ∷ ks) (owners-set rs o at n h.1 e)

owners_less : (rs : List Region) (at k : ℕ) → stands nat_eq (owners rs) k ≡ false → stands nat_eq (owners (remove rs at)) k ≡ false
owners_less [] zero k h = refl
owners_less [] (suc at) k h = refl
owners_less (r ∷ rs) zero k h =
    elim (nat_eq r.owner k) as (λ b. (if b then true else stands nat_eq (owners rs) k) ≡ false → stands nat_eq (owners rs) k ≡ false) [
      | true ↦ λ e. absurd (cc)
      | false ↦ λ e. e
    ] h
owners_less (r ∷ rs) (suc at) k h =
    elim (nat_eq r.owner k) as (λ b. (if b then true else stands nat_eq (owners rs) k) ≡ false → (if b then true else stands nat_eq (owners (remove rs at)) k) ≡ false) [
      | true ↦ λ e. e
      | false ↦ λ e. owners_less rs at k e
    ] h

pub distinct-remove : (rs : List Region) (at : ℕ) → IsDistinct (owners rs) → IsDistinct (owners (remove rs at))
distinct-remove [] zero h = tt
distinct-remove [] (suc at) h = tt
distinct-remove (r ∷ rs) zero h = h.1
distinct-remove (r ∷ rs) (suc at) h = (owners_less rs at r.owner h.0, distinct-remove rs at h.1)

pub distinct-push : (rs : List Region) (n : Region) → IsDistinct (owners rs) → stands nat_eq (owners rs) n.owner ≡ false → IsDistinct (owners (rs ++ n ∷ []))
distinct-push rs n = go rs
  where
    apart : (rs : List Region) (k : ℕ) → stands nat_eq (owners rs) k ≡ false → nat_eq n.owner k ≡ false → stands nat_eq (owners (rs ++ n ∷ [])) k ≡ false
    apart [] k h e = ap (λ b. if b then true else false) e
    apart (r ∷ rs) k h e =
        elim (nat_eq r.owner k) as (λ b. (if b then true else stands nat_eq (owners rs) k) ≡ false → (if b then true else stands nat_eq (owners (rs ++ n ∷ [])) k) ≡ false) [
          | true ↦ λ q. q
          | false ↦ λ q. apart rs k q e
        ] h

    go : (rs : List Region) → IsDistinct (owners rs) → stands nat_eq (owners rs) n.owner ≡ false → IsDistinct (owners (rs ++ n ∷ []))
    go [] d s = (refl, tt)
    go (r ∷ rs) d s =
        elim (nat_eq r.owner n.owner) as (λ b. nat_eq r.owner n.owner ≡ b → (if b then true else stands nat_eq (owners rs) n.owner) ≡ false → IsDistinct (owners (r ∷ (rs ++ n ∷ [])))) [
          | true ↦ λ e q. absurd (cc)
          | false ↦ λ e q. let back : nat_eq n.owner r.owner ≡ false = grind (arith, nat_tests) in (apart rs r.owner d.0 back, go rs d.1 q)
        ] refl s

-- the slots of all owners, where those of one change
pub times-set : (k : ℕ) (rs : List Region) (o at : ℕ) (n d : Region) → IsAt rs o at → times k (all_own (set rs at n)) + times k (get_or rs at d).own ≡ times k (all_own rs) + times k n.own
times-set k [] o at n d h = absurd h
times-set k (r ∷ rs) o zero n d h = omega (arith, times-append k r.own (all_own rs), times-append k n.own (all_own rs))
times-set k (r ∷ rs) o (suc at) n d h = omega (arith, times-append k r.own (all_own rs), times-append k r.own (all_own (set rs at n)), times-set k rs o at n d h.1)

pub length-set_own : (rs : List Region) (o at : ℕ) (n d : Region) → IsAt rs o at → length (all_own (set rs at n)) + length (get_or rs at d).own ≡ length (all_own rs) + length n.own
length-set_own [] o at n d h = absurd h
length-set_own (r ∷ rs) o zero n d h = omega (arith, length-append r.own (all_own rs), length-append n.own (all_own rs))
length-set_own (r ∷ rs) o (suc at) n d h = omega (arith, length-append r.own (all_own rs), length-append r.own (all_own (set rs at n)), length-set_own rs o at n d h.1)

pub times-remove : (k : ℕ) (rs : List Region) (o at : ℕ) (d : Region) → IsAt rs o at → times k (all_own rs) ≡ times k (get_or rs at d).own + times k (all_own (remove rs at))
times-remove k [] o at d h = absurd h
times-remove k (r ∷ rs) o zero d h = times-append k r.own (all_own rs)
times-remove k (r ∷ rs) o (suc at) d h = omega (arith, times-append k r.own (all_own rs), times-append k r.own (all_own (remove rs at)), times-remove k rs o at d h.1)

pub length-remove_own : (rs : List Region) (o at : ℕ) (d : Region) → IsAt rs o at → length (all_own rs) ≡ length (get_or rs at d).own + length (all_own (remove rs at))
length-remove_own [] o at d h = absurd h
length-remove_own (r ∷ rs) o zero d h = length-append r.own (all_own rs)
length-remove_own (r ∷ rs) o (suc at) d h = omega (arith, length-append r.own (all_own rs), length-append r.own (all_own (remove rs at)), length-remove_own rs o at d h.1)

pub all_own-push : (rs : List Region) (n : Region) → n.own ≡ [] → all_own (rs ++ n ∷ []) ≡ all_own rs
all_own-push [] n e = ap (λ xs. xs ++ []) e
all_own-push (r ∷ rs) n e = ap (λ xs. r.own ++ xs) (all_own-push rs n e)

-- a location among the slots of all owners, as one of an owner is
pub own_among : (rs : List Region) (o at l : ℕ) (d : Region) → IsAt rs o at → Stands (get_or rs at d).own l → 0 < times l (all_own rs)
own_among [] o at l d h s = absurd h
own_among (r ∷ rs) o zero l d h s = omega (arith, times-append l r.own (all_own rs), stands_times r.own l s)
own_among (r ∷ rs) o (suc at) l d h s = omega (arith, times-append l r.own (all_own rs), own_among rs o at l d h.1 s)

module _ {T : Type 0} where
  pub keys-maps : (slots : List (Option T)) (rs : List Region) → keys (maps slots rs) ≡ owners rs
  keys-maps slots [] = refl
  keys-maps slots (r ∷ rs) = ap (λ ks. r.owner ∷ ks) (keys-maps slots rs)

  pub maps-push : (slots : List (Option T)) (rs : List Region) (n : Region) → maps slots (rs ++ n ∷ []) ≡ maps slots rs ++ (n.owner, gathered slots n.own) ∷ []
  maps-push slots [] n = refl
  maps-push slots (r ∷ rs) n = ap (λ ms. (r.owner, gathered slots r.own) ∷ ms) (maps-push slots rs n)

  pub find-maps : (slots : List (Option T)) (rs : List Region) (o at : ℕ) (d : Region) → IsAt rs o at → find nat_eq (maps slots rs) o ≡ Some (gathered slots (get_or rs at d).own)
  find-maps slots [] o at d h = absurd h
  find-maps slots (r ∷ rs) o zero d h =
      let e : nat_eq r.owner o ≡ true = grind (arith, nat_tests) in
      ap (λ b. if b then Some (gathered slots r.own) else find nat_eq (maps slots rs) o) e
  find-maps slots (r ∷ rs) o (suc at) d h =
      ap (λ b. if b then Some (gathered slots r.own) else find nat_eq (maps slots rs) o) h.0 ∙ find-maps slots rs o at d h.1

  pub maps-set : (slots : List (Option T)) (rs : List Region) (o at : ℕ) (n : Region) → IsAt rs o at → n.owner ≡ o → maps slots (set rs at n) ≡ put nat_eq (maps slots rs) o (gathered slots n.own)
  maps-set slots [] o at n h e = absurd h
  maps-set slots (r ∷ rs) o zero n h e =
      let q : nat_eq r.owner o ≡ true = grind (arith, nat_tests) in
      ap (λ k. (k, gathered slots n.own) ∷ maps slots rs) (e ∙ sym h) ∙ sym (ap (λ b. if b then (r.owner, gathered slots n.own) ∷ maps slots rs else (r.owner, gathered slots r.own) ∷ put nat_eq (maps slots rs) o (gathered slots n.own)) q)
  maps-set slots (r ∷ rs) o (suc at) n h e =
      ap (λ ms. (r.owner, gathered slots r.own) ∷ ms) (maps-set slots rs o at n h.1 e) ∙ sym (ap (λ b. if b then (r.owner, gathered slots n.own) ∷ maps slots rs else (r.owner, gathered slots r.own) ∷ put nat_eq (maps slots rs) o (gathered slots n.own)) h.0)

  pub maps-remove : (slots : List (Option T)) (rs : List Region) (o at : ℕ) → IsAt rs o at → maps slots (remove rs at) ≡ without nat_eq (maps slots rs) o
  maps-remove slots [] o at h = absurd h
  maps-remove slots (r ∷ rs) o zero h =
      let q : nat_eq r.owner o ≡ true = grind (arith, nat_tests) in
      sym (ap (λ b. if b then maps slots rs else (r.owner, gathered slots r.own) ∷ without nat_eq (maps slots rs) o) q)
  maps-remove slots (r ∷ rs) o (suc at) h =
      ap (λ ms. (r.owner, gathered slots r.own) ∷ ms) (maps-remove slots rs o at h.1) ∙ sym (ap (λ b. if b then maps slots rs else (r.owner, gathered slots r.own) ∷ without nat_eq (maps slots rs) o) h.0)

  -- where a slot changes that no owner has, or slots are added
  pub maps-slot : (slots : List (Option T)) (s : ℕ) (x : Option T) (rs : List Region) → times s (all_own rs) ≡ 0 → maps (set slots s x) rs ≡ maps slots rs
  maps-slot slots s x [] h = refl
  maps-slot slots s x (r ∷ rs) h =
      let split = times-append s r.own (all_own rs) in
      λ i. (r.owner, gathered-set slots s x r.own (omega (arith, split, h)) i) ∷ maps-slot slots s x rs (omega (arith, split, h)) i

  pub maps-more : (slots : List (Option T)) (n : ℕ) (rs : List Region) → maps (slots ++ replicate n None) rs ≡ maps slots rs
  maps-more slots n [] = refl
  maps-more slots n (r ∷ rs) = λ i. (r.owner, gathered-more slots n r.own i) ∷ maps-more slots n rs i

  -- all owners' slots are filled
  pub AllFilled : List (Option T) → List Region → Type 0
  AllFilled slots rs = (k : ℕ) → 0 < times k (all_own rs) → IsFilled slots k

  own_filled : (slots : List (Option T)) (r : Region) (rs : List Region) → AllFilled slots (r ∷ rs) → AreFilled slots r.own
  unfolding AllFilled
  own_filled slots r rs h = are_filled slots r.own (λ k t. h k (omega (arith, times-append k r.own (all_own rs), t)))

  rest_filled : (slots : List (Option T)) (r : Region) (rs : List Region) → AllFilled slots (r ∷ rs) → AllFilled slots rs
  unfolding AllFilled
  rest_filled slots r rs h k t = h k (omega (arith, times-append k r.own (all_own rs), t))

  pub stored_filled : (slots : List (Option T)) (rs : List Region) → IsStored slots rs → AllFilled slots rs
  unfolding AllFilled
  stored_filled slots rs h k t = held_filled slots (all_own rs) k h.held t

  -- a location that an owner has is one of its slots
  pub among_at : (slots : List (Option T)) (rs : List Region) (o l : ℕ) (d : Region) → AllFilled slots rs → IsAmong (maps slots rs) o l → (at : ℕ) × IsAt rs o at × Stands (get_or rs at d).own l
  among_at slots [] o l d f h = absurd (cc)
  among_at slots (r ∷ rs) o l d f h =
      elim (nat_eq r.owner o) as (λ b. nat_eq r.owner o ≡ b → Stands (keys (Rattle.std.specs.Prelude.unwrap_or (if b then Some (gathered slots r.own) else find nat_eq (maps slots rs) o) [])) l → (at : ℕ) × IsAt (r ∷ rs) o at × Stands (get_or (r ∷ rs) at d).own l) [
        | true ↦ λ e s. (0, grind (arith, nat_tests), subst (λ ks. Stands ks l) (keys-gathered slots r.own (own_filled slots r rs f)) s)
        | false ↦ λ e s. let rest = among_at slots rs o l d (rest_filled slots r rs f) s in (suc rest.0, (e, rest.1), rest.2)
      ] refl h

  pub find-among : (slots : List (Option T)) (rs : List Region) (o at l : ℕ) (v : T) (d : Region) → AllFilled slots rs → IsAt rs o at → Stands (get_or rs at d).own l → slice_get slots l ≡ Some (Some v) → find nat_eq (gathered slots (get_or rs at d).own) l ≡ Some v
  find-among slots [] o at l v d f h s g = absurd h
  find-among slots (r ∷ rs) o zero l v d f h s g = find-gathered slots r.own l v (own_filled slots r rs f) s g
  find-among slots (r ∷ rs) o (suc at) l v d f h s g = find-among slots rs o at l v d (rest_filled slots r rs f) h.1 s g

  pub maps-write : (slots : List (Option T)) (rs : List Region) (o at l : ℕ) (v w : T) (d : Region) → AllFilled slots rs → IsAt rs o at → times l (all_own rs) ≡ 1 → Stands (get_or rs at d).own l → slice_get slots l ≡ Some (Some w)
      → maps (set slots l (Some v)) rs ≡ put nat_eq (maps slots rs) o (put nat_eq (gathered slots (get_or rs at d).own) l v)
  maps-write slots [] o at l v w d f h t s g = absurd h
  maps-write slots (r ∷ rs) o zero l v w d f h t s g =
      let split = times-append l r.own (all_own rs) in
      let one : times l r.own ≡ 1 = omega (arith, split, t, stands_times r.own l s) in
      let none : times l (all_own rs) ≡ 0 = omega (arith, split, t, one) in
      let q : nat_eq r.owner o ≡ true = grind (arith, nat_tests) in
      let new = put nat_eq (gathered slots r.own) l v in
      (λ i. (r.owner, put-gathered slots r.own l v w (own_filled slots r rs f) one g i) ∷ maps-slot slots l (Some v) rs none i) ∙ sym (ap (λ b. if b then (r.owner, new) ∷ maps slots rs else (r.owner, gathered slots r.own) ∷ put nat_eq (maps slots rs) o new) q)
  maps-write slots (r ∷ rs) o (suc at) l v w d f h t s g =
      let split = times-append l r.own (all_own rs) in
      let some : 0 < times l (all_own rs) = own_among rs o at l d h.1 s in
      let none : times l r.own ≡ 0 = omega (arith, split, t, some) in
      let one : times l (all_own rs) ≡ 1 = omega (arith, split, t, none) in
      let new = put nat_eq (gathered slots (get_or rs at d).own) l v in
      (λ i. (r.owner, gathered-set slots l (Some v) r.own none i) ∷ maps-write slots rs o at l v w d (rest_filled slots r rs f) h.1 one s g i) ∙ sym (ap (λ b. if b then (r.owner, new) ∷ maps slots rs else (r.owner, gathered slots r.own) ∷ put nat_eq (maps slots rs) o new) h.0)

  -- a location that is none of all owners' slots
  pub apart_all : (slots : List (Option T)) (rs : List Region) (l : ℕ) → AllFilled slots rs → times l (all_own rs) ≡ 0 → Apart (maps slots rs) l
  apart_all slots [] l f h = tt
  apart_all slots (r ∷ rs) l f h =
      let split = times-append l r.own (all_own rs) in (
        subst (λ ks. stands nat_eq ks l ≡ false) (sym (keys-gathered slots r.own (own_filled slots r rs f))) (times_absent r.own l (omega (arith, split, h))),
        apart_all slots rs l (rest_filled slots r rs f) (omega (arith, split, h)),
      )

  -- the slots of one region are filled
  pub at_filled : (slots : List (Option T)) (rs : List Region) (o at : ℕ) (d : Region) → AllFilled slots rs → IsAt rs o at → AreFilled slots (get_or rs at d).own
  at_filled slots [] o at d f h = absurd h
  at_filled slots (r ∷ rs) o zero d f h = own_filled slots r rs f
  at_filled slots (r ∷ rs) o (suc at) d f h = at_filled slots rs o at d (rest_filled slots r rs f) h.1

  -- the number of all values
  pub sum-maps : (slots : List (Option T)) (rs : List Region) → AllFilled slots rs → sum_by (λ (m : ℕ × List (ℕ × T)). length m.1) (maps slots rs) ≡ length (all_own rs)
  sum-maps slots [] f = refl
  sum-maps slots (r ∷ rs) f =
      let one : length (gathered slots r.own) ≡ length r.own = length_own slots r.own (own_filled slots r rs f) in
      omega (arith, sum_by-cons (λ (m : ℕ × List (ℕ × T)). length m.1) (r.owner, gathered slots r.own) (maps slots rs), one, length-append r.own (all_own rs), sum-maps slots rs (rest_filled slots r rs f))
    where
      length_own : (slots : List (Option T)) (own : List ℕ) → AreFilled slots own → length (gathered slots own) ≡ length own
      length_own slots own h = sym (length-keys (gathered slots own)) ∙ ap length (keys-gathered slots own h)
        where
          length-keys : (cs : List (ℕ × T)) → length (keys cs) ≡ length cs
          length-keys [] = refl
          length-keys (c ∷ cs) = ap suc (length-keys cs)

-- where each number stands at most once, no number stands twice
pub distinct_once : (own : List ℕ) → ((k : ℕ) → times k own ≤ 1) → IsDistinct own
distinct_once [] once = tt
distinct_once (x ∷ own) once =
    let same : nat_eq x x ≡ true = grind (arith, nat_tests) in
    let here : (if nat_eq x x then 1 else 0) + times x own ≤ 1 = once x in
    (times_absent own x (omega (arith, rw same at here)), distinct_once own (λ k. omega (arith, once k)))

-- no owner has a location twice
pub distinct_own : {T : Type 0} (slots : List (Option T)) (rs : List Region) (o : ℕ) → AllFilled slots rs → ((k : ℕ) → times k (all_own rs) ≤ 1) → IsDistinct (keys (values_of (maps slots rs) o))
unfolding AllFilled
distinct_own slots [] o f once = tt
distinct_own slots (r ∷ rs) o f once =
    let own : IsDistinct r.own = distinct_once r.own (λ k. omega (arith, times-append k r.own (all_own rs), once k)) in
    let filled = are_filled slots r.own (λ k t. f k (omega (arith, times-append k r.own (all_own rs), t))) in
    elim (nat_eq r.owner o) as (λ b. IsDistinct (keys (Rattle.std.specs.Prelude.unwrap_or (if b then Some (gathered slots r.own) else find nat_eq (maps slots rs) o) []))) [
      | true ↦ subst IsDistinct (sym (keys-gathered slots r.own filled)) own
      | false ↦ distinct_own slots rs o (λ k t. f k (omega (arith, times-append k r.own (all_own rs), t))) (λ k. omega (arith, times-append k r.own (all_own rs), once k))
    ]

pub stored_distinct : {T : Type 0} (slots : List (Option T)) (rs : List Region) (o : ℕ) → IsStored slots rs → IsDistinct (keys (values_of (maps slots rs) o))
stored_distinct slots rs o h = distinct_own slots rs o (stored_filled slots rs h) (λ k. held_bound slots (all_own rs) k h.held)
