-- The marks of slots with their owners.
use Rattle.std.proofs.Common.{◌≡◌, ◌≢◌, ℕ, zero, suc, ◌+◌, ◌<◌, ◌≤◌, true, false, List, [], ◌∷◌, ◌++◌, length, get_or, set, Some, None, Option, refl, sym, ap, ◌∙◌, subst, arith, remove, replicate, slice_get, nat_eq, if◌then◌else◌, length-set}
use Rattle.std.proofs.lemmas.Bool.Decides.{nat_tests}
use Rattle.std.proofs.lemmas.List.{get_or-set_same, get_or-set_other}
use Rattle.std.proofs.lemmas.Option.{slice_get_within}
use Rattle.world_heap.specs.declared.store.Region.{Region}
use Rattle.world_heap.specs.Maps.{keys, find, stands, Stands}
use Rattle.world_heap.specs.Over.{ListOver, list_more}
use Rattle.world_heap.specs.Shelf.{values_of, IsAmong}
use Rattle.world_heap.specs.Stored.{times, all_own, owners, maps, filled_at, IsAt, IsDistinct, IsStored, AreMarked, IsMarked}
use Rattle.world_heap.proofs.Slots.{times-append, filled_at-set, filled_at-more, held_vacant}
use Rattle.world_heap.proofs.Regions.{stored_filled, among_at}
use Rattle.world_heap.proofs.Storing.{none, keys_is}
use Rattle.world_heap.proofs.Wells.{absent_found}

-- a mark more, without an owner
pub mark_more : (marks : List (Option ℕ)) (k : ℕ) → get_or (marks ++ None ∷ []) k None ≡ get_or marks k None
mark_more [] zero = refl
mark_more [] (suc k) = refl
mark_more (m ∷ marks) zero = refl
mark_more (m ∷ marks) (suc k) = mark_more marks k

-- what holds of the marks holds of others that are the same
abbrev pub IsSame : List (Option ℕ) → List (Option ℕ) → Type 0
IsSame new old = (k : ℕ) → get_or new k None ≡ get_or old k None

pub marked_same : (old new : List (Option ℕ)) (rs : List Region) → IsSame new old → AreMarked old rs → AreMarked new rs
marked_same old new [] same h = tt
marked_same old new (r ∷ rs) same h = (
  list_more (λ l. get_or old l None ≡ Some r.owner) (λ l. get_or new l None ≡ Some r.owner) (λ l e. same l ∙ e) r.own h.0,
  marked_same old new rs same h.1,
)

-- where a slot is marked anew that none of these has
own_set : (marks : List (Option ℕ)) (l : ℕ) (x : Option ℕ) (o : ℕ) (own : List ℕ) → times l own ≡ 0 → ListOver (λ k. get_or marks k None ≡ Some o) own → ListOver (λ k. get_or (set marks l x) k None ≡ Some o) own
own_set marks l x o [] t h = tt
own_set marks l x o (k ∷ own) t h =
    elim (nat_eq l k) as (λ b. nat_eq l k ≡ b → (if b then 1 else 0) + times l own ≡ 0 → ListOver (λ k. get_or (set marks l x) k None ≡ Some o) (k ∷ own)) [
      | true ↦ λ q t. absurd (omega (arith, t))
      | false ↦ λ q t. let ne : k ≢ l = grind (arith, nat_tests) in (get_or-set_other marks l k x None ne ∙ h.0, own_set marks l x o own (omega (arith, t)) h.1)
    ] refl t

pub marked_set : (marks : List (Option ℕ)) (l : ℕ) (x : Option ℕ) (rs : List Region) → times l (all_own rs) ≡ 0 → AreMarked marks rs → AreMarked (set marks l x) rs
marked_set marks l x [] t h = tt
marked_set marks l x (r ∷ rs) t h =
    let split = times-append l r.own (all_own rs) in (
      own_set marks l x r.owner r.own (omega (arith, split, t)) h.0,
      marked_set marks l x rs (omega (arith, split, t)) h.1,
    )

over_push : (P : ℕ → Type 0) (own : List ℕ) (l : ℕ) → ListOver P own → P l → ListOver P (own ++ l ∷ [])
over_push P [] l h p = (p, tt)
over_push P (k ∷ own) l h p = (h.0, over_push P own l h.1 p)

-- a slot more of a region, marked with its owner
pub marked_add : (marks : List (Option ℕ)) (l o at : ℕ) (d n : Region) (rs : List Region) → l < length marks → times l (all_own rs) ≡ 0 → IsAt rs o at → n.owner ≡ o → n.own ≡ (get_or rs at d).own ++ l ∷ []
    → AreMarked marks rs → AreMarked (set marks l (Some o)) (set rs at n)
marked_add marks l o at d n [] lt t here owner own h = absurd here
marked_add marks l o zero d n (r ∷ rs) lt t here owner own h =
    let split = times-append l r.own (all_own rs) in
    let P : ℕ → Type 0 = λ k. get_or (set marks l (Some o)) k None ≡ Some o in
    let old : ListOver (λ k. get_or marks k None ≡ Some o) r.own = subst (λ w. ListOver (λ k. get_or marks k None ≡ Some w) r.own) here h.0 in
    let new : ListOver P n.own = subst (ListOver P) (sym own) (over_push P r.own l (own_set marks l (Some o) o r.own (omega (arith, split, t)) old) (get_or-set_same marks l (Some o) None lt)) in (
      subst (λ w. ListOver (λ k. get_or (set marks l (Some o)) k None ≡ Some w) n.own) (sym owner) new,
      marked_set marks l (Some o) rs (omega (arith, split, t)) h.1,
    )
marked_add marks l o (suc at) d n (r ∷ rs) lt t here owner own h =
    let split = times-append l r.own (all_own rs) in (
      own_set marks l (Some o) r.owner r.own (omega (arith, split, t)) h.0,
      marked_add marks l o at d n rs lt (omega (arith, split, t)) here.1 owner own h.1,
    )

pub marked_push : (marks : List (Option ℕ)) (rs : List Region) (n : Region) → n.own ≡ [] → AreMarked marks rs → AreMarked marks (rs ++ n ∷ [])
marked_push marks [] n e h = (subst (ListOver (λ l. get_or marks l None ≡ Some n.owner)) (sym e) tt, tt)
marked_push marks (r ∷ rs) n e h = (h.0, marked_push marks rs n e h.1)

pub marked_remove : (marks : List (Option ℕ)) (rs : List Region) (at : ℕ) → AreMarked marks rs → AreMarked marks (remove rs at)
marked_remove marks [] zero h = tt
marked_remove marks [] (suc at) h = tt
marked_remove marks (r ∷ rs) zero h = h.1
marked_remove marks (r ∷ rs) (suc at) h = (h.0, marked_remove marks rs at h.1)

-- the mark of a slot that stands among those of a region
own_mark : (marks : List (Option ℕ)) (l o : ℕ) (own : List ℕ) → Stands own l → ListOver (λ k. get_or marks k None ≡ Some o) own → get_or marks l None ≡ Some o
own_mark marks l o [] s h = absurd (cc)
own_mark marks l o (k ∷ own) s h =
    elim (nat_eq k l) as (λ b. nat_eq k l ≡ b → (if b then true else stands nat_eq own l) ≡ true → get_or marks l None ≡ Some o) [
      | true ↦ λ e _. let q : k ≡ l = grind (arith, nat_tests) in subst (λ j. get_or marks j None ≡ Some o) q h.0
      | false ↦ λ e t. own_mark marks l o own t h.1
    ] refl s

pub at_mark : (marks : List (Option ℕ)) (l o at : ℕ) (d : Region) (rs : List Region) → IsAt rs o at → Stands (get_or rs at d).own l → AreMarked marks rs → get_or marks l None ≡ Some o
at_mark marks l o at d [] here s h = absurd here
at_mark marks l o zero d (r ∷ rs) here s h = subst (λ w. get_or marks l None ≡ Some w) here (own_mark marks l r.owner r.own s h.0)
at_mark marks l o (suc at) d (r ∷ rs) here s h = at_mark marks l o at d rs here.1 s h.1

-- a slot that some region has, with this owner's mark, is one of the owner's
times_stands : (own : List ℕ) (l : ℕ) → 0 < times l own → Stands own l
times_stands [] l t = absurd (omega arith)
times_stands (k ∷ own) l t =
    elim (nat_eq k l) as (λ b. nat_eq k l ≡ b → (if b then true else stands nat_eq own l) ≡ true) [
      | true ↦ λ e. refl
      | false ↦ λ e. let q : nat_eq l k ≡ false = grind (arith, nat_tests) in times_stands own l (omega (arith, rw q at t))
    ] refl

owner_stands : (rs : List Region) (o at : ℕ) → IsAt rs o at → Stands (owners rs) o
owner_stands [] o at h = absurd h
owner_stands (r ∷ rs) o zero h = let e : nat_eq r.owner o ≡ true = grind (arith, nat_tests) in ap (λ b. if b then true else stands nat_eq (owners rs) o) e
owner_stands (r ∷ rs) o (suc at) h = ap (λ b. if b then true else stands nat_eq (owners rs) o) h.0 ∙ owner_stands rs o at h.1

pub marked_at : (marks : List (Option ℕ)) (l o : ℕ) (d : Region) (rs : List Region) → IsDistinct (owners rs) → AreMarked marks rs → 0 < times l (all_own rs) → get_or marks l None ≡ Some o
    → (at : ℕ) × IsAt rs o at × Stands (get_or rs at d).own l
marked_at marks l o d [] distinct h t m = absurd (omega arith)
marked_at marks l o d (r ∷ rs) distinct h t m =
    let split = times-append l r.own (all_own rs) in
    elim (stands nat_eq r.own l) as (λ b. stands nat_eq r.own l ≡ b → (at : ℕ) × IsAt (r ∷ rs) o at × Stands (get_or (r ∷ rs) at d).own l) [
      | true ↦ λ s.
          let same : Some r.owner ≡ Some o = sym (own_mark marks l r.owner r.own s h.0) ∙ m in
          let here : r.owner ≡ o = cc in (0, here, s)
      | false ↦ λ s.
          let none : times l r.own ≡ 0 = absent_times r.own l s in
          let rest = marked_at marks l o d rs distinct.1 h.1 (omega (arith, split, t, none)) m in
          (suc rest.0, (apart rest.0 rest.1, rest.1), rest.2)
    ] refl
  where
    absent_times : (own : List ℕ) (l : ℕ) → stands nat_eq own l ≡ false → times l own ≡ 0
    absent_times own l s =
        elim (times l own) as (λ n. times l own ≡ n → n ≡ 0) [
          | zero ↦ λ _. refl
          | suc n ↦ λ e. let more : 0 < times l own = omega (arith, e) in let there : stands nat_eq own l ≡ true = times_stands own l more in absurd (cc)
        ] refl

    apart : (at : ℕ) → IsAt rs o at → nat_eq r.owner o ≡ false
    apart at here =
        elim (nat_eq r.owner o) as (λ b. nat_eq r.owner o ≡ b → b ≡ false) [
          | true ↦ λ e.
              let q : r.owner ≡ o = grind (arith, nat_tests) in
              let there : stands nat_eq (owners rs) r.owner ≡ true = subst (λ k. Stands (owners rs) k) (sym q) (owner_stands rs o at here) in
              absurd (cc (distinct.0))
          | false ↦ λ _. refl
        ] refl

module _ {T : Type 0} (slots : List (Option T)) (marks : List (Option ℕ)) (rs : List Region) where
  pub room_marked : (n : ℕ) (new : List (Option ℕ)) → IsSame new marks → length (slots ++ replicate n None) ≤ length new → IsMarked slots marks rs → IsMarked (slots ++ replicate n None) new rs
  room_marked n new same long h = record {
    long = long;
    marked = marked_same marks new rs same h.marked;
    bare = λ k f. same k ∙ h.bare k (sym (filled_at-more slots n k) ∙ f);
  }

  pub added_marked : (l o at : ℕ) (d n : Region) (v : T) → IsStored slots rs → slice_get slots l ≡ Some None → IsAt rs o at → n.owner ≡ o → n.own ≡ (get_or rs at d).own ++ l ∷ []
      → IsMarked slots marks rs → IsMarked (set slots l (Some v)) (set marks l (Some o)) (set rs at n)
  added_marked l o at d n v stored vacant here owner own h =
      let within : l < length slots = slice_get_within slots l None vacant in
      let nowhere = held_vacant slots (all_own rs) l stored.held vacant in
      record {
        long = omega (arith, length-set slots l (Some v), length-set marks l (Some o), h.long);
        marked = marked_add marks l o at d n rs (omega (arith, within, h.long)) nowhere here owner own h.marked;
        bare = λ k f. elim (nat_eq k l) as (λ b. nat_eq k l ≡ b → (if b then 1 else filled_at slots k) ≡ 0 → get_or (set marks l (Some o)) k None ≡ None) [
          | true ↦ λ e z. absurd (omega (arith, z))
          | false ↦ λ e z. let ne : k ≢ l = grind (arith, nat_tests) in get_or-set_other marks l k (Some o) None ne ∙ h.bare k z
        ] refl (sym (filled_at-set slots l k (Some v) within) ∙ f);
      }

  pub written_marked : (l : ℕ) (v w : T) → slice_get slots l ≡ Some (Some w) → IsMarked slots marks rs → IsMarked (set slots l (Some v)) marks rs
  written_marked l v w filled h =
      let within : l < length slots = slice_get_within slots l (Some w) filled in
      record {
        long = omega (arith, length-set slots l (Some v), h.long);
        marked = h.marked;
        bare = λ k f. elim (nat_eq k l) as (λ b. nat_eq k l ≡ b → (if b then 1 else filled_at slots k) ≡ 0 → get_or marks k None ≡ None) [
          | true ↦ λ e z. absurd (omega (arith, z))
          | false ↦ λ e z. h.bare k z
        ] refl (sym (filled_at-set slots l k (Some v) within) ∙ f);
      }

  pub vacated_marked : (l : ℕ) → l < length slots → times l (all_own rs) ≡ 0 → IsMarked slots marks rs → IsMarked (set slots l None) (set marks l None) rs
  vacated_marked l within nowhere h = record {
    long = omega (arith, length-set slots l None, length-set marks l None, h.long);
    marked = marked_set marks l None rs nowhere h.marked;
    bare = λ k f. elim (nat_eq k l) as (λ b. nat_eq k l ≡ b → (if b then 0 else filled_at slots k) ≡ 0 → get_or (set marks l None) k None ≡ None) [
      | true ↦ λ e z. let q : k ≡ l = grind (arith, nat_tests) in rw q (get_or-set_same marks l None None (omega (arith, within, h.long)))
      | false ↦ λ e z. let ne : k ≢ l = grind (arith, nat_tests) in get_or-set_other marks l k None None ne ∙ h.bare k z
    ] refl (sym (filled_at-set slots l k None within) ∙ f);
  }

  -- a location that is marked with an owner is one of its own, and no other is
  pub marked_among : IsStored slots rs → IsMarked slots marks rs → (o l : ℕ) → get_or marks l None ≡ Some o → IsAmong (maps slots rs) o l
  marked_among stored h o l m =
      let some : 0 < times l (all_own rs) = elim (filled_at slots l) as (λ n. filled_at slots l ≡ n → 0 < times l (all_own rs)) [
        | zero ↦ λ e. let bare = h.bare l e in absurd (cc)
        | suc n ↦ λ e. omega (arith, stored.held.once l, e)
      ] refl in
      let found = marked_at marks l o none rs stored.distinct h.marked some m in
      subst (λ ks. Stands ks l) (sym (keys_is slots rs stored o found.0 none found.1)) found.2

  pub unmarked_absent : IsStored slots rs → IsMarked slots marks rs → (o l : ℕ) → (get_or marks l None ≡ Some o → ⊥) → find nat_eq (values_of (maps slots rs) o) l ≡ None
  unmarked_absent stored h o l away =
      absent_found (values_of (maps slots rs) o) l (elim (stands nat_eq (keys (values_of (maps slots rs) o)) l) as (λ b. stands nat_eq (keys (values_of (maps slots rs) o)) l ≡ b → b ≡ false) [
        | true ↦ λ s. let found = among_at slots rs o l none (stored_filled slots rs stored) s in absurd (away (at_mark marks l o found.0 none rs found.1 found.2 h.marked))
        | false ↦ λ _. refl
      ] refl)
