-- What each call of a store does to its slots and regions.
use Rattle.std.proofs.Common.{◌≡◌, ℕ, zero, suc, ◌+◌, ◌<◌, true, false, List, [], ◌∷◌, ◌++◌, length, get_or, set, Some, None, Option, refl, sym, ap, ◌∙◌, subst, arith, replicate, remove, slice_get, nat_eq, if◌then◌else◌, length-append, unwrap_or}
use Rattle.std.proofs.lemmas.Bool.Decides.{nat_tests}
use Rattle.cell_chunks.specs.Slots.{IsFilled}
use Rattle.cell_chunks.proofs.Stacks.{slice_get_same}
use Rattle.world_heap.specs.declared.store.Region.{Region}
use Rattle.world_heap.specs.Maps.{keys, find, put, stands}
use Rattle.world_heap.specs.Shelf.{values_of, IsAmong, Apart}
use Rattle.world_heap.specs.Stored.{times, all_own, owners, maps, gathered, IsAt, IsDistinct, IsHeld, IsStored}
use Rattle.world_heap.proofs.Slots.{times-append, held_put, held_take, held_write, held_room, held_filled, held_bound, held_vacant, gathered-push, gathered-set, keys-gathered}
use Rattle.world_heap.proofs.Regions.{owners-set, times-set, length-set_own, times-remove, length-remove_own, own_among, keys-maps, find-maps, maps-set, maps-slot, stored_filled, among_at, find-among, maps-write, apart_all, at_filled}
use Rattle.world_heap.proofs.Wells.{absent_found}

pub none : Region
none = record { owner = 0; own = [] }

module _ {T : Type 0} (slots : List (Option T)) (rs : List Region) where
  values_is : (o at : ℕ) (d : Region) → IsAt rs o at → values_of (maps slots rs) o ≡ gathered slots (get_or rs at d).own
  values_is o at d h = ap (λ x. unwrap_or x []) (find-maps slots rs o at d h)

  -- the locations of an owner's values
  pub keys_is : IsStored slots rs → (o at : ℕ) (d : Region) → IsAt rs o at → keys (values_of (maps slots rs) o) ≡ (get_or rs at d).own
  keys_is s o at d h = ap keys (values_is o at d h) ∙ keys-gathered slots (get_or rs at d).own (at_filled slots rs o at d (stored_filled slots rs s) h)

  -- an owner that doesn't stand has no values
  pub none_is : (o : ℕ) → stands nat_eq (owners rs) o ≡ false → values_of (maps slots rs) o ≡ []
  none_is o h = ap (λ x. unwrap_or x []) (absent_found (maps slots rs) o (ap (λ ks. stands nat_eq ks o) (keys-maps slots rs) ∙ h))

  pub among_filled : IsStored slots rs → (o l : ℕ) → IsAmong (maps slots rs) o l → IsFilled slots l
  among_filled s o l m =
      let found = among_at slots rs o l none (stored_filled slots rs s) m in
      held_filled slots (all_own rs) l s.held (own_among rs o found.0 l none found.1 found.2)

  pub among_find : IsStored slots rs → (o l : ℕ) (v : T) → IsAmong (maps slots rs) o l → slice_get slots l ≡ Some (Some v) → find nat_eq (values_of (maps slots rs) o) l ≡ Some v
  among_find s o l v m g =
      let found = among_at slots rs o l none (stored_filled slots rs s) m in
      ap (λ cs. find nat_eq cs l) (values_is o found.0 none found.1) ∙ find-among slots rs o found.0 l v none (stored_filled slots rs s) found.1 found.2 g

  pub stored_write : IsStored slots rs → (l : ℕ) (v w : T) → slice_get slots l ≡ Some (Some w) → IsStored (set slots l (Some v)) rs
  stored_write s l v w g = record { held = held_write slots l v w (all_own rs) s.held g; distinct = s.distinct }

  pub write_is : IsStored slots rs → (o l : ℕ) (v w : T) → IsAmong (maps slots rs) o l → slice_get slots l ≡ Some (Some w)
      → maps (set slots l (Some v)) rs ≡ put nat_eq (maps slots rs) o (put nat_eq (values_of (maps slots rs) o) l v)
  write_is s o l v w m g =
      let found = among_at slots rs o l none (stored_filled slots rs s) m in
      let some : 0 < times l (all_own rs) = own_among rs o found.0 l none found.1 found.2 in
      let once : times l (all_own rs) ≡ 1 = omega (arith, some, held_bound slots (all_own rs) l s.held) in
      maps-write slots rs o found.0 l v w none (stored_filled slots rs s) found.1 once found.2 g ∙ ap (λ cs. put nat_eq (maps slots rs) o (put nat_eq cs l v)) (sym (values_is o found.0 none found.1))

  pub stored_room : IsStored slots rs → (n : ℕ) → IsStored (slots ++ replicate n None) rs
  stored_room s n = record { held = held_room slots n (all_own rs) s.held; distinct = s.distinct }

  -- a value more at the end of a region, in a vacant slot
  module _ (s : IsStored slots rs) (o at l : ℕ) (d n : Region) (v : T) (here : IsAt rs o at) (vacant : slice_get slots l ≡ Some None)
      (owner : n.owner ≡ o) (own : n.own ≡ (get_or rs at d).own ++ l ∷ []) where
    more_times : (k : ℕ) → times k (all_own (set rs at n)) ≡ (if nat_eq k l then 1 else 0) + times k (all_own rs)
    more_times k =
        omega (arith, times-set k rs o at n d here, ap (times k) own, times-append k (get_or rs at d).own (l ∷ []))

    more_length : length (all_own (set rs at n)) ≡ 1 + length (all_own rs)
    more_length =
        omega (arith, length-set_own rs o at n d here, ap length own, length-append (get_or rs at d).own (l ∷ []))

    pub stored_add : IsStored (set slots l (Some v)) (set rs at n)
    stored_add = record {
      held = held_put slots l v (all_own (set rs at n)) (all_own rs) s.held vacant (record { times_are = more_times; lengths = more_length });
      distinct = subst IsDistinct (sym (owners-set rs o at n here owner)) s.distinct;
    }

    pub apart_add : Apart (maps slots rs) l
    apart_add = apart_all slots rs l (stored_filled slots rs s) (held_vacant slots (all_own rs) l s.held vacant)

    pub add_is : maps (set slots l (Some v)) (set rs at n) ≡ put nat_eq (maps slots rs) o (values_of (maps slots rs) o ++ (l, v) ∷ [])
    add_is =
        let nowhere : times l (all_own rs) ≡ 0 = held_vacant slots (all_own rs) l s.held vacant in
        let filled = slice_get_same slots l None (Some v) vacant in
        let own_nowhere : times l (get_or rs at d).own ≡ 0 = omega (arith, times-remove l rs o at d here, nowhere) in
        let new : gathered (set slots l (Some v)) n.own ≡ values_of (maps slots rs) o ++ (l, v) ∷ [] =
        ap (gathered (set slots l (Some v))) own ∙ gathered-push (set slots l (Some v)) (get_or rs at d).own l v filled
        ∙ ap (λ cs. cs ++ (l, v) ∷ []) (gathered-set slots l (Some v) (get_or rs at d).own own_nowhere ∙ sym (values_is o at d here)) in
        maps-set (set slots l (Some v)) rs o at n here owner
        ∙ (λ i. put nat_eq (maps-slot slots l (Some v) rs nowhere i) o (new i))

  -- the slots of a region that was taken away, beside those of the others
  pub held_apart : IsStored slots rs → (o at : ℕ) (d : Region) → IsAt rs o at → IsHeld slots ((get_or rs at d).own ++ all_own (remove rs at))
  held_apart s o at d here = record {
    once = λ k. times-append k (get_or rs at d).own (all_own (remove rs at)) ∙ sym (times-remove k rs o at d here) ∙ s.held.once k;
    counted = omega (arith, s.held.counted, length-append (get_or rs at d).own (all_own (remove rs at)), length-remove_own rs o at d here);
  }

  -- one of them is vacated
  pub held_less : (own : List ℕ) (l : ℕ) → IsHeld slots ((own ++ l ∷ []) ++ all_own rs) → (v : T) → slice_get slots l ≡ Some (Some v) → IsHeld (set slots l None) (own ++ all_own rs)
  held_less own l h v g = held_take slots l v ((own ++ l ∷ []) ++ all_own rs) (own ++ all_own rs) h g (record {
    times_are = λ k. omega (arith, times-append k (own ++ l ∷ []) (all_own rs), times-append k own (l ∷ []), times-append k own (all_own rs));
    lengths = omega (arith, length-append (own ++ l ∷ []) (all_own rs), length-append own (l ∷ []), length-append own (all_own rs));
  })

  last_some : (own : List ℕ) (l : ℕ) → 0 < times l (own ++ l ∷ [])
  last_some own l =
      let same : nat_eq l l ≡ true = grind (arith, nat_tests) in
      let one : times l (l ∷ []) ≡ 1 = rw same refl in
      omega (arith, times-append l own (l ∷ []), one)

  pub last_filled : (own : List ℕ) (l : ℕ) → IsHeld slots ((own ++ l ∷ []) ++ all_own rs) → IsFilled slots l
  last_filled own l h =
      held_filled slots ((own ++ l ∷ []) ++ all_own rs) l h (omega (arith, times-append l (own ++ l ∷ []) (all_own rs), last_some own l))

  -- the slots of the others don't have it
  pub last_apart : (own : List ℕ) (l : ℕ) → IsHeld slots ((own ++ l ∷ []) ++ all_own rs) → times l (all_own rs) ≡ 0
  last_apart own l h =
      omega (arith, held_bound slots ((own ++ l ∷ []) ++ all_own rs) l h, times-append l (own ++ l ∷ []) (all_own rs), last_some own l)

  pub last_alone : (own : List ℕ) (l : ℕ) → IsHeld slots ((own ++ l ∷ []) ++ all_own rs) → maps (set slots l None) rs ≡ maps slots rs
  last_alone own l h =
      let bound = held_bound slots ((own ++ l ∷ []) ++ all_own rs) l h in
      maps-slot slots l None rs (omega (arith, bound, times-append l (own ++ l ∷ []) (all_own rs), last_some own l))

-- A slot that was vacant, and is filled and vacated.
pub set_back : {T : Type 0} (xs : List (Option T)) (l : ℕ) (x : Option T) → slice_get xs l ≡ Some None → set (set xs l x) l None ≡ xs
set_back [] l x h = absurd (cc)
set_back (y ∷ xs) zero x h = let e : y ≡ None = cc in ap (λ z. z ∷ xs) (sym e)
set_back (y ∷ xs) (suc l) x h = ap (λ zs. y ∷ zs) (set_back xs l x h)
