-- Association lists, as a heap and a pool are seen: each key with what it has, in the order in which the keys came.
--     keys, find, put, without      the keys;  what a key has;  the list with something else there;  the list without the key
use Rattle.std.specs.Prelude.{◌≡◌, ℕ, Bool, true, false, List, [], ◌∷◌, ◌++◌, Option, Some, None, if◌then◌else◌, nat_eq, ◌||◌, refl}
use Rattle.std.proofs.Common.{ap, arith}
use Rattle.std.proofs.lemmas.Bool.Decides.{nat_tests}

module _ {L C : Type 0} where
  abbrev pub keys : List (L × C) → List L
  keys [] = []
  keys (c ∷ cs) = c.0 ∷ keys cs

  module _ (same : L → L → Bool) where
    abbrev pub find : List (L × C) → L → Option C
    find [] l = None
    find (c ∷ cs) l = if same c.0 l then Some c.1 else find cs l

    abbrev pub put : List (L × C) → L → C → List (L × C)
    put [] l d = []
    put (c ∷ cs) l d = if same c.0 l then (c.0, d) ∷ cs else c ∷ put cs l d

    abbrev pub without : List (L × C) → L → List (L × C)
    without [] l = []
    without (c ∷ cs) l = if same c.0 l then cs else c ∷ without cs l

-- whether a key is among these
abbrev pub stands : {L : Type 0} → (L → L → Bool) → List L → L → Bool
stands same [] l = false
stands same (k ∷ ks) l = if same k l then true else stands same ks l

-- the key is one of these numbers
abbrev pub Stands : List ℕ → ℕ → Type 0
Stands ks l = stands nat_eq ks l ≡ true

-- laws, at numbers
pub keys-append : {L C : Type 0} (cs ds : List (L × C)) → keys (cs ++ ds) ≡ keys cs ++ keys ds
keys-append [] ds = refl
keys-append (c ∷ cs) ds = ap (λ ks. c.0 ∷ ks) (keys-append cs ds)

pub keys-put : {C : Type 0} (cs : List (ℕ × C)) (l : ℕ) (d : C) → keys (put nat_eq cs l d) ≡ keys cs
keys-put [] l d = refl
keys-put (c ∷ cs) l d =
    elim (nat_eq c.0 l) as (λ b. keys (if b then (c.0, d) ∷ cs else c ∷ put nat_eq cs l d) ≡ c.0 ∷ keys cs) [
      | true ↦ refl
      | false ↦ ap (λ ks. c.0 ∷ ks) (keys-put cs l d)
    ]

pub stands-push : (ks : List ℕ) (l k : ℕ) → stands nat_eq (ks ++ l ∷ []) k ≡ (stands nat_eq ks k || nat_eq l k)
stands-push [] l k = grind arith
stands-push (x ∷ ks) l k = grind (arith, stands-push ks l k)

pub find-push : {C : Type 0} (cs : List (ℕ × C)) (l : ℕ) (c : C) (k : ℕ) → stands nat_eq (keys cs) l ≡ false → find nat_eq (cs ++ (l, c) ∷ []) k ≡ (if nat_eq l k then Some c else find nat_eq cs k)
find-push [] l c k h = refl
find-push (x ∷ cs) l c k h = grind (arith, nat_tests, find-push cs l c k)

pub find-put : {C : Type 0} (cs : List (ℕ × C)) (l : ℕ) (d : C) (k : ℕ) → Stands (keys cs) l → find nat_eq (put nat_eq cs l d) k ≡ (if nat_eq l k then Some d else find nat_eq cs k)
find-put [] l d k h = grind arith
find-put (x ∷ cs) l d k h = grind (arith, nat_tests, find-put cs l d k)

-- a key that stands has something
pub find-stands : {C : Type 0} (cs : List (ℕ × C)) (l : ℕ) → Stands (keys cs) l → (c : C) × (find nat_eq cs l ≡ Some c)
find-stands [] l h = absurd (grind arith)
find-stands (x ∷ cs) l h =
    elim (nat_eq x.0 l) as (λ b. (if b then true else stands nat_eq (keys cs) l) ≡ true → (c : _) × ((if b then Some x.1 else find nat_eq cs l) ≡ Some c)) [
      | true ↦ λ _. (x.1, refl)
      | false ↦ λ e. find-stands cs l e
    ] h

pub ruleset map_laws = (keys-append, keys-put, stands-push, find-push, find-put, nat_tests)
