-- Sets of kinds, and what the next token is in.
use Rattle.std.proofs.Common.{inl, inr, true, false, Bool, ◌⊎◌, ◌≡◌, ℕ, ◌≤◌, ◌<◌, List, [], ◌∷◌, ◌++◌, length, refl, ap, sym, ◌∙◌, arith}
use Rattle.std.specs.Prelude.{if◌then◌else◌, ◌==◌, ◌||◌}
use Rattle.grammar.specs.Kinds.{among, kept, apart, covers, and, not}
use Rattle.grammar.specs.Grammar.{Language, starts}
use Rattle.grammar.proofs.Laws.{same_number}

pub and_both : (a b : Bool) → and a b ≡ true → (a ≡ true) × (b ≡ true)
and_both true b e = (refl, e)
and_both false b e = absurd (cc (e))

pub not_true : (a : Bool) → not a ≡ true → a ≡ false
not_true true e = absurd (cc (e))
not_true false e = refl

-- which branch it was
pub test_was : (b x y z : Bool) → (if b then x else y) ≡ z → ((b ≡ true) × (x ≡ z)) ⊎ ((b ≡ false) × (y ≡ z))
test_was true x y z e = inl (refl, e)
test_was false x y z e = inr (refl, e)

pub is_or_not : (b : Bool) → (b ≡ true) ⊎ (b ≡ false)
is_or_not true = inl refl
is_or_not false = inr refl

pub false_by : (b : Bool) → (b ≡ true → ⊥) → b ≡ false
false_by true h = absurd (h refl)
false_by false h = refl

pub or_right : (a b : Bool) → b ≡ true → (a || b) ≡ true
or_right true b e = refl
or_right false b e = e

pub among-left : (xs ys : List ℕ) (t : ℕ) → among xs t ≡ true → among (xs ++ ys) t ≡ true
unfolding among
among-left [] ys t e = absurd (cc (e))
among-left (x ∷ xs) ys t e = elim (test_was (x == t) true (among xs t) true e) [
  | inl h ↦ rw (h.0) refl
  | inr h ↦ rw (h.0) (among-left xs ys t h.1)
]

pub among-right : (xs ys : List ℕ) (t : ℕ) → among ys t ≡ true → among (xs ++ ys) t ≡ true
unfolding among
among-right [] ys t e = e
among-right (x ∷ xs) ys t e = elim (is_or_not (x == t)) [
  | inl h ↦ rw h refl
  | inr h ↦ rw h (among-right xs ys t e)
]

pub apart-tells : (xs ys : List ℕ) (t : ℕ) → apart xs ys ≡ true → among xs t ≡ true → among ys t ≡ true → ⊥
unfolding apart among
apart-tells [] ys t e a b = cc (a)
apart-tells (x ∷ xs) ys t e a b = elim (test_was (among ys x) false (apart xs ys) true e) [
  | inl h ↦ absurd (cc (h.1))
  | inr h ↦ elim (test_was (x == t) true (among xs t) true a) [
    | inl k ↦ let same : x ≡ t = same_number x t k.0 in let wrong : among ys x ≡ true = ap (λ n. among ys n) same ∙ b in cc (wrong, h.0)
    | inr k ↦ apart-tells xs ys t h.1 k.1 b
  ]
]

pub covers-tells : (xs ys : List ℕ) (t : ℕ) → covers xs ys ≡ true → among ys t ≡ true → among xs t ≡ true
unfolding covers among
covers-tells xs [] t e a = absurd (cc (a))
covers-tells xs (y ∷ ys) t e a = elim (test_was (among xs y) (covers xs ys) false true e) [
  | inl h ↦ elim (test_was (y == t) true (among ys t) true a) [
    | inl k ↦ ap (λ n. among xs n) (sym (same_number y t k.0)) ∙ h.0
    | inr k ↦ covers-tells xs ys t h.1 k.1
  ]
  | inr h ↦ absurd (cc (h.1))
]

pub among-kept : (test : ℕ → Bool) (xs : List ℕ) (t : ℕ) → among xs t ≡ true → test t ≡ true → among (kept test xs) t ≡ true
unfolding among kept
among-kept test [] t a p = absurd (cc (a))
among-kept test (x ∷ xs) t a p = elim (test_was (x == t) true (among xs t) true a) [
  | inl h ↦ let on : test x ≡ true = ap test (same_number x t h.0) ∙ p in rw on (rw (h.0) refl)
  | inr h ↦ elim (is_or_not (test x)) [
    | inl k ↦ rw k (rw (h.0) (among-kept test xs t h.1 p))
    | inr k ↦ rw k (among-kept test xs t h.1 p)
  ]
]

pub kept-among : (test : ℕ → Bool) (xs : List ℕ) (t : ℕ) → among (kept test xs) t ≡ true → (among xs t ≡ true) × (test t ≡ true)
unfolding among kept
kept-among test [] t a = absurd (cc (a))
kept-among test (x ∷ xs) t a = elim (is_or_not (test x)) [
  | inl k ↦ let a' : (if x == t then true else among (kept test xs) t) ≡ true = rw k at a in
      elim (test_was (x == t) true (among (kept test xs) t) true a') [
        | inl h ↦ (rw (h.0) refl, ap test (sym (same_number x t h.0)) ∙ k)
        | inr h ↦ let m = kept-among test xs t h.1 in (rw (h.0) (m.0), m.1)
      ]
  | inr k ↦ let a' : among (kept test xs) t ≡ true = rw k at a in
      let m = kept-among test xs t a' in
      elim (is_or_not (x == t)) [ inl h ↦ (rw h refl, m.1) | inr h ↦ (rw h (m.0), m.1) ]
]

module _ {A : Type 0} (l : Language A) where
  -- the same of the first token of a list
  abbrev pub At : List ℕ → List A → Type 0
  At xs ts = starts l (among xs) ts ≡ true

  abbrev pub Off : List ℕ → List A → Type 0
  Off xs ts = starts l (among xs) ts ≡ false

  pub at-left : (xs ys : List ℕ) (ts : List A) → At xs ts → At (xs ++ ys) ts
  at-left xs ys [] e = e
  at-left xs ys (t ∷ ts) e = among-left xs ys (l.kind t) e

  pub at-right : (xs ys : List ℕ) (ts : List A) → At ys ts → At (xs ++ ys) ts
  at-right xs ys [] e = e
  at-right xs ys (t ∷ ts) e = among-right xs ys (l.kind t) e

  pub off-left : (xs ys : List ℕ) (ts : List A) → Off (xs ++ ys) ts → Off xs ts
  off-left xs ys ts e = false_by (starts l (among xs) ts) (λ h. let wrong = at-left xs ys ts h in cc (wrong, e))

  pub off-right : (xs ys : List ℕ) (ts : List A) → Off (xs ++ ys) ts → Off ys ts
  off-right xs ys ts e = false_by (starts l (among ys) ts) (λ h. let wrong = at-right xs ys ts h in cc (wrong, e))

  pub off-apart : (xs ys : List ℕ) (ts : List A) → apart xs ys ≡ true → At ys ts → Off xs ts
  off-apart xs ys [] e a = absurd (cc (a))
  off-apart xs ys (t ∷ ts) e a = false_by (among xs (l.kind t)) (λ h. apart-tells xs ys (l.kind t) e h a)

  pub off-covered : (xs ys : List ℕ) (ts : List A) → covers xs ys ≡ true → Off xs ts → Off ys ts
  off-covered xs ys [] e a = refl
  off-covered xs ys (t ∷ ts) e a = false_by (among ys (l.kind t)) (λ h. let wrong = covers-tells xs ys (l.kind t) e h in cc (wrong, a))

  pub at-covered : (xs ys : List ℕ) (ts : List A) → covers xs ys ≡ true → At ys ts → At xs ts
  at-covered xs ys [] e a = a
  at-covered xs ys (t ∷ ts) e a = covers-tells xs ys (l.kind t) e a

  pub at-kept : (test : ℕ → Bool) (xs : List ℕ) (ts : List A) → At xs ts → starts l test ts ≡ true → At (kept test xs) ts
  at-kept test xs [] a p = p
  at-kept test xs (t ∷ ts) a p = among-kept test xs (l.kind t) a p

  pub off-kept : (test : ℕ → Bool) (xs : List ℕ) (ts : List A) → Off (kept test xs) ts → starts l test ts ≡ true → Off xs ts
  off-kept test xs ts o p = false_by (starts l (among xs) ts) (λ h. let wrong = at-kept test xs ts h p in cc (wrong, o))

  -- What is derived begins with one of its first kinds, or is empty.
  abbrev pub Begun : List ℕ → Bool → List A → List A → Type 0
  Begun xs none ts rest = ((starts l (among xs) ts ≡ true) × (length rest < length ts)) ⊎ ((none ≡ true) × (ts ≡ rest))

  pub begun-shorter : (xs : List ℕ) (none : Bool) (ts rest : List A) → Begun xs none ts rest → length rest ≤ length ts
  begun-shorter xs none ts rest b = elim b [ inl h ↦ omega (arith, h.1) | inr h ↦ let e : length ts ≡ length rest = ap (λ l. length l) h.1 in omega (arith, e) ]

  -- a part that is not empty begins with its first kinds
  pub begun-surely : (xs : List ℕ) (none : Bool) (ts rest : List A) → none ≡ false → Begun xs none ts rest → At xs ts × (length rest < length ts)
  begun-surely xs none ts rest e b = elim b [ inl h ↦ h | inr h ↦ absurd (cc (e, h.0)) ]

  -- What stands behind a part goes on with it nowhere.
  pub begun-off : (xs ys : List ℕ) (none : Bool) (mid rest : List A) → apart xs ys ≡ true → Begun ys none mid rest → (none ≡ true → Off xs rest) → Off xs mid
  begun-off xs ys none mid rest e b s = elim b [ inl h ↦ off-apart xs ys mid e h.0 | inr h ↦ rw (h.1) (s h.0) ]

-- what the follow set of a part that may be empty adds
pub last_off : {A : Type 0} (l : Language A) (b : Bool) (xs : List ℕ) (rest : List A) → b ≡ true → Off l (if b then xs else []) rest → Off l xs rest
last_off l true xs rest e o = o
last_off l false xs rest e o = absurd (cc (e))
