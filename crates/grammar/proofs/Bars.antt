-- What stands before a fault can be completed, also where a grammar looks at what stands behind.
use Rattle.std.proofs.Common.{inl, inr, true, false, Bool, ◌⊎◌, ◌≡◌, ℕ, zero, suc, ◌≤◌, ◌<◌, List, [], ◌∷◌, ◌++◌, length, Ok, Err, refl, ap, sym, subst, ◌∙◌, arith}
use Rattle.std.proofs.lemmas.List.{append_assoc}
use Rattle.std.proofs.lemmas.Bool.Decides.{leb_tells}
use Rattle.std.specs.Prelude.{if◌then◌else◌, ◌||◌, ◌==◌, nat_le}
use Rattle.grammar.specs.Kinds.{among, apart, covers, alike}
use Rattle.grammar.specs.Grammar.{Tree, tip, leaf, pair, node, Grammar, empty, token, call, line, both, either, fork, many, named, prefer, starting, on, Language, Relation, Perhaps, Choice, Chain, starts}
use Rattle.grammar.specs.Reading.{Fault, Answer, ◌>>=◌, nullable, perhaps, many_at}
use Rattle.grammar.specs.Tests.{Examples, word, first_passes}
use Rattle.grammar.proofs.Laws.{bind_err, same_err, chosen, perhaps_err, rows, turn, Sound, same_number}
use Rattle.grammar.proofs.Sets.{test_was, is_or_not, Off, off-left, off-right, off-covered, Begun, begun-off, last_off}
use Rattle.grammar.proofs.Complete.{Begins, perhaps-begun, chain-begun}

pub alike-same : (xs ys : List ℕ) → alike xs ys ≡ true → xs ≡ ys
unfolding alike
alike-same [] [] e = refl
alike-same [] (y ∷ ys) e = absurd (cc (e))
alike-same (x ∷ xs) [] e = absurd (cc (e))
alike-same (x ∷ xs) (y ∷ ys) e = elim (test_was (x == y) (alike xs ys) false true e) [
  | inl h ↦ let head = same_number x y h.0 in let rest = alike-same xs ys h.1 in cc (head, rest)
  | inr h ↦ absurd (cc (h.1))
]

pub at_most : (a b : ℕ) → nat_le a b ≡ true → a ≤ b
at_most a b e = elim (leb_tells a b) [ inl h ↦ h.1 | inr h ↦ absurd (cc (e, h.0)) ]

pub at_start : {A : Type 0} (l : List A) → (l ≡ []) ⊎ (l ≡ [] → ⊥)
at_start [] = inl refl
at_start (t ∷ l) = inr (λ e. cc (e))

-- nothing, where there may be something
pub perhaps-nothing : {A : Type 0} (b : Bool) (Q : Relation A) (ts : List A) → Q ts ts tip → Perhaps b Q ts ts tip
perhaps-nothing true Q ts q = inl (refl, q)
perhaps-nothing false Q ts q = inr (refl, refl, refl)

-- the one or the other, where both may be there
pub choice-some : {A : Type 0} (b : Bool) (Q S : Relation A) (ts : List A) (a a' : Tree A) → Q ts ts a → S ts ts a' → (c : Tree A) × Choice b Q S ts ts c
choice-some true Q S ts a a' q q' = (a, inl (refl, q))
choice-some false Q S ts a a' q q' = (a', inr (refl, q'))

module _ {A : Type 0} (l : Language A) where
  -- the same first token, or one that is allowed
  abbrev pub Alike : List A → List A → Type 0
  Alike rest next = (test : ℕ → Bool) → starts l test rest ≡ starts l test next

  abbrev pub Follows : List ℕ → List A → List A → Type 0
  Follows xs rest next = Alike rest next ⊎ Off l xs next

  pub follows-left : (xs ys : List ℕ) (rest next : List A) → Follows (xs ++ ys) rest next → Follows xs rest next
  follows-left xs ys rest next f = elim f [ inl h ↦ inl h | inr h ↦ inr (off-left l xs ys next h) ]

  pub follows-right : (xs ys : List ℕ) (rest next : List A) → Follows (xs ++ ys) rest next → Follows ys rest next
  follows-right xs ys rest next f = elim f [ inl h ↦ inl h | inr h ↦ inr (off-right l xs ys next h) ]

  pub follows-covered : (xs ys : List ℕ) (rest next : List A) → covers xs ys ≡ true → Follows xs rest next → Follows ys rest next
  follows-covered xs ys rest next c f = elim f [ inl h ↦ inl h | inr h ↦ inr (off-covered l xs ys next c h) ]

  abbrev pub Moved : List ℕ → Relation A → List A → List A → Tree A → Type 0
  Moved xs Q ts rest a = (front : List A) × (ts ≡ front ++ rest) × ((next : List A) → Follows xs rest next → Q (front ++ next) next a)

  abbrev pub Moves : List ℕ → Relation A → Type 0
  Moves xs Q = (ts rest : List A) (a : Tree A) → Q ts rest a → Moved xs Q ts rest a

  pub perhaps-moved : (xs : List ℕ) (b : Bool) (Q : Relation A) (ts rest : List A) (a : Tree A) → Perhaps b Q ts rest a → (Q ts rest a → Moved xs Q ts rest a)
      → Moved xs (Perhaps b Q) ts rest a
  perhaps-moved xs b Q ts rest a e m = elim e [
    | inl h ↦ let k = m h.1 in (k.0, k.1, λ next w. inl (h.0, k.2 next w))
    | inr h ↦ ([], h.1, λ next w. inr (h.0, refl, h.2))
  ]

  pub choice-moved : (xs ys : List ℕ) (b : Bool) (Q S : Relation A) (ts rest : List A) (a : Tree A) → Choice b Q S ts rest a → (Q ts rest a → Moved xs Q ts rest a)
      → (S ts rest a → Moved ys S ts rest a) → Moved (xs ++ ys) (Choice b Q S) ts rest a
  choice-moved xs ys b Q S ts rest a e m n = elim e [
    | inl h ↦ let k = m h.1 in (k.0, k.1, λ next w. inl (h.0, k.2 next (follows-left xs ys rest next w)))
    | inr h ↦ let k = n h.1 in (k.0, k.1, λ next w. inr (h.0, k.2 next (follows-right xs ys rest next w)))
  ]

  -- between two parts
  pub follows-mid : (xs ys fs : List ℕ) (none : Bool) (front mid rest next : List A) → mid ≡ front ++ rest → Begun l fs none mid rest
      → Follows (ys ++ (if none then xs else [])) rest next → Follows xs mid (front ++ next)
  follows-mid xs ys fs none (t ∷ f) mid rest next e b w = inl (λ test. ap (λ m. starts l test m) e)
  follows-mid xs ys fs none [] mid rest next e b w =
      let size : length mid ≡ length rest = ap (λ m. length m) e in
      elim b [
        | inl h ↦ absurd (let less = h.1 in omega (arith, size, less))
        | inr h ↦ elim w [
          | inl k ↦ inl (λ test. ap (λ m. starts l test m) e ∙ k test)
          | inr k ↦ inr (last_off l none xs next h.0 (off-right l ys _ next k))
        ]
      ]

  pub chain-moved : (xs fs : List ℕ) (none : Bool) (Q : Relation A) (more : Tree A → Bool) → Begins l fs none Q → Moves xs Q → (a : Tree A) (ts rest : List A) → Chain Q more a ts rest
      → Moved xs (λ ts rest a. Chain Q more a ts rest) ts rest a
  unfolding Chain
  chain-moved xs fs none Q more b m tip ts rest e = ([], e, λ next w. refl)
  chain-moved xs fs none Q more b m (leaf t) ts rest e = absurd e
  chain-moved xs fs none Q more b m (pair x y) ts rest e =
      let f = m ts e.0 x e.1 in
      let k = perhaps-moved xs (more x) (λ ts rest b'. Chain Q more y ts rest) e.0 rest y e.2 (λ c. chain-moved xs fs none Q more b m y e.0 rest c) in
      let begun = perhaps-begun l fs true (more x) (λ ts rest b'. Chain Q more y ts rest) e.0 rest y e.2 (λ c. chain-begun l fs none Q more b y e.0 rest c) in (
        f.0 ++ k.0,
        rows f.0 k.0 ts e.0 rest f.1 k.1,
        λ next w. (k.0 ++ next, rw (append_assoc f.0 k.0 next) (f.2 (k.0 ++ next) (follows-mid xs [] fs true k.0 e.0 rest next k.1 begun w)), k.2 next w),
      )
  chain-moved xs fs none Q more b m (node name a) ts rest e = absurd e

  -- The first token stays.
  pub start-moved : (test : ℕ → Bool) (front ts rest next : List A) → ts ≡ front ++ rest → length rest < length ts → starts l test ts ≡ true → starts l test (front ++ next) ≡ true
  start-moved test [] ts rest next e less s = absurd (let size : length ts ≡ length rest = ap (λ m. length m) e in omega (arith, size, less))
  start-moved test (t ∷ front) ts rest next e less s = sym (ap (λ m. starts l test m) e) ∙ s

  unfoldable pub kinds_of : List A → List ℕ
  kinds_of [] = []
  kinds_of (t ∷ ts) = l.kind t ∷ kinds_of ts

  pub kinds_of-append : (f k : List A) → kinds_of (f ++ k) ≡ kinds_of f ++ kinds_of k
  unfolding kinds_of
  kinds_of-append [] k = refl
  kinds_of-append (t ∷ f) k = ap (λ m. l.kind t ∷ m) (kinds_of-append f k)

  pub kinds_of-nil : (f : List A) → kinds_of f ≡ [] → f ≡ []
  unfolding kinds_of
  kinds_of-nil [] e = refl
  kinds_of-nil (t ∷ f) e = absurd (cc (e))

  pub first-starts : (test : ℕ → Bool) (f next : List A) (ks : List ℕ) → kinds_of f ≡ ks → first_passes test ks ≡ true → starts l test (f ++ next) ≡ true
  unfolding kinds_of
  first-starts test [] next ks e p = absurd (let q : first_passes test [] ≡ true = ap (λ m. first_passes test m) e ∙ p in cc (q))
  first-starts test (t ∷ f) next ks e p = ap (λ m. first_passes test m) e ∙ p

  -- an example of these kinds
  abbrev pub Example : List ℕ → List ℕ → Relation A → Type 0
  Example xs ks Q = (w : List A) × (kinds_of w ≡ ks) × ((next : List A) → Off l xs next → (a : Tree A) × Q (w ++ next) next a)

  -- what stands between a part and the end of the next one's example
  pub off-mid : (xs ys fs : List ℕ) (none : Bool) (mid next : List A) → (if none then true else apart xs fs) ≡ true → (none ≡ true → mid ≡ next) → Begun l fs none mid next
      → Off l (ys ++ (if none then xs else [])) next → Off l xs mid
  off-mid xs ys fs true mid next c e b o = rw (e refl) (off-right l ys xs next o)
  off-mid xs ys fs false mid next c e b o = begun-off l xs fs false mid next c b (λ h. absurd (cc (h)))

  abbrev pub Completed : List ℕ → Relation A → List A → List A → Type 0
  Completed xs Q ts c = (front : List A) × (ts ≡ front ++ c) × (more : List A) × ((next : List A) → Off l xs next → (a : Tree A) × Q (front ++ (more ++ next)) next a)

  -- The one form becomes another.
  pub completed-as : (xs ys : List ℕ) (Q S : Relation A) (ts c : List A) → ((next : List A) → Off l ys next → Off l xs next)
      → ((now next : List A) (a : Tree A) → Q now next a → (b : Tree A) × S now next b) → Completed xs Q ts c → Completed ys S ts c
  completed-as xs ys Q S ts c i w k =
      (k.0, k.1, k.2, λ next o. w (k.0 ++ (k.2 ++ next)) next (k.3 next (i next o)).0 (k.3 next (i next o)).1)

  -- A part was read, and what follows it can be completed from inside.
  pub behind-completed : (xs ys : List ℕ) (P Q S : Relation A) (a : Tree A) (mid ts c : List A) → Moved xs P ts mid a
      → ((now middle next : List A) (b : Tree A) → P now middle a → Q middle next b → (d : Tree A) × S now next d)
      → (k : Completed ys Q mid c) → (zs : List ℕ) → ((next : List A) → Off l zs next → Off l ys next)
      → (k.0 ≡ [] → (next : List A) → Off l zs next → Off l xs (k.2 ++ next)) → Completed zs S ts c
  behind-completed xs ys P Q S a mid ts c f w k zs j s = (
    f.0 ++ k.0,
    rows f.0 k.0 ts mid c f.1 k.1,
    k.2,
    λ next o.
        let q = k.3 next (j next o) in
        rw (append_assoc f.0 k.0 (k.2 ++ next))
        (w (f.0 ++ (k.0 ++ (k.2 ++ next))) (k.0 ++ (k.2 ++ next)) next q.0 (f.2 (k.0 ++ (k.2 ++ next)) (between k.0 k.1 (k.2 ++ next) (λ e. s e next o))) q.1),
  )
    where
      between : (front : List A) → mid ≡ front ++ c → (more : List A) → (front ≡ [] → Off l xs more) → Follows xs mid (front ++ more)
      between [] e more o = inr (o refl)
      between (t ∷ front) e more o = inl (λ test. ap (λ m. starts l test m) e)

  abbrev pub Completes : List ℕ → Relation A → (List A → Answer A) → Type 0
  Completes xs Q rd = (ts : List A) (c : Fault A) → rd ts ≡ Err c → Completed xs Q ts c.1

  pub many-completed : (xs fs : List ℕ) (none : Bool) (Q : Relation A) (more : Tree A → Bool) (rd : List A → Answer A) → apart xs fs ≡ true → Begins l fs none Q → Sound Q rd
      → Moves xs Q → Completes xs Q rd → (n : ℕ) → Completes xs (λ ts rest a. Chain Q more a ts rest) (many_at l (among fs) more rd n)
  unfolding many_at Chain
  many-completed xs fs none Q more rd v b s m k zero ts c e = ([], ap (λ q. q.1) (same_err (false, ts) c e), [], λ next o. (tip, refl))
  many-completed xs fs none Q more rd v b s m k (suc n) ts c e =
      elim (chosen (starts l (among fs) ts) (rd ts >>= turn l (among fs) more rd n) (Ok (tip, ts)) (Err c) e) [
        | inl h ↦ elim (bind_err (rd ts) (turn l (among fs) more rd n) c h.1) [
          | inl f ↦ completed-as xs xs Q (λ ts rest a. Chain Q more a ts rest) ts c.1 (λ next o. o)
              (λ now next a q. (pair a tip, (next, q, perhaps-nothing (more a) (λ ts rest b'. Chain Q more tip ts rest) next refl))) (k ts c f)
          | inr f ↦ elim (bind_err (perhaps (more (f.0).0) (many_at l (among fs) more rd n) (f.0).1) (λ y. Ok (pair (f.0).0 y.0, y.1)) c f.2) [
            | inl g ↦
                let g' = perhaps_err (more (f.0).0) (many_at l (among fs) more rd n) (f.0).1 c g in
                let rest = many-completed xs fs none Q more rd v b s m k n (f.0).1 c g'.1 in
                behind-completed xs xs Q (λ ts rest a. Chain Q more a ts rest) (λ ts rest a. Chain Q more a ts rest) (f.0).0 (f.0).1 ts c.1
                (m ts (f.0).1 (f.0).0 (s ts f.0 f.1)) (λ now middle next y p q. (pair (f.0).0 y, (middle, p, inl (g'.0, q)))) rest xs (λ next o. o)
                (λ z next o. begun-off l xs fs true (rest.2 ++ next) next v
                (chain-begun l fs none Q more b (rest.3 next o).0 (rest.2 ++ next) next (subst (λ m. Chain Q more (rest.3 next o).0 (m ++ (rest.2 ++ next)) next) z (rest.3 next o).1)) (λ _. o))
            | inr g ↦ absurd (cc (g.2))
          ]
        ]
        | inr h ↦ absurd (cc (h.1))
      ]

pub or_left : (a b : Bool) → (a || b) ≡ true → b ≡ false → a ≡ true
or_left true b e f = refl
or_left false b e f = absurd (cc (e, f))

-- an example of a part that may be empty
pub word-empty : {A : Type 0} (e : Examples) (x : Grammar A) → nullable x ≡ true → word e x ≡ []
unfolding nullable word
word-empty e empty n = refl
word-empty e (token kinds) n = absurd (cc (n))
word-empty e (call name) n = absurd (cc (n))
word-empty e (line name x) n = absurd (cc (n))
word-empty e (both x y) n = elim (test_was (nullable x) (nullable y) false true n) [
  | inl h ↦ ap (λ m. m ++ word e y) (word-empty e x h.0) ∙ word-empty e y h.1
  | inr h ↦ absurd (cc (h.1))
]
word-empty e (either x y) n = elim (is_or_not (nullable x)) [
  | inl h ↦ rw h (word-empty e x h)
  | inr h ↦ let n' : nullable y ≡ true = rw h at n in rw h (word-empty e y n')
]
word-empty e (fork stop x y) n = elim (is_or_not (nullable y)) [
  | inl h ↦ rw h (word-empty e y h)
  | inr h ↦ rw h (word-empty e x (or_left (nullable x) (nullable y) n h))
]
word-empty e (many more x) n = refl
word-empty e (named name x) n = word-empty e x n
word-empty e (prefer kinds x) n = refl
word-empty e (starting test x) n = word-empty e x n
word-empty e (on test x y z) n = word-empty e x n
