-- Laws of reading by a grammar: what is read is derived.
use Rattle.std.proofs.Common.{inl, inr, true, false, Bool, ◌⊎◌, ◌≡◌, ℕ, zero, suc, List, [], ◌∷◌, ◌++◌, length, Ok, Err, refl, ap, sym, subst, ◌∙◌}
use Rattle.std.proofs.lemmas.List.{append_assoc}
use Rattle.std.proofs.lemmas.Bool.Decides.{eqb_tells}
use Rattle.std.specs.Prelude.{if◌then◌else◌, ◌==◌, nat_le}
use Rattle.grammar.specs.Kinds.{among}
use Rattle.grammar.specs.Grammar.{Tree, tip, leaf, pair, node, Grammar, empty, token, call, line, both, either, fork, many, named, prefer, starting, on, Language, Relation, Perhaps, Choice, Chain, starts, Spells, Derives}
use Rattle.grammar.specs.Reading.{Fault, Answer, ◌>>=◌, firsts, further, later, furthest, perhaps, choose, token_at, refused, many_at, read_at, read}

-- what follows where the first was read
pub bind_ok : {A : Type 0} (r : Answer A) (f : Tree A × List A → Answer A) (x : Tree A × List A) → (r >>= f) ≡ Ok x → (y : Tree A × List A) × (r ≡ Ok y) × (f y ≡ Ok x)
bind_ok (Ok y) f x e = (y, refl, e)
bind_ok (Err b) f x e = absurd (cc (e))

pub bind_err : {A : Type 0} (r : Answer A) (f : Tree A × List A → Answer A) (c : Fault A) → (r >>= f) ≡ Err c
    → (r ≡ Err c) ⊎ ((y : Tree A × List A) × (r ≡ Ok y) × (f y ≡ Err c))
bind_err (Ok y) f c e = inr (y, refl, e)
bind_err (Err b) f c e = inl e

pub same_ok : {A : Type 0} (x y : Tree A × List A) → ◌≡◌ {A = Answer A} (Ok x) (Ok y) → x ≡ y
same_ok x y e = cc (e)

pub same_err : {A : Type 0} (x y : Fault A) → ◌≡◌ {A = Answer A} (Err x) (Err y) → x ≡ y
same_err x y e = cc (e)

-- which branch it was
pub chosen : {A : Type 0} (b : Bool) (x y z : Answer A) → (if b then x else y) ≡ z → ((b ≡ true) × (x ≡ z)) ⊎ ((b ≡ false) × (y ≡ z))
chosen true x y z e = inl (refl, e)
chosen false x y z e = inr (refl, e)

-- the branch that the next token chose
pub branch : {A : Type 0} (b : Bool) (x y : Answer A) → b ≡ true → (if b then x else y) ≡ x
branch b x y e = rw e refl

pub branch_not : {A : Type 0} (b : Bool) (x y : Answer A) → b ≡ false → (if b then x else y) ≡ y
branch_not b x y e = rw e refl

pub same_number : (x y : ℕ) → (x == y) ≡ true → x ≡ y
same_number x y e = elim (eqb_tells x y) [ inl h ↦ h.1 | inr h ↦ absurd (cc (e, h.0)) ]

-- which of two was read
pub fork_ok : {A : Type 0} (a b : Answer A) (p : Tree A × List A) → furthest a b ≡ Ok p → (a ≡ Ok p) ⊎ ((b ≡ Ok p) × (e : Fault A) × (a ≡ Err e))
fork_ok (Ok x) b p e = inl e
fork_ok (Err x) (Ok y) p e = inr (e, x, refl)
fork_ok (Err x) (Err y) p e = absurd (cc (e))

pub fork_err : {A : Type 0} (a b : Answer A) (c : Fault A) → furthest a b ≡ Err c → (e f : Fault A) × (a ≡ Err e) × (b ≡ Err f) × (later e f ≡ c)
fork_err (Ok x) b c e = absurd (cc (e))
fork_err (Err x) (Ok y) c e = absurd (cc (e))
fork_err (Err x) (Err y) c e = (x, y, refl, refl, same_err (later x y) c e)

pub further-is : {A : Type 0} (e f : List A) → (further e f ≡ e) ⊎ (further e f ≡ f)
further-is e f = by (nat_le (length e) (length f))
  where
    by : (b : Bool) → ((if b then e else f) ≡ e) ⊎ ((if b then e else f) ≡ f)
    by true = inl refl
    by false = inr refl

-- what is there where it was asked for
pub perhaps_ok : {A : Type 0} (b : Bool) (rd : List A → Answer A) (ts : List A) (p : Tree A × List A) → perhaps b rd ts ≡ Ok p
    → ((b ≡ true) × (rd ts ≡ Ok p)) ⊎ ((b ≡ false) × (ts ≡ p.1) × (p.0 ≡ tip))
perhaps_ok true rd ts p e = inl (refl, e)
perhaps_ok false rd ts p e = let same = same_ok (tip, ts) p e in inr (refl, ap (λ q. q.1) same, sym (ap (λ q. q.0) same))

pub perhaps_err : {A : Type 0} (b : Bool) (rd : List A → Answer A) (ts : List A) (c : Fault A) → perhaps b rd ts ≡ Err c → (b ≡ true) × (rd ts ≡ Err c)
perhaps_err true rd ts c e = (refl, e)
perhaps_err false rd ts c e = absurd (cc (e))

-- a sum by recursion on the second number
unfoldable pub plus : ℕ → ℕ → ℕ
plus m zero = m
plus m (suc n) = suc (plus m n)

-- two pieces in a row
pub rows : {A : Type 0} (f₁ f₂ ts mid rest : List A) → ts ≡ f₁ ++ mid → mid ≡ f₂ ++ rest → ts ≡ (f₁ ++ f₂) ++ rest
rows f₁ f₂ ts mid rest e₁ e₂ = e₁ ∙ ap (λ m. f₁ ++ m) e₂ ∙ sym (append_assoc f₁ f₂ rest)

abbrev pub Within : {A : Type 0} → Relation A → Relation A → Type 0
Within {A} Q S = (ts rest : List A) (a : Tree A) → Q ts rest a → S ts rest a

pub perhaps-more : {A : Type 0} (b : Bool) (Q S : Relation A) → Within Q S → Within (Perhaps b Q) (Perhaps b S)
perhaps-more b Q S w ts rest a e = elim e [ inl h ↦ inl (h.0, w ts rest a h.1) | inr h ↦ inr h ]

pub chain-more : {A : Type 0} (Q S : Relation A) (more : Tree A → Bool) → Within Q S → (a : Tree A) (ts rest : List A) → Chain Q more a ts rest → Chain S more a ts rest
unfolding Chain
chain-more Q S more w tip ts rest e = e
chain-more Q S more w (leaf t) ts rest e = e
chain-more Q S more w (pair a b) ts rest e =
    (e.0, w ts e.0 a e.1, elim e.2 [ inl h ↦ inl (h.0, chain-more Q S more w b e.0 rest h.1) | inr h ↦ inr h ])
chain-more Q S more w (node name a) ts rest e = e

abbrev pub Sound : {A : Type 0} → Relation A → (List A → Answer A) → Type 0
Sound {A} Q rd = (ts : List A) (p : Tree A × List A) → rd ts ≡ Ok p → Q ts p.1 p.0

pub perhaps-sound : {A : Type 0} (b : Bool) (Q : Relation A) (rd : List A → Answer A) → Sound Q rd → Sound (Perhaps b Q) (perhaps b rd)
perhaps-sound b Q rd s ts p e = elim (perhaps_ok b rd ts p e) [ inl h ↦ inl (h.0, s ts p h.1) | inr h ↦ inr h ]

pub choice-more : {A : Type 0} (b : Bool) (Q Q' S S' : Relation A) → Within Q Q' → Within S S' → Within (Choice b Q S) (Choice b Q' S')
choice-more b Q Q' S S' v w ts rest a e = elim e [ inl h ↦ inl (h.0, v ts rest a h.1) | inr h ↦ inr (h.0, w ts rest a h.1) ]

pub choice-sound : {A : Type 0} (b : Bool) (Q S : Relation A) (rd rd' : List A → Answer A) → Sound Q rd → Sound S rd' → Sound (Choice b Q S) (choose b rd rd')
choice-sound b Q S rd rd' s t ts p e = elim (chosen b (rd ts) (rd' ts) (Ok p) e) [ inl h ↦ inl (h.0, s ts p h.1) | inr h ↦ inr (h.0, t ts p h.1) ]

module _ {A : Type 0} (l : Language A) where
  pub token-ok : (kinds : List ℕ) (ts : List A) (p : Tree A × List A) → token_at l kinds ts ≡ Ok p
      → (t : A) × (ts ≡ t ∷ p.1) × (among kinds (l.kind t) ≡ true) × (p.0 ≡ leaf t)
  token-ok kinds [] p e = absurd (cc (e))
  token-ok kinds (t ∷ ts) p e = elim (chosen (among kinds (l.kind t)) (Ok (leaf t, ts)) (Err (false, t ∷ ts)) (Ok p) e) [
    | inl h ↦ let same = same_ok (leaf t, ts) p h.1 in (t, ap (λ q. t ∷ q.1) same, h.0, sym (ap (λ q. q.0) same))
    | inr h ↦ absurd (cc (h.1))
  ]

  pub token-err : (kinds : List ℕ) (ts : List A) (c : Fault A) → token_at l kinds ts ≡ Err c → (false, ts) ≡ c
  token-err kinds [] c e = same_err (false, []) c e
  token-err kinds (t ∷ ts) c e = elim (chosen (among kinds (l.kind t)) (Ok (leaf t, ts)) (Err (false, t ∷ ts)) (Err c) e) [
    | inl h ↦ absurd (cc (h.1))
    | inr h ↦ same_err (false, t ∷ ts) c h.1
  ]

  -- What was refused was read, or stands before what may not stand behind.
  pub refused_ok : (stop : List ℕ) (r : Answer A) (p : Tree A × List A) → refused l stop r ≡ Ok p → (r ≡ Ok p) × (starts l (among stop) p.1 ≡ false)
  refused_ok stop (Err c) p e = absurd (cc (e))
  refused_ok stop (Ok y) p e = elim (chosen (starts l (among stop) y.1) (Err (false, y.1)) (Ok (y.0, y.1)) (Ok p) e) [
    | inl h ↦ absurd (cc (h.1))
    | inr h ↦ (h.1, ap (λ q. starts l (among stop) q.1) (sym (same_ok y p h.1)) ∙ h.0)
  ]

  pub refused_err : (stop : List ℕ) (r : Answer A) (c : Fault A) → refused l stop r ≡ Err c → (r ≡ Err c) ⊎ ((y : Tree A × List A) × (r ≡ Ok y) × ((false, y.1) ≡ c))
  refused_err stop (Err b) c e = inl e
  refused_err stop (Ok y) c e = elim (chosen (starts l (among stop) y.1) (Err (false, y.1)) (Ok (y.0, y.1)) (Err c) e) [
    | inl h ↦ inr (y, refl, same_err (false, y.1) c h.1)
    | inr h ↦ absurd (cc (h.1))
  ]

  -- what `many` does with one more
  abbrev pub turn : (ℕ → Bool) → (Tree A → Bool) → (List A → Answer A) → ℕ → Tree A × List A → Answer A
  turn test more rd n x = perhaps (more x.0) (many_at l test more rd n) x.1 >>= (λ y. Ok (pair x.0 y.0, y.1))

  -- What is read is derived.
  pub many-sound : (Q : Relation A) (test : ℕ → Bool) (more : Tree A → Bool) (rd : List A → Answer A) → Sound Q rd
      → (n : ℕ) → Sound (λ ts rest a. Chain Q more a ts rest) (many_at l test more rd n)
  unfolding many_at Chain
  many-sound Q test more rd s zero ts p e = absurd (cc (e))
  many-sound Q test more rd s (suc n) ts p e =
      elim (chosen (starts l test ts) (rd ts >>= turn test more rd n) (Ok (tip, ts)) (Ok p) e) [
        | inl h ↦
            let f = bind_ok (rd ts) (turn test more rd n) p h.1 in
            let k = bind_ok (perhaps (more (f.0).0) (many_at l test more rd n) (f.0).1) (λ y. Ok (pair (f.0).0 y.0, y.1)) p f.2 in
            subst (λ q. Chain Q more q.0 ts q.1) (same_ok _ _ k.2) (
              (f.0).1,
              s ts f.0 f.1,
              perhaps-sound (more (f.0).0) (λ ts rest a. Chain Q more a ts rest) (many_at l test more rd n) (many-sound Q test more rd s n) (f.0).1 k.0 k.1,
            )
        | inr h ↦ subst (λ q. Chain Q more q.0 ts q.1) (same_ok _ _ h.1) refl
      ]

  -- what follows in `both` and `on`
  abbrev pub second : (Tree A → List A → Answer A) → Tree A × List A → Answer A
  second f p = f p.0 p.1 >>= λ q. Ok (pair p.0 q.0, q.1)

  pub read_at-sound : (R : ℕ → Relation A) (limit : ℕ) (r : ℕ → List A → Answer A) → ((n : ℕ) → Sound (R n) (r n))
      → (x : Grammar A) → Sound (Spells l R x) (read_at l limit r x)
  unfolding read_at Spells
  read_at-sound R limit r s empty ts p e = let same = same_ok _ p e in (ap (λ q. q.1) same, sym (ap (λ q. q.0) same))
  read_at-sound R limit r s (token kinds) ts p e = token-ok kinds ts p e
  read_at-sound R limit r s (call name) ts p e = s name ts p e
  read_at-sound R limit r s (line name x) ts p e = read_at-sound R limit r s x ts p e
  read_at-sound R limit r s (both x y) ts p e =
      let f = bind_ok (read_at l limit r x ts) (second (λ _. read_at l limit r y)) p e in
      let k = bind_ok (read_at l limit r y (f.0).1) (λ q. Ok (pair (f.0).0 q.0, q.1)) p f.2 in
      subst (λ q. Spells l R (both x y) ts q.1 q.0) (same_ok _ _ k.2)
      ((f.0).1, (f.0).0, (k.0).0, read_at-sound R limit r s x ts f.0 f.1, read_at-sound R limit r s y (f.0).1 k.0 k.1, refl)
  read_at-sound R limit r s (either x y) ts p e =
      elim (chosen (starts l (among (firsts l.heads x)) ts) (read_at l limit r x ts) (read_at l limit r y ts) (Ok p) e) [
        | inl h ↦ inl (read_at-sound R limit r s x ts p h.1)
        | inr h ↦ inr (read_at-sound R limit r s y ts p h.1)
      ]
  read_at-sound R limit r s (fork stop x y) ts p e =
      elim (fork_ok (refused l stop (read_at l limit r x ts)) (read_at l limit r y ts) p e) [
        | inl h ↦ inl (read_at-sound R limit r s x ts p (refused_ok stop (read_at l limit r x ts) p h).0)
        | inr h ↦ inr (read_at-sound R limit r s y ts p h.0)
      ]
  read_at-sound R limit r s (many more x) ts p e =
      many-sound (Spells l R x) (among (firsts l.heads x)) more (read_at l limit r x) (read_at-sound R limit r s x) limit ts p e
  read_at-sound R limit r s (named name x) ts p e =
      let f = bind_ok (read_at l limit r x ts) (λ p. Ok (node name p.0, p.1)) p e in
      subst (λ q. Spells l R (named name x) ts q.1 q.0) (same_ok _ _ f.2) ((f.0).0, read_at-sound R limit r s x ts f.0 f.1, refl)
  read_at-sound R limit r s (prefer kinds x) ts p e =
      elim (perhaps_ok (starts l (among kinds) ts) (read_at l limit r x) ts p e) [
        | inl h ↦ inl (read_at-sound R limit r s x ts p h.1)
        | inr h ↦ inr (h.1, h.2, ap (λ m. starts l (among kinds) m) (sym h.1) ∙ h.0)
      ]
  read_at-sound R limit r s (starting test x) ts p e =
      elim (chosen (starts l test ts) (read_at l limit r x ts) (Err (false, ts)) (Ok p) e) [
        | inl h ↦ (h.0, read_at-sound R limit r s x ts p h.1)
        | inr h ↦ absurd (cc (h.1))
      ]
  read_at-sound R limit r s (on test x y z) ts p e =
      let f = bind_ok (read_at l limit r x ts) (second (λ a. choose (test a) (read_at l limit r y) (read_at l limit r z))) p e in
      let k = bind_ok (choose (test (f.0).0) (read_at l limit r y) (read_at l limit r z) (f.0).1) (λ q. Ok (pair (f.0).0 q.0, q.1)) p f.2 in
      subst (λ q. Spells l R (on test x y z) ts q.1 q.0) (same_ok _ _ k.2) (
        (f.0).1,
        (f.0).0,
        (k.0).0,
        read_at-sound R limit r s x ts f.0 f.1,
        choice-sound (test (f.0).0) (Spells l R y) (Spells l R z) (read_at l limit r y) (read_at l limit r z) (read_at-sound R limit r s y) (read_at-sound R limit r s z) (f.0).1 k.0 k.1,
        refl,
      )

  pub read-sound : (limit depth name : ℕ) → Sound (Derives l depth name) (read l limit depth name)
  unfolding read Derives
  read-sound limit zero name ts p e = absurd (cc (e))
  read-sound limit (suc depth) name ts p e = read_at-sound (Derives l depth) limit (read l limit depth) (read-sound limit depth) (l.rules name) ts p e

  -- Nesting more is allowed where nesting less is.
  pub spells-more : (R S : ℕ → Relation A) → ((n : ℕ) → Within (R n) (S n)) → (x : Grammar A) → Within (Spells l R x) (Spells l S x)
  unfolding Spells
  spells-more R S w empty ts rest a e = e
  spells-more R S w (token kinds) ts rest a e = e
  spells-more R S w (call name) ts rest a e = w name ts rest a e
  spells-more R S w (line name x) ts rest a e = spells-more R S w x ts rest a e
  spells-more R S w (both x y) ts rest a e =
      (e.0, e.1, e.2, spells-more R S w x ts e.0 e.1 e.3, spells-more R S w y e.0 rest e.2 e.4, e.5)
  spells-more R S w (either x y) ts rest a e = elim e [
    | inl h ↦ inl (spells-more R S w x ts rest a h)
    | inr h ↦ inr (spells-more R S w y ts rest a h)
  ]
  spells-more R S w (fork stop x y) ts rest a e = elim e [
    | inl h ↦ inl (spells-more R S w x ts rest a h)
    | inr h ↦ inr (spells-more R S w y ts rest a h)
  ]
  spells-more R S w (many more x) ts rest a e = chain-more (Spells l R x) (Spells l S x) more (spells-more R S w x) a ts rest e
  spells-more R S w (named name x) ts rest a e = (e.0, spells-more R S w x ts rest e.0 e.1, e.2)
  spells-more R S w (prefer kinds x) ts rest a e = elim e [ inl h ↦ inl (spells-more R S w x ts rest a h) | inr h ↦ inr h ]
  spells-more R S w (starting test x) ts rest a e = (e.0, spells-more R S w x ts rest a e.1)
  spells-more R S w (on test x y z) ts rest a e = (
    e.0,
    e.1,
    e.2,
    spells-more R S w x ts e.0 e.1 e.3,
    choice-more (test e.1) (Spells l R y) (Spells l S y) (Spells l R z) (Spells l S z) (spells-more R S w y) (spells-more R S w z) e.0 rest e.2 e.4,
    e.5,
  )

  pub derives-more : (depth name : ℕ) → Within (Derives l depth name) (Derives l (suc depth) name)
  unfolding Derives
  derives-more zero name ts rest a e = absurd e
  derives-more (suc depth) name ts rest a e = spells-more (Derives l depth) (Derives l (suc depth)) (derives-more depth) (l.rules name) ts rest a e
