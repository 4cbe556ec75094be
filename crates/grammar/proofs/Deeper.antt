-- What is read, and a fault that is not one of nesting, stays at every greater depth.
use Rattle.std.proofs.Common.{inl, inr, true, false, Bool, ◌⊎◌, ◌≡◌, ℕ, zero, suc, ◌<◌, List, [], ◌∷◌, ◌++◌, length, Ok, Err, refl, ap, sym, subst, ◌∙◌}
use Rattle.std.specs.Prelude.{if◌then◌else◌, ◌||◌}
use Rattle.grammar.specs.Kinds.{among}
use Rattle.grammar.specs.Grammar.{Tree, tip, pair, node, Grammar, empty, token, call, line, both, either, fork, many, named, prefer, starting, on, Language, starts, Derives}
use Rattle.grammar.specs.Reading.{Answer, ◌>>=◌, nullable, firsts, further, furthest, perhaps, choose, token_at, refused, many_at, read_at, read}
use Rattle.grammar.specs.Tests.{NotBoth, Apart, InPlace, Fits, AllApart}
use Rattle.grammar.proofs.Laws.{bind_ok, bind_err, same_err, chosen, branch, branch_not, fork_ok, fork_err, further-is, plus, second, turn, derives-more}
use Rattle.grammar.proofs.Local.{furthest-second}
use Rattle.grammar.proofs.Sets.{is_or_not, or_right, Off, off-left, off-right, off-covered, off-kept, last_off}
use Rattle.grammar.proofs.Complete.{in-place, NoneWithin, fault-is}

pub or_false : (a b : Bool) → (a || b) ≡ false → (a ≡ false) × (b ≡ false)
or_false true b e = absurd (cc (e))
or_false false b e = (refl, e)

-- a fault at the first token, or nothing where that may be
abbrev pub Stuck : {A : Type 0} → Bool → Answer A → List A → Type 0
Stuck {A} none r ts = (r ≡ Err (false, ts)) ⊎ ((none ≡ true) × (a : Tree A) × (r ≡ Ok (a, ts)))

abbrev pub Grows : {A : Type 0} → (List A → Answer A) → (List A → Answer A) → Type 0
Grows {A} rd rd' = ((ts : List A) (p : Tree A × List A) → rd ts ≡ Ok p → rd' ts ≡ Ok p) × ((ts c : List A) → rd ts ≡ Err (false, c) → rd' ts ≡ Err (false, c))

pub same-grows : {A : Type 0} (rd : List A → Answer A) → Grows rd rd
same-grows rd = (λ ts p e. e, λ ts c e. e)

pub bind-grows : {A : Type 0} (rd rd' : List A → Answer A) (f f' : Tree A → List A → Answer A) → Grows rd rd' → ((a : Tree A) → Grows (f a) (f' a))
    → Grows (λ ts. rd ts >>= (λ y. f y.0 y.1)) (λ ts. rd' ts >>= (λ y. f' y.0 y.1))
bind-grows rd rd' f f' g h = (
  λ ts p e.
      let b = bind_ok (rd ts) (λ y. f y.0 y.1) p e in
      ap (λ r. r >>= (λ y. f' y.0 y.1)) (g.0 ts b.0 b.1) ∙ (h (b.0).0).0 (b.0).1 p b.2,
  λ ts c e. elim (bind_err (rd ts) (λ y. f y.0 y.1) (false, c) e) [
    | inl k ↦ ap (λ r. r >>= (λ y. f' y.0 y.1)) (g.1 ts c k)
    | inr b ↦ ap (λ r. r >>= (λ y. f' y.0 y.1)) (g.0 ts b.0 b.1) ∙ (h (b.0).0).1 (b.0).1 c b.2
  ],
)

pub perhaps-grows : {A : Type 0} (b : Bool) (rd rd' : List A → Answer A) → Grows rd rd' → Grows (perhaps b rd) (perhaps b rd')
perhaps-grows true rd rd' g = g
perhaps-grows false rd rd' g = same-grows (λ ts. Ok (tip, ts))

pub choose-grows : {A : Type 0} (b : Bool) (rd rd' sd sd' : List A → Answer A) → Grows rd rd' → Grows sd sd' → Grows (choose b rd sd) (choose b rd' sd')
choose-grows true rd rd' sd sd' g h = g
choose-grows false rd rd' sd sd' g h = h

pub fork-grows : {A : Type 0} (a a' b b' : List A → Answer A) → NotBoth a' b' → Grows a a' → Grows b b' → Grows (λ ts. furthest (a ts) (b ts)) (λ ts. furthest (a' ts) (b' ts))
fork-grows {A} a a' b b' n g h = (
  λ ts p e. elim (fork_ok (a ts) (b ts) p e) [
    | inl k ↦ ap (λ r. furthest r (b' ts)) (g.0 ts p k)
    | inr k ↦ let read : b' ts ≡ Ok p = h.0 ts p k.0 in furthest-second (a' ts) (b' ts) p read (λ q w. n ts q p w read)
  ],
  λ ts c e.
      let k = fork_err (a ts) (b ts) (false, c) e in
      let z = or_false (k.0).0 (k.1).0 (ap (λ q. q.0) k.4) in
      two (a' ts) (b' ts) (k.0).1 (k.1).1 c (g.1 ts (k.0).1 (k.2 ∙ ap (λ j. Err (j, (k.0).1)) z.0)) (h.1 ts (k.1).1 (k.3 ∙ ap (λ j. Err (j, (k.1).1)) z.1)) (ap (λ q. q.1) k.4),
)
  where
    two : (r s : Answer A) (e f c : List A) → r ≡ Err (false, e) → s ≡ Err (false, f) → further e f ≡ c → furthest r s ≡ Err (false, c)
    two r s e f c p q w = ap (λ r. furthest r s) p ∙ ap (λ s. furthest (Err (false, e)) s) q ∙ ap (λ m. Err (false, m)) w

pub further-same : {A : Type 0} (ts : List A) → further ts ts ≡ ts
further-same ts = elim (further-is ts ts) [ inl h ↦ h | inr h ↦ h ]

pub two-stuck : {A : Type 0} (m n : Bool) (r s : Answer A) (ts : List A) → Stuck m r ts → Stuck n s ts → Stuck (m || n) (furthest r s) ts
two-stuck m n r s ts p q = elim p [
  | inl h ↦ elim q [
    | inl k ↦ inl (ap (λ r. furthest r s) h ∙ ap (λ s. furthest (Err (false, ts)) s) k ∙ ap (λ m. Err (false, m)) (further-same ts))
    | inr k ↦ inr (or_right m n k.0, k.1, ap (λ r. furthest r s) h ∙ ap (λ s. furthest (Err (false, ts)) s) k.2)
  ]
  | inr h ↦ inr (ap (λ b. b || n) h.0, h.1, ap (λ r. furthest r s) h.2)
]

module _ {A : Type 0} (l : Language A) where
  pub branch-grows : (test : ℕ → Bool) (a a' b b' : List A → Answer A) → Grows a a' → Grows b b'
      → Grows (λ ts. if starts l test ts then a ts else b ts) (λ ts. if starts l test ts then a' ts else b' ts)
  branch-grows test a a' b b' g h = (
    λ ts p e. elim (chosen (starts l test ts) (a ts) (b ts) (Ok p) e) [
      | inl k ↦ branch _ _ _ k.0 ∙ g.0 ts p k.1
      | inr k ↦ branch_not _ _ _ k.0 ∙ h.0 ts p k.1
    ],
    λ ts c e. elim (chosen (starts l test ts) (a ts) (b ts) (Err (false, c)) e) [
      | inl k ↦ branch _ _ _ k.0 ∙ g.1 ts c k.1
      | inr k ↦ branch_not _ _ _ k.0 ∙ h.1 ts c k.1
    ],
  )

  pub many-grows : (test : ℕ → Bool) (more : Tree A → Bool) (rd rd' : List A → Answer A) → Grows rd rd' → (n : ℕ) → Grows (many_at l test more rd n) (many_at l test more rd' n)
  unfolding many_at
  many-grows test more rd rd' g zero = same-grows (λ ts. Err (false, ts))
  many-grows test more rd rd' g (suc n) =
      branch-grows test (λ ts. rd ts >>= turn l test more rd n) (λ ts. rd' ts >>= turn l test more rd' n) (λ ts. Ok (tip, ts)) (λ ts. Ok (tip, ts))
      (bind-grows rd rd' (λ x ts. turn l test more rd n (x, ts)) (λ x ts. turn l test more rd' n (x, ts)) g
      (λ x. bind-grows (perhaps (more x) (many_at l test more rd n)) (perhaps (more x) (many_at l test more rd' n)) (λ y ts. Ok (pair x y, ts)) (λ y ts. Ok (pair x y, ts))
      (perhaps-grows (more x) (many_at l test more rd n) (many_at l test more rd' n) (many-grows test more rd rd' g n)) (λ y. same-grows (λ ts. Ok (pair x y, ts)))))
      (same-grows (λ ts. Ok (tip, ts)))

  pub second-grows : (rd rd' : List A → Answer A) (f f' : Tree A → List A → Answer A) → Grows rd rd' → ((a : Tree A) → Grows (f a) (f' a))
      → Grows (λ ts. rd ts >>= second l f) (λ ts. rd' ts >>= second l f')
  second-grows rd rd' f f' g h =
      bind-grows rd rd' (λ a ts. second l f (a, ts)) (λ a ts. second l f' (a, ts)) g
      (λ a. bind-grows (f a) (f' a) (λ b ts. Ok (pair a b, ts)) (λ b ts. Ok (pair a b, ts)) (h a) (λ b. same-grows (λ ts. Ok (pair a b, ts))))

  pub refused-grows : (stop : List ℕ) (rd rd' : List A → Answer A) → Grows rd rd' → Grows (λ ts. refused l stop (rd ts)) (λ ts. refused l stop (rd' ts))
  refused-grows stop rd rd' g =
      bind-grows rd rd' (λ a ts. if starts l (among stop) ts then Err (false, ts) else Ok (a, ts)) (λ a ts. if starts l (among stop) ts then Err (false, ts) else Ok (a, ts)) g
      (λ a. same-grows (λ ts. if starts l (among stop) ts then Err (false, ts) else Ok (a, ts)))

  pub read_at-grows : (limit : ℕ) (r r' : ℕ → List A → Answer A) → ((n : ℕ) → Grows (r n) (r' n)) → ((n : ℕ) → InPlace l.rules (l.rules n)) → ((n : ℕ) → Apart l limit r' (l.rules n))
      → (x : Grammar A) → InPlace l.rules x → Apart l limit r' x → Grows (read_at l limit r x) (read_at l limit r' x)
  unfolding read_at Apart InPlace
  read_at-grows limit r r' m i d empty p s = same-grows (λ ts. Ok (tip, ts))
  read_at-grows limit r r' m i d (token kinds) p s = same-grows (token_at l kinds)
  read_at-grows limit r r' m i d (call name) p s = m name
  read_at-grows limit r r' m i d (line name x) p s =
      read_at-grows limit r r' m i d x (subst (InPlace l.rules) (sym p) (i name)) (subst (Apart l limit r') (sym p) (d name))
  read_at-grows limit r r' m i d (both x y) p s =
      second-grows (read_at l limit r x) (read_at l limit r' x) (λ _. read_at l limit r y) (λ _. read_at l limit r' y)
      (read_at-grows limit r r' m i d x p.0 s.0) (λ _. read_at-grows limit r r' m i d y p.1 s.1)
  read_at-grows limit r r' m i d (either x y) p s =
      branch-grows (among (firsts l.heads x)) (read_at l limit r x) (read_at l limit r' x) (read_at l limit r y) (read_at l limit r' y)
      (read_at-grows limit r r' m i d x p.0 s.0) (read_at-grows limit r r' m i d y p.1 s.1)
  read_at-grows limit r r' m i d (fork stop x y) p s =
      fork-grows (λ ts. refused l stop (read_at l limit r x ts)) (λ ts. refused l stop (read_at l limit r' x ts)) (read_at l limit r y) (read_at l limit r' y) s.2
      (refused-grows stop (read_at l limit r x) (read_at l limit r' x) (read_at-grows limit r r' m i d x p.0 s.0)) (read_at-grows limit r r' m i d y p.1 s.1)
  read_at-grows limit r r' m i d (many more x) p s =
      many-grows (among (firsts l.heads x)) more (read_at l limit r x) (read_at l limit r' x) (read_at-grows limit r r' m i d x p s) limit
  read_at-grows limit r r' m i d (named name x) p s =
      bind-grows (read_at l limit r x) (read_at l limit r' x) (λ a ts. Ok (node name a, ts)) (λ a ts. Ok (node name a, ts)) (read_at-grows limit r r' m i d x p s)
      (λ a. same-grows (λ ts. Ok (node name a, ts)))
  read_at-grows limit r r' m i d (prefer kinds x) p s =
      branch-grows (among kinds) (read_at l limit r x) (read_at l limit r' x) (λ ts. Ok (tip, ts)) (λ ts. Ok (tip, ts)) (read_at-grows limit r r' m i d x p s)
      (same-grows (λ ts. Ok (tip, ts)))
  read_at-grows limit r r' m i d (starting test x) p s =
      branch-grows test (read_at l limit r x) (read_at l limit r' x) (λ ts. Err (false, ts)) (λ ts. Err (false, ts)) (read_at-grows limit r r' m i d x p s)
      (same-grows (λ ts. Err (false, ts)))
  read_at-grows limit r r' m i d (on test x y z) p s =
      second-grows (read_at l limit r x) (read_at l limit r' x) (λ a. choose (test a) (read_at l limit r y) (read_at l limit r z))
      (λ a. choose (test a) (read_at l limit r' y) (read_at l limit r' z)) (read_at-grows limit r r' m i d x p.0 s.0)
      (λ a. choose-grows (test a) (read_at l limit r y) (read_at l limit r' y) (read_at l limit r z) (read_at l limit r' z) (read_at-grows limit r r' m i d y p.1 s.1)
      (read_at-grows limit r r' m i d z p.2 s.2))

module _ {A : Type 0} (l : Language A) (tails : ℕ → List ℕ) (f : Fits l tails) where
  -- what stands behind a part that is stuck or nothing
  pub second-stuck : (none next : Bool) (r : Answer A) (g : Tree A → List A → Answer A) (ts : List A) → Stuck none r ts → (none ≡ true → (a : Tree A) → Stuck next (g a ts) ts)
      → Stuck (if none then next else false) (r >>= second l g) ts
  second-stuck none next r g ts p q = elim p [
    | inl h ↦ inl (ap (λ r. r >>= second l g) h)
    | inr h ↦ elim (q h.0 h.1) [
      | inl k ↦ inl (ap (λ r. r >>= second l g) h.2 ∙ ap (λ r. r >>= λ q. Ok (pair h.1 q.0, q.1)) k)
      | inr k ↦ inr (ap (λ b. if b then next else false) h.0 ∙ k.0, pair h.1 k.1, ap (λ r. r >>= second l g) h.2 ∙ ap (λ r. r >>= λ q. Ok (pair h.1 q.0, q.1)) k.2)
    ]
  ]

  pub perhaps-stuck : (b none : Bool) (rd : List A → Answer A) (ts : List A) → Stuck none (rd ts) ts → Stuck true (perhaps b rd ts) ts
  perhaps-stuck true none rd ts p = elim p [ inl h ↦ inl h | inr h ↦ inr (refl, h.1, h.2) ]
  perhaps-stuck false none rd ts p = inr (refl, tip, refl)

  pub choose-stuck : (b none none' : Bool) (rd rd' : List A → Answer A) (ts : List A) → Stuck none (rd ts) ts → Stuck none' (rd' ts) ts → Stuck true (choose b rd rd' ts) ts
  choose-stuck true none none' rd rd' ts p q = elim p [ inl h ↦ inl h | inr h ↦ inr (refl, h.1, h.2) ]
  choose-stuck false none none' rd rd' ts p q = elim q [ inl h ↦ inl h | inr h ↦ inr (refl, h.1, h.2) ]

  pub read_at-stuck : (limit : ℕ) (r : ℕ → List A → Answer A) → ((n : ℕ) (ts : List A) → Off l (l.heads n) ts → r n ts ≡ Err (false, ts))
      → (x : Grammar A) → InPlace l.rules x → (ts : List A) → Off l (firsts l.heads x) ts → Stuck (nullable x) (read_at l limit r x ts) ts
  unfolding read_at nullable firsts InPlace many_at
  read_at-stuck limit r m empty p ts o = inr (refl, tip, refl)
  read_at-stuck limit r m (token kinds) p [] o = inl refl
  read_at-stuck limit r m (token kinds) p (t ∷ ts) o = inl (branch_not _ _ _ o)
  read_at-stuck limit r m (call name) p ts o = inl (m name ts o)
  read_at-stuck limit r m (line name x) p ts o =
      let t = in-place l tails f name x p in
      elim (read_at-stuck limit r m x t.4 ts (off-covered l (l.heads name) (firsts l.heads x) ts t.1 o)) [
        | inl h ↦ inl h
        | inr h ↦ absurd (let n = t.0 in cc (n, h.0))
      ]
  read_at-stuck limit r m (both x y) p ts o =
      second-stuck (nullable x) (nullable y) (read_at l limit r x ts) (λ _. read_at l limit r y) ts (read_at-stuck limit r m x p.0 ts (off-left l (firsts l.heads x) _ ts o))
      (λ n _. read_at-stuck limit r m y p.1 ts (last_off l (nullable x) (firsts l.heads y) ts n (off-right l (firsts l.heads x) _ ts o)))
  read_at-stuck limit r m (either x y) p ts o =
      let k = branch_not (starts l (among (firsts l.heads x)) ts) (read_at l limit r x ts) (read_at l limit r y ts) (off-left l (firsts l.heads x) (firsts l.heads y) ts o) in
      elim (read_at-stuck limit r m y p.1 ts (off-right l (firsts l.heads x) (firsts l.heads y) ts o)) [
        | inl h ↦ inl (k ∙ h)
        | inr h ↦ inr (or_right (nullable x) (nullable y) h.0, h.1, k ∙ h.2)
      ]
  read_at-stuck limit r m (fork stop x y) p ts o =
      two-stuck (nullable x) (nullable y) (refused l stop (read_at l limit r x ts)) (read_at l limit r y ts) ts
      (elim (read_at-stuck limit r m x p.0 ts (off-left l (firsts l.heads x) (firsts l.heads y) ts o)) [
        | inl h ↦ inl (ap (λ r. refused l stop r) h)
        | inr h ↦ elim (is_or_not (starts l (among stop) ts)) [
          | inl k ↦ inl (ap (λ r. refused l stop r) h.2 ∙ branch _ _ _ k)
          | inr k ↦ inr (h.0, h.1, ap (λ r. refused l stop r) h.2 ∙ branch_not _ _ _ k)
        ]
      ])
      (read_at-stuck limit r m y p.1 ts (off-right l (firsts l.heads x) (firsts l.heads y) ts o))
  read_at-stuck limit r m (many more x) p ts o = none limit
    where
      none : (n : ℕ) → Stuck true (many_at l (among (firsts l.heads x)) more (read_at l limit r x) n ts) ts
      none zero = inl refl
      none (suc n) = inr (refl, tip, branch_not _ _ _ o)
  read_at-stuck limit r m (named name x) p ts o = elim (read_at-stuck limit r m x p ts o) [
    | inl h ↦ inl (ap (λ v. v >>= λ p. Ok (node name p.0, p.1)) h)
    | inr h ↦ inr (h.0, node name h.1, ap (λ v. v >>= λ p. Ok (node name p.0, p.1)) h.2)
  ]
  read_at-stuck limit r m (prefer kinds x) p ts o = perhaps-stuck (starts l (among kinds) ts) (nullable x) (read_at l limit r x) ts (read_at-stuck limit r m x p ts o)
  read_at-stuck limit r m (starting test x) p ts o = elim (is_or_not (starts l test ts)) [
    | inl k ↦ elim (read_at-stuck limit r m x p ts (off-kept l test (firsts l.heads x) ts o k)) [
      | inl h ↦ inl (branch _ _ _ k ∙ h)
      | inr h ↦ inr (h.0, h.1, branch _ _ _ k ∙ h.2)
    ]
    | inr k ↦ inl (branch_not _ _ _ k)
  ]
  read_at-stuck limit r m (on test x y z) p ts o =
      let os : nullable x ≡ true → Off l (firsts l.heads y ++ firsts l.heads z) ts =
      λ n. last_off l (nullable x) (firsts l.heads y ++ firsts l.heads z) ts n (off-right l (firsts l.heads x) _ ts o) in
      elim (second-stuck (nullable x) true (read_at l limit r x ts) (λ a. choose (test a) (read_at l limit r y) (read_at l limit r z)) ts
      (read_at-stuck limit r m x p.0 ts (off-left l (firsts l.heads x) _ ts o))
      (λ n a. choose-stuck (test a) (nullable y) (nullable z) (read_at l limit r y) (read_at l limit r z) ts
      (read_at-stuck limit r m y p.1 ts (off-left l (firsts l.heads y) (firsts l.heads z) ts (os n)))
      (read_at-stuck limit r m z p.2 ts (off-right l (firsts l.heads y) (firsts l.heads z) ts (os n))))) [
        | inl h ↦ inl h
        | inr h ↦ inr (one (nullable x) h.0, h.1, h.2)
      ]
    where
      one : (b : Bool) → (if b then true else false) ≡ true → b ≡ true
      one true e = refl
      one false e = absurd (cc (e))

  -- A rule that its next token does not begin faults there.
  pub read-stuck : (limit depth n : ℕ) (ts : List A) → Off l (l.heads n) ts → read l limit depth n ts ≡ Err (false, ts)
  unfolding read
  read-stuck limit zero n ts o = ap (λ k. Err (k, ts)) o
  read-stuck limit (suc depth) n ts o =
      let t = in-place l tails f n (l.rules n) refl in
      elim (read_at-stuck limit (read l limit depth) (read-stuck limit depth) (l.rules n) t.4 ts (off-covered l (l.heads n) (firsts l.heads (l.rules n)) ts t.1 o)) [
        | inl h ↦ h
        | inr h ↦ absurd (let n = t.0 in cc (n, h.0))
      ]

  pub read-grows : (limit : ℕ) → AllApart l limit → (depth n : ℕ) → Grows (read l limit depth n) (read l limit (suc depth) n)
  unfolding read
  read-grows limit s zero n = (
    λ ts p e. absurd (cc (e)),
    λ ts c e.
        let q = same_err (starts l (among (l.heads n)) ts, ts) (false, c) e in
        read-stuck limit 1 n ts (ap (λ q. q.0) q) ∙ ap (λ m. Err (false, m)) (ap (λ q. q.1) q),
  )
  read-grows limit s (suc depth) n =
      read_at-grows l limit (read l limit depth) (read l limit (suc depth)) (read-grows limit s depth) (λ n. (f n).1) (s (suc depth)) (l.rules n) (f n).1 (s (suc depth) n)

  pub fault-raised : (limit : ℕ) → AllApart l limit → (depth more n : ℕ) (ts c : List A) → read l limit depth n ts ≡ Err (false, c) → read l limit (plus depth more) n ts ≡ Err (false, c)
  unfolding plus
  fault-raised limit s depth zero n ts c e = e
  fault-raised limit s depth (suc more) n ts c e = (read-grows limit s (plus depth more) n).1 ts c (fault-raised limit s depth more n ts c e)

pub plus-zero : (n : ℕ) → plus 0 n ≡ n
unfolding plus
plus-zero zero = refl
plus-zero (suc n) = ap (λ m. suc m) (plus-zero n)

pub plus-suc : (m n : ℕ) → plus (suc m) n ≡ suc (plus m n)
unfolding plus
plus-suc m zero = refl
plus-suc m (suc n) = ap (λ k. suc k) (plus-suc m n)

pub plus-turned : (m n : ℕ) → plus m n ≡ plus n m
unfolding plus
plus-turned m zero = sym (plus-zero m)
plus-turned m (suc n) = ap (λ k. suc k) (plus-turned m n) ∙ sym (plus-suc n m)

pub derives-raised : {A : Type 0} (l : Language A) (depth more n : ℕ) (ts rest : List A) (a : Tree A) → Derives l depth n ts rest a → Derives l (plus depth more) n ts rest a
unfolding plus
derives-raised l depth zero n ts rest a d = d
derives-raised l depth (suc more) n ts rest a d = derives-more l (plus depth more) n ts rest a (derives-raised l depth more n ts rest a d)

module _ {A : Type 0} (l : Language A) (tails : ℕ → List ℕ) (f : Fits l tails) where
  -- A fault that is not one of nesting is at a token that no script of any depth has there.
  pub fault-is_ever : (limit : ℕ) → AllApart l limit → (depth start : ℕ) (front c : List A) → length front < limit
      → read l limit depth start (front ++ c) ≡ Err (false, c) → (any : ℕ) → NoneWithin l limit any start front c
  fault-is_ever limit s depth start front c small e any =
      by c (fault-is l tails f limit s (plus depth any) start front (false, c) small (fault-raised l tails f limit s depth any start (front ++ c) c e))
    where
      lift : (ts : List A) (tree : Tree A) → Derives l any start ts [] tree → Derives l (plus depth any) start ts [] tree
      lift ts tree d = subst (λ n. Derives l n start ts [] tree) (plus-turned any depth) (derives-raised l any depth start ts [] tree d)

      by : (c : List A) → NoneWithin l limit (plus depth any) start front c → NoneWithin l limit any start front c
      by [] n = λ tree d. n tree (lift front tree d)
      by (t ∷ u) n = λ more tree few d. n more tree few (lift (front ++ t ∷ more) tree d)
