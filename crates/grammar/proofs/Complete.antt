-- What is derived is read, and there is one tree.
use Rattle.std.proofs.Common.{inl, inr, true, false, Bool, ◌≡◌, ℕ, zero, suc, ◌≤◌, ◌<◌, List, [], ◌∷◌, ◌++◌, length, Ok, Err, refl, ap, sym, subst, ◌∙◌, arith}
use Rattle.std.proofs.lemmas.List.{append-nil}
use Rattle.grammar.specs.Kinds.{among, apart, covers, not}
use Rattle.grammar.specs.Grammar.{Tree, tip, leaf, pair, node, Grammar, empty, token, call, line, both, either, fork, many, named, prefer, starting, on, Language, Relation, Perhaps, Choice, Chain, starts, Spells, Derives}
use Rattle.grammar.specs.Reading.{Fault, Answer, ◌>>=◌, nullable, firsts, furthest, perhaps, choose, token_at, refused, many_at, read_at, read}
use Rattle.grammar.specs.Tests.{goes_on, decided, fits, InPlace, Fits, Apart, AllApart}
use Rattle.grammar.proofs.Laws.{same_ok, branch, branch_not, second, turn}
use Rattle.grammar.proofs.Local.{furthest-second, read-tame}
use Rattle.grammar.proofs.Sets.{and_both, not_true, or_right, Off, at-left, at-right, off-left, off-right, off-covered, at-covered, at-kept, Begun, begun-shorter, begun-surely, begun-off, last_off}

-- it or nothing
pub perhaps-complete : {A : Type 0} (b : Bool) (Q : Relation A) (rd : List A → Answer A) (ts rest : List A) (a : Tree A) → Perhaps b Q ts rest a
    → (Q ts rest a → rd ts ≡ Ok (a, rest)) → perhaps b rd ts ≡ Ok (a, rest)
perhaps-complete b Q rd ts rest a e k = elim e [
  | inl h ↦ branch _ _ _ h.0 ∙ k h.1
  | inr h ↦ branch_not _ _ _ h.0 ∙ ap (λ m. Ok (tip, m)) h.1 ∙ ap (λ a. Ok (a, rest)) (sym h.2)
]

-- it or the other
pub choice-complete : {A : Type 0} (b : Bool) (Q S : Relation A) (rd rd' : List A → Answer A) (ts rest : List A) (a : Tree A) → Choice b Q S ts rest a
    → (Q ts rest a → rd ts ≡ Ok (a, rest)) → (S ts rest a → rd' ts ≡ Ok (a, rest)) → choose b rd rd' ts ≡ Ok (a, rest)
choice-complete b Q S rd rd' ts rest a e k m = elim e [ inl h ↦ branch _ _ _ h.0 ∙ k h.1 | inr h ↦ branch_not _ _ _ h.0 ∙ m h.1 ]

module _ {A : Type 0} (l : Language A) where
  abbrev pub Begins : List ℕ → Bool → Relation A → Type 0
  Begins xs none Q = (ts rest : List A) (a : Tree A) → Q ts rest a → Begun l xs none ts rest

  pub perhaps-begun : (xs : List ℕ) (none b : Bool) (Q : Relation A) (ts rest : List A) (a : Tree A) → Perhaps b Q ts rest a → (Q ts rest a → Begun l xs none ts rest)
      → Begun l xs true ts rest
  perhaps-begun xs none b Q ts rest a e k = elim e [
    | inl h ↦ elim (k h.1) [ inl j ↦ inl j | inr j ↦ inr (refl, j.1) ]
    | inr h ↦ inr (refl, h.1)
  ]

  pub choice-begun : (xs ys : List ℕ) (none none' b : Bool) (Q S : Relation A) (ts rest : List A) (a : Tree A) → Choice b Q S ts rest a → (Q ts rest a → Begun l xs none ts rest)
      → (S ts rest a → Begun l ys none' ts rest) → Begun l (xs ++ ys) true ts rest
  choice-begun xs ys none none' b Q S ts rest a e k m = elim e [
    | inl h ↦ elim (k h.1) [ inl j ↦ inl (at-left l xs ys ts j.0, j.1) | inr j ↦ inr (refl, j.1) ]
    | inr h ↦ elim (m h.1) [ inl j ↦ inl (at-right l xs ys ts j.0, j.1) | inr j ↦ inr (refl, j.1) ]
  ]

  pub chain-begun : (xs : List ℕ) (none : Bool) (Q : Relation A) (more : Tree A → Bool) → Begins xs none Q → (a : Tree A) (ts rest : List A) → Chain Q more a ts rest
      → Begun l xs true ts rest
  unfolding Chain
  chain-begun xs none Q more b tip ts rest e = inr (refl, e)
  chain-begun xs none Q more b (leaf t) ts rest e = absurd e
  chain-begun xs none Q more b (pair x y) ts rest e =
      let k = perhaps-begun xs true (more x) (λ ts rest b'. Chain Q more y ts rest) e.0 rest y e.2 (λ c. chain-begun xs none Q more b y e.0 rest c) in
      elim (b ts e.0 x e.1) [
        | inl h ↦ let s = begun-shorter l xs true e.0 rest k in inl (h.0, omega (arith, h.1, s))
        | inr h ↦ rw (h.1) k
      ]
  chain-begun xs none Q more b (node name a) ts rest e = absurd e

  -- What is derived is read, where what follows does not go on with it.
  abbrev pub Complete : List ℕ → ℕ → Relation A → (List A → Answer A) → Type 0
  Complete xs limit Q rd = (ts rest : List A) (a : Tree A) → Q ts rest a → Off l xs rest → length ts < limit → rd ts ≡ Ok (a, rest)

  pub chain-complete : (xs ends : List ℕ) (limit : ℕ) (Q : Relation A) (more : Tree A → Bool) (rd : List A → Answer A) → apart ends xs ≡ true → Begins xs false Q
      → Complete ends limit Q rd → (a : Tree A) (n : ℕ) (ts rest : List A) → Chain Q more a ts rest → Off l xs rest → Off l ends rest → length ts < n → length ts < limit
      → many_at l (among xs) more rd n ts ≡ Ok (a, rest)
  unfolding Chain many_at
  chain-complete xs ends limit Q more rd s b k a zero ts rest e o p few small = absurd (omega (arith, few))
  chain-complete xs ends limit Q more rd s b k tip (suc n) ts rest e o p few small =
      let off : Off l xs ts = rw e o in
      branch_not _ _ _ off ∙ ap (λ l. Ok (tip, l)) e
  chain-complete xs ends limit Q more rd s b k (leaf t) (suc n) ts rest e o p few small = absurd e
  chain-complete xs ends limit Q more rd s b k (pair x y) (suc n) ts rest e o p few small =
      let first = begun-surely l xs false ts e.0 refl (b ts e.0 x e.1) in
      let begun = perhaps-begun xs true (more x) (λ ts rest b'. Chain Q more y ts rest) e.0 rest y e.2 (λ c. chain-begun xs false Q more b y e.0 rest c) in
      let off = begun-off l ends xs true e.0 rest s begun (λ _. p) in
      let one : rd ts ≡ Ok (x, e.0) = k ts e.0 x e.1 off small in
      let others : perhaps (more x) (many_at l (among xs) more rd n) e.0 ≡ Ok (y, rest) =
      perhaps-complete (more x) (λ ts rest b'. Chain Q more y ts rest) (many_at l (among xs) more rd n) e.0 rest y e.2
      (λ c. chain-complete xs ends limit Q more rd s b k y n e.0 rest c o p (omega (arith, first.1, few)) (omega (arith, first.1, small))) in
      branch _ _ _ first.0 ∙ ap (λ r. r >>= turn l (among xs) more rd n) one ∙ ap (λ r. r >>= (λ y. Ok (pair x y.0, y.1))) others
  chain-complete xs ends limit Q more rd s b k (node name a) (suc n) ts rest e o p few small = absurd e

  -- the same of scripts shorter than a limit
  abbrev pub NoneWithin : ℕ → ℕ → ℕ → List A → List A → Type 0
  NoneWithin limit depth start front [] = (tree : Tree A) → Derives l depth start front [] tree → ⊥
  NoneWithin limit depth start front (t ∷ u) =
      (more : List A) (tree : Tree A) → length (front ++ t ∷ more) < limit → Derives l depth start (front ++ t ∷ more) [] tree → ⊥

module _ {A : Type 0} (l : Language A) (tails : ℕ → List ℕ) (f : Fits l tails) where
  -- what the tests say of a right side in its place
  pub in-place : (name : ℕ) (x : Grammar A) → x ≡ l.rules name → (nullable x ≡ false) × (covers (l.heads name) (firsts l.heads x) ≡ true)
      × (covers (tails name) (goes_on l.heads tails x) ≡ true) × (decided l.heads tails x ≡ true) × InPlace l.rules x
  in-place name x p =
      let t : fits l.heads tails name x ≡ true = subst (λ y. fits l.heads tails name y ≡ true) (sym p) (f name).0 in
      let t₁ = and_both (not (nullable x)) _ t in
      let t₂ = and_both (covers (l.heads name) (firsts l.heads x)) _ t₁.1 in
      let t₃ = and_both (covers (tails name) (goes_on l.heads tails x)) _ t₂.1 in
      (not_true (nullable x) t₁.0, t₂.0, t₃.0, t₃.1, subst (InPlace l.rules) (sym p) (f name).1)

  pub spells-begun : (R : ℕ → Relation A) → ((n : ℕ) → Begins l (l.heads n) false (R n)) → (x : Grammar A) → InPlace l.rules x
      → Begins l (firsts l.heads x) (nullable x) (Spells l R x)
  unfolding Spells firsts nullable InPlace
  spells-begun R b empty p ts rest a e = inr (refl, e.0)
  spells-begun R b (token kinds) p ts rest a e =
      let size : length ts ≡ length (e.0 ∷ rest) = ap (λ l. length l) e.1 in
      inl (ap (λ m. starts l (among kinds) m) e.1 ∙ e.2, omega (arith, size))
  spells-begun R b (call name) p ts rest a e = b name ts rest a e
  spells-begun R b (line name x) p ts rest a e =
      let q = in-place name x p in
      let k = begun-surely l (firsts l.heads x) (nullable x) ts rest q.0 (spells-begun R b x q.4 ts rest a e) in
      inl (at-covered l (l.heads name) (firsts l.heads x) ts q.1 k.0, k.1)
  spells-begun R b (both x y) p ts rest a e =
      let k = spells-begun R b y p.1 e.0 rest e.2 e.4 in
      let s = begun-shorter l (firsts l.heads y) (nullable y) e.0 rest k in
      elim (spells-begun R b x p.0 ts e.0 e.1 e.3) [
        | inl h ↦ inl (at-left l (firsts l.heads x) _ ts h.0, omega (arith, h.1, s))
        | inr h ↦ elim k [
          | inl j ↦ inl (at-right l (firsts l.heads x) _ ts (rw (h.0) (rw (h.1) (j.0))), rw (h.1) (j.1))
          | inr j ↦ inr (rw (h.0) (j.0), h.1 ∙ j.1)
        ]
      ]
  spells-begun R b (either x y) p ts rest a e = elim e [
    | inl h ↦ elim (spells-begun R b x p.0 ts rest a h) [ inl k ↦ inl (at-left l (firsts l.heads x) (firsts l.heads y) ts k.0, k.1) | inr k ↦ inr (rw (k.0) refl, k.1) ]
    | inr h ↦ elim (spells-begun R b y p.1 ts rest a h) [
      | inl k ↦ inl (at-right l (firsts l.heads x) (firsts l.heads y) ts k.0, k.1)
      | inr k ↦ inr (or_right (nullable x) (nullable y) k.0, k.1)
    ]
  ]
  spells-begun R b (fork stop x y) p ts rest a e = elim e [
    | inl h ↦ elim (spells-begun R b x p.0 ts rest a h) [ inl k ↦ inl (at-left l (firsts l.heads x) (firsts l.heads y) ts k.0, k.1) | inr k ↦ inr (rw (k.0) refl, k.1) ]
    | inr h ↦ elim (spells-begun R b y p.1 ts rest a h) [
      | inl k ↦ inl (at-right l (firsts l.heads x) (firsts l.heads y) ts k.0, k.1)
      | inr k ↦ inr (or_right (nullable x) (nullable y) k.0, k.1)
    ]
  ]
  spells-begun R b (many more x) p ts rest a e = chain-begun l (firsts l.heads x) (nullable x) (Spells l R x) more (spells-begun R b x p) a ts rest e
  spells-begun R b (named name x) p ts rest a e = spells-begun R b x p ts rest e.0 e.1
  spells-begun R b (prefer kinds x) p ts rest a e = elim e [
    | inl h ↦ elim (spells-begun R b x p ts rest a h) [ inl k ↦ inl k | inr k ↦ inr (refl, k.1) ]
    | inr h ↦ inr (refl, h.0)
  ]
  spells-begun R b (starting test x) p ts rest a e = elim (spells-begun R b x p ts rest a e.1) [
    | inl k ↦ inl (at-kept l test (firsts l.heads x) ts k.0 e.0, k.1)
    | inr k ↦ inr k
  ]
  spells-begun R b (on test x y z) p ts rest a e =
      let k = choice-begun l (firsts l.heads y) (firsts l.heads z) (nullable y) (nullable z) (test e.1) (Spells l R y) (Spells l R z) e.0 rest e.2 e.4
      (λ c. spells-begun R b y p.1 e.0 rest e.2 c) (λ c. spells-begun R b z p.2 e.0 rest e.2 c) in
      let s = begun-shorter l (firsts l.heads y ++ firsts l.heads z) true e.0 rest k in
      elim (spells-begun R b x p.0 ts e.0 e.1 e.3) [
        | inl h ↦ inl (at-left l (firsts l.heads x) _ ts h.0, omega (arith, h.1, s))
        | inr h ↦ elim k [
          | inl j ↦ inl (at-right l (firsts l.heads x) _ ts (rw (h.0) (rw (h.1) (j.0))), rw (h.1) (j.1))
          | inr j ↦ inr (h.0, h.1 ∙ j.1)
        ]
      ]

  -- no longer than what it begins with
  pub derived-shorter : (R : ℕ → Relation A) → ((n : ℕ) → Begins l (l.heads n) false (R n)) → (x : Grammar A) → InPlace l.rules x → (ts rest : List A) (a : Tree A)
      → Spells l R x ts rest a → length rest ≤ length ts
  derived-shorter R b x p ts rest a e = begun-shorter l (firsts l.heads x) (nullable x) ts rest (spells-begun R b x p ts rest a e)

  pub read_at-complete : (R : ℕ → Relation A) (limit : ℕ) (r : ℕ → List A → Answer A) → ((n : ℕ) → Begins l (l.heads n) false (R n))
      → ((n : ℕ) → Complete l (tails n) limit (R n) (r n)) → ((n : ℕ) → Apart l limit r (l.rules n))
      → (x : Grammar A) → InPlace l.rules x → decided l.heads tails x ≡ true → Apart l limit r x → Complete l (goes_on l.heads tails x) limit (Spells l R x) (read_at l limit r x)
  unfolding read_at Spells decided goes_on Apart InPlace
  read_at-complete R limit r b k q empty p d s ts rest a e off small = ap (λ l. Ok (tip, l)) (e.0) ∙ ap (λ a. Ok (a, rest)) (sym e.1)
  read_at-complete R limit r b k q (token kinds) p d s ts rest a e off small =
      ap (token_at l kinds) e.1 ∙ branch _ _ _ e.2 ∙ ap (λ a. Ok (a, rest)) (sym e.3)
  read_at-complete R limit r b k q (call name) p d s ts rest a e off small = k name ts rest a e off small
  read_at-complete R limit r b k q (line name x) p d s ts rest a e off small =
      let t = in-place name x p in
      read_at-complete R limit r b k q x t.4 t.3 (subst (Apart l limit r) (sym p) (q name)) ts rest a e (off-covered l (tails name) (goes_on l.heads tails x) rest t.2 off) small
  read_at-complete R limit r b k q (both x y) p d s ts rest a e off small =
      let d₁ = and_both (apart (goes_on l.heads tails x) (firsts l.heads y)) _ d in
      let d₂ = and_both (decided l.heads tails x) (decided l.heads tails y) d₁.1 in
      let begun = spells-begun R b y p.1 e.0 rest e.2 e.4 in
      let last : nullable y ≡ true → Off l (goes_on l.heads tails x) rest =
      λ n. last_off l (nullable y) (goes_on l.heads tails x) rest n (off-right l (goes_on l.heads tails y) _ rest off) in
      let off_x = begun-off l (goes_on l.heads tails x) (firsts l.heads y) (nullable y) e.0 rest d₁.0 begun last in
      let shorter = derived-shorter R b x p.0 ts e.0 e.1 e.3 in
      let one : read_at l limit r x ts ≡ Ok (e.1, e.0) = read_at-complete R limit r b k q x p.0 d₂.0 s.0 ts e.0 e.1 e.3 off_x small in
      let two : read_at l limit r y e.0 ≡ Ok (e.2, rest) =
      read_at-complete R limit r b k q y p.1 d₂.1 s.1 e.0 rest e.2 e.4 (off-left l (goes_on l.heads tails y) _ rest off) (omega (arith, shorter, small)) in
      ap (λ v. v >>= second l (λ _. read_at l limit r y)) one ∙ ap (λ v. v >>= λ q. Ok (pair e.1 q.0, q.1)) two ∙ ap (λ a. Ok (a, rest)) (sym e.5)
  read_at-complete R limit r b k q (either x y) p d s ts rest a e off small =
      let d₁ = and_both (not (nullable x)) _ d in
      let d₂ = and_both (apart (firsts l.heads x) (firsts l.heads y)) _ d₁.1 in
      let d₃ = and_both (decided l.heads tails x) (decided l.heads tails y) d₂.1 in
      let offs = off-left l (goes_on l.heads tails x ++ goes_on l.heads tails y) _ rest off in
      elim e [
        | inl h ↦
            let begun = begun-surely l (firsts l.heads x) (nullable x) ts rest (not_true (nullable x) d₁.0) (spells-begun R b x p.0 ts rest a h) in
            branch _ _ _ begun.0
            ∙ read_at-complete R limit r b k q x p.0 d₃.0 s.0 ts rest a h (off-left l (goes_on l.heads tails x) (goes_on l.heads tails y) rest offs) small
        | inr h ↦
            let begun = spells-begun R b y p.1 ts rest a h in
            let last : nullable y ≡ true → Off l (firsts l.heads x) rest =
            λ n. last_off l (nullable y) (firsts l.heads x) rest n (off-right l (goes_on l.heads tails x ++ goes_on l.heads tails y) _ rest off) in
            let off_x = begun-off l (firsts l.heads x) (firsts l.heads y) (nullable y) ts rest d₂.0 begun last in
            branch_not _ _ _ off_x
            ∙ read_at-complete R limit r b k q y p.1 d₃.1 s.1 ts rest a h (off-right l (goes_on l.heads tails x) (goes_on l.heads tails y) rest offs) small
      ]
  read_at-complete R limit r b k q (fork stop x y) p d s ts rest a e off small =
      let d₁ = and_both (decided l.heads tails x) (decided l.heads tails y) d in
      let offs = off-right l stop _ rest off in
      let off_stop : Off l stop rest = off-left l stop _ rest off in
      elim e [
        | inl h ↦
            let read : read_at l limit r x ts ≡ Ok (a, rest) =
            read_at-complete R limit r b k q x p.0 d₁.0 s.0 ts rest a h (off-left l (goes_on l.heads tails x) (goes_on l.heads tails y) rest offs) small in
            ap (λ v. furthest (refused l stop v) (read_at l limit r y ts)) read
            ∙ ap (λ v. furthest v (read_at l limit r y ts)) (branch_not (starts l (among stop) rest) (Err (false, rest)) (Ok (a, rest)) off_stop)
        | inr h ↦
            let read : read_at l limit r y ts ≡ Ok (a, rest) =
            read_at-complete R limit r b k q y p.1 d₁.1 s.1 ts rest a h (off-right l (goes_on l.heads tails x) (goes_on l.heads tails y) rest offs) small in
            furthest-second _ _ _ read (λ q f. s.2 ts q (a, rest) f read)
      ]
  read_at-complete R limit r b k q (many more x) p d s ts rest a e off small =
      let d₁ = and_both (not (nullable x)) _ d in
      let d₂ = and_both (apart (goes_on l.heads tails x) (firsts l.heads x)) (decided l.heads tails x) d₁.1 in
      let surely : Begins l (firsts l.heads x) false (Spells l R x) =
      λ ts rest a q. inl (begun-surely l (firsts l.heads x) (nullable x) ts rest (not_true (nullable x) d₁.0) (spells-begun R b x p ts rest a q)) in
      chain-complete l (firsts l.heads x) (goes_on l.heads tails x) limit (Spells l R x) more (read_at l limit r x) d₂.0 surely
      (read_at-complete R limit r b k q x p d₂.1 s) a limit ts rest e (off-left l (firsts l.heads x) _ rest off) (off-right l (firsts l.heads x) _ rest off) small small
  read_at-complete R limit r b k q (named name x) p d s ts rest a e off small =
      ap (λ v. v >>= λ p. Ok (node name p.0, p.1)) (read_at-complete R limit r b k q x p d s ts rest e.0 e.1 off small) ∙ ap (λ a. Ok (a, rest)) (sym e.2)
  read_at-complete R limit r b k q (prefer kinds x) p d s ts rest a e off small =
      let d₁ = and_both (not (nullable x)) _ d in
      let d₂ = and_both (covers kinds (firsts l.heads x)) (decided l.heads tails x) d₁.1 in
      elim e [
        | inl h ↦
            let begun = begun-surely l (firsts l.heads x) (nullable x) ts rest (not_true (nullable x) d₁.0) (spells-begun R b x p ts rest a h) in
            branch _ _ _ (at-covered l kinds (firsts l.heads x) ts d₂.0 begun.0) ∙ read_at-complete R limit r b k q x p d₂.1 s ts rest a h off small
        | inr h ↦
            let none : starts l (among kinds) ts ≡ false = ap (λ m. starts l (among kinds) m) h.0 ∙ h.2 in
            branch_not _ _ _ none ∙ ap (λ l. Ok (tip, l)) h.0 ∙ ap (λ a. Ok (a, rest)) (sym h.1)
      ]
  read_at-complete R limit r b k q (starting test x) p d s ts rest a e off small =
      let d₁ = and_both (not (nullable x)) _ d in
      branch _ _ _ e.0 ∙ read_at-complete R limit r b k q x p d₁.1 s ts rest a e.1 off small
  read_at-complete R limit r b k q (on test x y z) p d s ts rest a e off small =
      let d₁ = and_both (apart (goes_on l.heads tails x) (firsts l.heads y ++ firsts l.heads z)) _ d in
      let d₂ = and_both (decided l.heads tails x) _ d₁.1 in
      let d₃ = and_both (decided l.heads tails y) (decided l.heads tails z) d₂.1 in
      let offs = off-left l (goes_on l.heads tails y ++ goes_on l.heads tails z) _ rest off in
      let begun = choice-begun l (firsts l.heads y) (firsts l.heads z) (nullable y) (nullable z) (test e.1) (Spells l R y) (Spells l R z) e.0 rest e.2 e.4
      (λ c. spells-begun R b y p.1 e.0 rest e.2 c) (λ c. spells-begun R b z p.2 e.0 rest e.2 c) in
      let off_x = begun-off l (goes_on l.heads tails x) (firsts l.heads y ++ firsts l.heads z) true e.0 rest d₁.0 begun
      (λ _. off-right l (goes_on l.heads tails y ++ goes_on l.heads tails z) (goes_on l.heads tails x) rest off) in
      let shorter = derived-shorter R b x p.0 ts e.0 e.1 e.3 in
      let one : read_at l limit r x ts ≡ Ok (e.1, e.0) = read_at-complete R limit r b k q x p.0 d₂.0 s.0 ts e.0 e.1 e.3 off_x small in
      let two : choose (test e.1) (read_at l limit r y) (read_at l limit r z) e.0 ≡ Ok (e.2, rest) =
      choice-complete (test e.1) (Spells l R y) (Spells l R z) (read_at l limit r y) (read_at l limit r z) e.0 rest e.2 e.4
      (λ c. read_at-complete R limit r b k q y p.1 d₃.0 s.1 e.0 rest e.2 c (off-left l (goes_on l.heads tails y) (goes_on l.heads tails z) rest offs) (omega (arith, shorter, small)))
      (λ c. read_at-complete R limit r b k q z p.2 d₃.1 s.2 e.0 rest e.2 c (off-right l (goes_on l.heads tails y) (goes_on l.heads tails z) rest offs) (omega (arith, shorter, small))) in
      ap (λ v. v >>= second l (λ a. choose (test a) (read_at l limit r y) (read_at l limit r z))) one ∙ ap (λ v. v >>= λ q. Ok (pair e.1 q.0, q.1)) two
      ∙ ap (λ a. Ok (a, rest)) (sym e.5)

  pub derives-begun : (depth n : ℕ) → Begins l (l.heads n) false (Derives l depth n)
  unfolding Derives
  derives-begun zero n ts rest a e = absurd e
  derives-begun (suc depth) n ts rest a e =
      let t = in-place n (l.rules n) refl in
      let begun = begun-surely l (firsts l.heads (l.rules n)) (nullable (l.rules n)) ts rest t.0
      (spells-begun (Derives l depth) (derives-begun depth) (l.rules n) t.4 ts rest a e) in
      inl (at-covered l (l.heads n) (firsts l.heads (l.rules n)) ts t.1 begun.0, begun.1)

  pub read-complete : (limit : ℕ) → AllApart l limit → (depth n : ℕ) → Complete l (tails n) limit (Derives l depth n) (read l limit depth n)
  unfolding Derives read
  read-complete limit s zero n ts rest a e off small = absurd e
  read-complete limit s (suc depth) n ts rest a e off small =
      let t = in-place n (l.rules n) refl in
      read_at-complete (Derives l depth) limit (read l limit depth) (derives-begun depth)
      (read-complete limit s depth) (s depth) (l.rules n) t.4 t.3 (s depth n) ts rest a e (off-covered l (tails n) (goes_on l.heads tails (l.rules n)) rest t.2 off) small

  -- There is one tree.
  pub one_tree : (limit : ℕ) → AllApart l limit → (depth n : ℕ) (ts : List A) (a b : Tree A) → length ts < limit
      → Derives l depth n ts [] a → Derives l depth n ts [] b → a ≡ b
  one_tree limit s depth n ts a b small x y =
      let one = read-complete limit s depth n ts [] a x refl small in
      let two = read-complete limit s depth n ts [] b y refl small in
      ap (λ q. q.0) (same_ok (a, []) (b, []) (sym one ∙ two))

  -- A fault is at a token that no script of that depth has there.
  pub fault-is : (limit : ℕ) → AllApart l limit → (depth start : ℕ) (front : List A) (c : Fault A) → length front < limit
      → read l limit depth start (front ++ c.1) ≡ Err c → NoneWithin l limit depth start front c.1
  fault-is limit s depth start front c small e = by c.1 e
    where
      by : (left : List A) → read l limit depth start (front ++ left) ≡ Err (c.0, left) → NoneWithin l limit depth start front left
      by [] e = λ tree d.
          let found = read-complete limit s depth start front [] tree d refl small in
          let e' : read l limit depth start front ≡ Err (c.0, []) = ap (read l limit depth start) (sym (append-nil front)) ∙ e in
          cc (found, e')
      by (t ∷ u) e = λ more tree few d.
          let found = read-complete limit s depth start (front ++ t ∷ more) [] tree d refl few in
          let moved : read l limit depth start (front ++ t ∷ more) ≡ Err (c.0, t ∷ more) =
          (read-tame l t u more limit (λ n. (f n).1) s depth start).same_err front [] c.0 e in
          cc (found, moved)
