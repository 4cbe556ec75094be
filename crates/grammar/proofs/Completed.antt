-- What stands before a fault is completed, and so the place of a fault is exact.
use Rattle.std.proofs.Common.{Bool, inl, inr, true, false, ◌≡◌, ℕ, zero, suc, ◌≤◌, ◌<◌, List, [], ◌∷◌, ◌++◌, Ok, Err, refl, ap, sym, subst, ◌∙◌, arith}
use Rattle.std.proofs.lemmas.List.{append_assoc}
use Rattle.std.proofs.lemmas.Bool.{eq-eqb}
use Rattle.std.proofs.lemmas.Bool.Decides.{leb_tells}
use Rattle.std.specs.Prelude.{if◌then◌else◌, max, nat_le}
use Rattle.grammar.specs.Kinds.{among, apart, covers, alike, and, not}
use Rattle.grammar.specs.Grammar.{Tree, tip, leaf, pair, node, Grammar, empty, token, call, line, both, either, fork, many, named, prefer, starting, on, Language, Relation, Choice, Chain, starts, Spells, Derives, Viable}
use Rattle.grammar.specs.Reading.{Fault, Answer, nullable, firsts, choose, refused, read_at, read}
use Rattle.grammar.specs.Tests.{InPlace, Fits, Examples, bars, word, steep, first_of, first_passes, clear, open_ended, Opens}
use Rattle.grammar.proofs.Laws.{bind_err, same_err, chosen, token-err, fork_err, further-is, refused_err, perhaps_err, rows, plus, second, Sound, read_at-sound, derives-more}
use Rattle.grammar.proofs.Sets.{and_both, not_true, test_was, is_or_not, Off, off-left, off-right, off-covered, begun-surely, begun-off, last_off}
use Rattle.grammar.proofs.Complete.{Begins, choice-begun, in-place, spells-begun, derives-begun}
use Rattle.grammar.proofs.Bars.{or_left, Moved, alike-same, at_most, at_start, choice-some, follows-left, follows-right, follows-covered, Moves, choice-moved, follows-mid, chain-moved, start-moved, kinds_of, kinds_of-append, kinds_of-nil, first-starts, Example, off-mid, Completed, completed-as, behind-completed, Completes, many-completed, word-empty}

pub is_less : (a b : ℕ) → a < b → nat_le (suc a) b ≡ true
is_less a b h = elim (leb_tells (suc a) b) [ inl k ↦ k.0 | inr k ↦ absurd (omega (arith, h, k.1)) ]

pub steep-empty : {A : Type 0} (e : Examples) (x : Grammar A) → nullable x ≡ true → steep e x ≡ 0
unfolding nullable steep
steep-empty e empty n = refl
steep-empty e (token kinds) n = absurd (cc (n))
steep-empty e (call name) n = absurd (cc (n))
steep-empty e (line name x) n = absurd (cc (n))
steep-empty e (both x y) n = elim (test_was (nullable x) (nullable y) false true n) [
  | inl h ↦ ap (λ m. max m (steep e y)) (steep-empty e x h.0) ∙ ap (λ m. max 0 m) (steep-empty e y h.1)
  | inr h ↦ absurd (cc (h.1))
]
steep-empty e (either x y) n = elim (is_or_not (nullable x)) [
  | inl h ↦ rw h (steep-empty e x h)
  | inr h ↦ let n' : nullable y ≡ true = rw h at n in rw h (steep-empty e y n')
]
steep-empty e (fork stop x y) n = elim (is_or_not (nullable y)) [
  | inl h ↦ rw h (steep-empty e y h)
  | inr h ↦ rw h (steep-empty e x (or_left (nullable x) (nullable y) n h))
]
steep-empty e (many more x) n = refl
steep-empty e (named name x) n = steep-empty e x n
steep-empty e (prefer kinds x) n = refl
steep-empty e (starting test x) n = steep-empty e x n
steep-empty e (on test x y z) n = steep-empty e x n

module _ {A : Type 0} (l : Language A) (tails : ℕ → List ℕ) (f : Fits l tails) (e : Examples) (o : Opens l e) where
  -- what the tests say of a right side in its place
  pub in-open : (name : ℕ) (x : Grammar A) → x ≡ l.rules name → nat_le (suc name) e.size ≡ true
      → (covers (e.shuts name) (bars e x) ≡ true) × (e.words name ≡ word e x) × (steep e x ≤ e.ranks name) × (e.ranks name < e.deepest) × (clear l.heads e x ≡ true)
  in-open name x p small =
      let t : open_ended l.heads e name x ≡ true = subst (λ y. open_ended l.heads e name y ≡ true) (sym p) (o.0 name (at_most (suc name) e.size small)) in
      let t₁ = and_both (covers (e.shuts name) (bars e x)) _ t in
      let t₂ = and_both (alike (e.words name) (word e x)) _ t₁.1 in
      let t₃ = and_both (nat_le (steep e x) (e.ranks name)) _ t₂.1 in
      let t₄ = and_both (nat_le (suc (e.ranks name)) e.deepest) _ t₃.1 in
      (t₁.0, alike-same (e.words name) (word e x) t₂.0, at_most (steep e x) (e.ranks name) t₃.0, at_most (suc (e.ranks name)) e.deepest t₄.0, t₄.1)

  pub spells-moved : (R : ℕ → Relation A) → ((n : ℕ) → Begins l (l.heads n) false (R n)) → ((n : ℕ) → n < e.size → Moves l (e.shuts n) (R n))
      → (x : Grammar A) → InPlace l.rules x → clear l.heads e x ≡ true → Moves l (bars e x) (Spells l R x)
  unfolding Spells bars clear InPlace
  spells-moved R b m empty p v ts rest a d = ([], d.0, λ next w. (refl, d.1))
  spells-moved R b m (token kinds) p v ts rest a d = (d.0 ∷ [], d.1, λ next w. (d.0, refl, d.2, d.3))
  spells-moved R b m (call name) p v ts rest a d = m name (at_most (suc name) e.size v) ts rest a d
  spells-moved R b m (line name x) p v ts rest a d =
      let k = in-open name x p v in
      let g = spells-moved R b m x (in-place l tails f name x p).4 k.4 ts rest a d in
      (g.0, g.1, λ next w. g.2 next (follows-covered l (e.shuts name) (bars e x) rest next k.0 w))
  spells-moved R b m (both x y) p v ts rest a d =
      let v₁ = and_both (if nullable y then true else apart (bars e x) (firsts l.heads y)) _ v in
      let v₂ = and_both (clear l.heads e x) (clear l.heads e y) v₁.1 in
      let g = spells-moved R b m x p.0 v₂.0 ts d.0 d.1 d.3 in
      let k = spells-moved R b m y p.1 v₂.1 d.0 rest d.2 d.4 in
      let begun = spells-begun l tails f R b y p.1 d.0 rest d.2 d.4 in (
        g.0 ++ k.0,
        rows g.0 k.0 ts d.0 rest g.1 k.1,
        λ next w. (
          k.0 ++ next,
          d.1,
          d.2,
          rw (append_assoc g.0 k.0 next) (g.2 (k.0 ++ next) (follows-mid l (bars e x) (bars e y) (firsts l.heads y) (nullable y) k.0 d.0 rest next k.1 begun w)),
          k.2 next (follows-left l (bars e y) _ rest next w),
          d.5,
        ),
      )
  spells-moved R b m (either x y) p v ts rest a d =
      let v₂ = and_both (clear l.heads e x) (clear l.heads e y) v in
      elim d [
        | inl h ↦ let g = spells-moved R b m x p.0 v₂.0 ts rest a h in (g.0, g.1, λ next w. inl (g.2 next (follows-left l (bars e x) (bars e y) rest next w)))
        | inr h ↦ let g = spells-moved R b m y p.1 v₂.1 ts rest a h in (g.0, g.1, λ next w. inr (g.2 next (follows-right l (bars e x) (bars e y) rest next w)))
      ]
  spells-moved R b m (fork stop x y) p v ts rest a d =
      let v₂ = and_both (clear l.heads e x) (clear l.heads e y) v in
      elim d [
        | inl h ↦ let g = spells-moved R b m x p.0 v₂.0 ts rest a h in (g.0, g.1, λ next w. inl (g.2 next (follows-left l (bars e x) (bars e y) rest next w)))
        | inr h ↦ let g = spells-moved R b m y p.1 v₂.1 ts rest a h in (g.0, g.1, λ next w. inr (g.2 next (follows-right l (bars e x) (bars e y) rest next w)))
      ]
  spells-moved R b m (many more x) p v ts rest a d =
      let v₁ = and_both (apart (bars e x) (firsts l.heads x)) _ v in
      chain-moved l (bars e x) (firsts l.heads x) (nullable x) (Spells l R x) more (spells-begun l tails f R b x p) (spells-moved R b m x p v₁.1) a ts rest d
  spells-moved R b m (named name x) p v ts rest a d =
      let g = spells-moved R b m x p v ts rest d.0 d.1 in (g.0, g.1, λ next w. (d.0, g.2 next w, d.2))
  spells-moved R b m (prefer kinds x) p v ts rest a d = elim d [
    | inl h ↦ let g = spells-moved R b m x p v ts rest a h in (g.0, g.1, λ next w. inl (g.2 next (follows-right l kinds (bars e x) rest next w)))
    | inr h ↦ ([], h.0, λ next w. inr (refl, h.1, elim (follows-left l kinds (bars e x) rest next w) [ inl k ↦ sym (k (among kinds)) ∙ h.2 | inr k ↦ k ]))
  ]
  spells-moved R b m (starting test x) p v ts rest a d =
      let v₁ = and_both (not (nullable x)) _ v in
      let v₂ = and_both (first_passes test (word e x)) _ v₁.1 in
      let g = spells-moved R b m x p v₂.1 ts rest a d.1 in
      let begun = begun-surely l (firsts l.heads x) (nullable x) ts rest (not_true (nullable x) v₁.0) (spells-begun l tails f R b x p ts rest a d.1) in
      (g.0, g.1, λ next w. (start-moved l test g.0 ts rest next g.1 begun.1 d.0, g.2 next w))
  spells-moved R b m (on test x y z) p v ts rest a d =
      let v₁ = and_both (and (nullable y) (nullable z)) _ v in
      let v₂ = and_both (clear l.heads e x) _ v₁.1 in
      let v₃ = and_both (clear l.heads e y) (clear l.heads e z) v₂.1 in
      let g = spells-moved R b m x p.0 v₂.0 ts d.0 d.1 d.3 in
      let k = choice-moved l (bars e y) (bars e z) (test d.1) (Spells l R y) (Spells l R z) d.0 rest d.2 d.4 (λ c. spells-moved R b m y p.1 v₃.0 d.0 rest d.2 c)
      (λ c. spells-moved R b m z p.2 v₃.1 d.0 rest d.2 c) in
      let begun = choice-begun l (firsts l.heads y) (firsts l.heads z) (nullable y) (nullable z) (test d.1) (Spells l R y) (Spells l R z) d.0 rest d.2 d.4
      (λ c. spells-begun l tails f R b y p.1 d.0 rest d.2 c) (λ c. spells-begun l tails f R b z p.2 d.0 rest d.2 c) in (
        g.0 ++ k.0,
        rows g.0 k.0 ts d.0 rest g.1 k.1,
        λ next w. (
          k.0 ++ next,
          d.1,
          d.2,
          rw (append_assoc g.0 k.0 next)
              (g.2 (k.0 ++ next) (follows-mid l (bars e x) (bars e y ++ bars e z) (firsts l.heads y ++ firsts l.heads z) true k.0 d.0 rest next k.1 begun w)),
          k.2 next (follows-left l (bars e y ++ bars e z) (bars e x) rest next w),
          d.5,
        ),
      )

  pub token-example : (kinds : List ℕ) → first_passes e.usable kinds ≡ true → (t : A) × (l.kind t ∷ [] ≡ first_of kinds) × (among kinds (l.kind t) ≡ true)
  unfolding among
  token-example [] v = absurd (cc (v))
  token-example (k ∷ ks) v = let t = o.1 k v in (t.0, ap (λ n. n ∷ []) t.1, rw (t.1) (rw (eq-eqb k k refl) refl))

  pub spells-example : (R : ℕ → Relation A) (bound : ℕ) → ((n : ℕ) → Begins l (l.heads n) false (R n))
      → ((n : ℕ) → n < e.size → e.ranks n < bound → Example l (e.shuts n) (e.words n) (R n))
      → (x : Grammar A) → InPlace l.rules x → clear l.heads e x ≡ true → steep e x ≤ bound → Example l (bars e x) (word e x) (Spells l R x)
  unfolding Spells Chain bars clear word steep InPlace kinds_of
  spells-example R bound b m empty p v s = ([], refl, λ next q. (tip, (refl, refl)))
  spells-example R bound b m (token kinds) p v s =
      let t = token-example kinds v in (t.0 ∷ [], t.1, λ next q. (leaf t.0, (t.0, refl, t.2, refl)))
  spells-example R bound b m (call name) p v s = m name (at_most (suc name) e.size v) (omega (arith, s))
  spells-example R bound b m (line name x) p v s =
      let k = in-open name x p v in
      let less = k.2 in
      let g = spells-example R bound b m x (in-place l tails f name x p).4 k.4 (omega (arith, s, less)) in
      (g.0, g.1 ∙ sym k.1, λ next q. g.2 next (off-covered l (e.shuts name) (bars e x) next k.0 q))
  spells-example R bound b m (both x y) p v s =
      let v₁ = and_both (if nullable y then true else apart (bars e x) (firsts l.heads y)) _ v in
      let v₂ = and_both (clear l.heads e x) (clear l.heads e y) v₁.1 in
      let g = spells-example R bound b m x p.0 v₂.0 (omega (arith, s)) in
      let k = spells-example R bound b m y p.1 v₂.1 (omega (arith, s)) in
      let none : nullable y ≡ true → k.0 ≡ [] = λ h. kinds_of-nil l k.0 (k.1 ∙ word-empty e y h) in (
        g.0 ++ k.0,
        kinds_of-append l g.0 k.0 ∙ ap (λ n. n ++ kinds_of l k.0) g.1 ∙ ap (λ n. word e x ++ n) k.1,
        λ next q.
            let c = k.2 next (off-left l (bars e y) _ next q) in
            let begun = spells-begun l tails f R b y p.1 (k.0 ++ next) next c.0 c.1 in
            let d = g.2 (k.0 ++ next) (off-mid l (bars e x) (bars e y) (firsts l.heads y) (nullable y) (k.0 ++ next) next v₁.0 (λ h. ap (λ n. n ++ next) (none h)) begun q) in
            (pair d.0 c.0, (k.0 ++ next, d.0, c.0, rw (append_assoc g.0 k.0 next) d.1, c.1, refl)),
      )
  spells-example R bound b m (either x y) p v s =
      let v₂ = and_both (clear l.heads e x) (clear l.heads e y) v in
      elim (is_or_not (nullable x)) [
        | inl h ↦
            let s' : steep e x ≤ bound = rw h at s in
            let g = spells-example R bound b m x p.0 v₂.0 s' in
            (g.0, rw h (g.1), λ next q. ((g.2 next (off-left l (bars e x) (bars e y) next q)).0, inl (g.2 next (off-left l (bars e x) (bars e y) next q)).1))
        | inr h ↦
            let s' : steep e y ≤ bound = rw h at s in
            let g = spells-example R bound b m y p.1 v₂.1 s' in
            (g.0, rw h (g.1), λ next q. ((g.2 next (off-right l (bars e x) (bars e y) next q)).0, inr (g.2 next (off-right l (bars e x) (bars e y) next q)).1))
      ]
  spells-example R bound b m (fork stop x y) p v s =
      let v₂ = and_both (clear l.heads e x) (clear l.heads e y) v in
      elim (is_or_not (nullable y)) [
        | inr h ↦
            let s' : steep e x ≤ bound = rw h at s in
            let g = spells-example R bound b m x p.0 v₂.0 s' in
            (g.0, rw h (g.1), λ next q. ((g.2 next (off-left l (bars e x) (bars e y) next q)).0, inl (g.2 next (off-left l (bars e x) (bars e y) next q)).1))
        | inl h ↦
            let s' : steep e y ≤ bound = rw h at s in
            let g = spells-example R bound b m y p.1 v₂.1 s' in
            (g.0, rw h (g.1), λ next q. ((g.2 next (off-right l (bars e x) (bars e y) next q)).0, inr (g.2 next (off-right l (bars e x) (bars e y) next q)).1))
      ]
  spells-example R bound b m (many more x) p v s = ([], refl, λ next q. (tip, refl))
  spells-example R bound b m (named name x) p v s =
      let g = spells-example R bound b m x p v s in (g.0, g.1, λ next q. (node name (g.2 next q).0, ((g.2 next q).0, (g.2 next q).1, refl)))
  spells-example R bound b m (prefer kinds x) p v s = ([], refl, λ next q. (tip, inr (refl, refl, off-left l kinds (bars e x) next q)))
  spells-example R bound b m (starting test x) p v s =
      let v₁ = and_both (not (nullable x)) _ v in
      let v₂ = and_both (first_passes test (word e x)) _ v₁.1 in
      let g = spells-example R bound b m x p v₂.1 s in
      (g.0, g.1, λ next q. ((g.2 next q).0, (first-starts l test g.0 next (word e x) g.1 v₂.0, (g.2 next q).1)))
  spells-example R bound b m (on test x y z) p v s =
      let v₁ = and_both (and (nullable y) (nullable z)) _ v in
      let n = and_both (nullable y) (nullable z) v₁.0 in
      let v₂ = and_both (clear l.heads e x) _ v₁.1 in
      let v₃ = and_both (clear l.heads e y) (clear l.heads e z) v₂.1 in
      let flat = steep-empty e y n.0 in
      let low = steep-empty e z n.1 in
      let g = spells-example R bound b m x p.0 v₂.0 s in
      let k = spells-example R bound b m y p.1 v₃.0 (omega (arith, flat)) in
      let i = spells-example R bound b m z p.2 v₃.1 (omega (arith, low)) in
      let none : k.0 ≡ [] = kinds_of-nil l k.0 (k.1 ∙ word-empty e y n.0) in
      let neither : i.0 ≡ [] = kinds_of-nil l i.0 (i.1 ∙ word-empty e z n.1) in (
        g.0,
        g.1,
        λ next q.
            let qs = off-left l (bars e y ++ bars e z) (bars e x) next q in
            let c = k.2 next (off-left l (bars e y) (bars e z) next qs) in
            let h = i.2 next (off-right l (bars e y) (bars e z) next qs) in
            let d = g.2 next (off-right l (bars e y ++ bars e z) (bars e x) next q) in
            let w = choice-some (test d.0) (Spells l R y) (Spells l R z) next c.0 h.0 (subst (λ n. Spells l R y (n ++ next) next c.0) none c.1)
            (subst (λ n. Spells l R z (n ++ next) next h.0) neither h.1) in
            (pair d.0 w.0, (next, d.0, w.0, d.1, w.1, refl)),
      )

  -- what a part that may be empty gives where nothing of it stands
  pub spells-nothing : (R : ℕ → Relation A) → ((n : ℕ) → Begins l (l.heads n) false (R n)) → (y : Grammar A) → InPlace l.rules y → clear l.heads e y ≡ true → nullable y ≡ true
      → ((n : ℕ) → n < e.size → Example l (e.shuts n) (e.words n) (R n)) → (next : List A) → Off l (bars e y) next → (c : Tree A) × Spells l R y next next c
  spells-nothing R b y p v n w next q =
      let flat = steep-empty e y n in
      let k = spells-example R 0 b (λ i small _. w i small) y p v (omega (arith, flat)) in
      let none : k.0 ≡ [] = kinds_of-nil l k.0 (k.1 ∙ word-empty e y n) in
      let c = k.2 next q in
      (c.0, subst (λ m. Spells l R y (m ++ next) next c.0) none c.1)

  -- behind the first part of `on`
  pub side-completed : (R : ℕ → Relation A) → ((n : ℕ) → Begins l (l.heads n) false (R n)) → (test : Tree A → Bool) (x y z : Grammar A) (a : Tree A) (mid ts c : List A)
      → Moved l (bars e x) (Spells l R x) ts mid a → (v : Grammar A) → ((now next : List A) (u : Tree A) → Spells l R v now next u → Choice (test a) (Spells l R y) (Spells l R z) now next u)
      → ((next : List A) → Off l ((bars e y ++ bars e z) ++ bars e x) next → Off l (bars e v) next)
      → ((next : List A) → Off l (bars e v) next → (u : Tree A) × Spells l R v next next u) → Completed l (bars e v) (Spells l R v) mid c
      → Completed l ((bars e y ++ bars e z) ++ bars e x) (Spells l R (on test x y z)) ts c
  unfolding Spells
  side-completed R b test x y z a mid ts c moved v lift offs nothing k = elim (at_start k.0) [
    | inl i ↦
        let here : mid ≡ c = k.1 ∙ ap (λ n. n ++ c) i in (
          moved.0,
          moved.1 ∙ ap (λ n. moved.0 ++ n) here,
          [],
          λ next o.
              let q = nothing next (offs next o) in
              (pair a q.0, (next, a, q.0, moved.2 next (inr (off-right l (bars e y ++ bars e z) (bars e x) next o)), lift next next q.0 q.1, refl)),
        )
    | inr i ↦ behind-completed l (bars e x) (bars e v) (Spells l R x) (Spells l R v) (Spells l R (on test x y z)) a mid ts c moved
        (λ now middle next u p q. (pair a u, (middle, a, u, p, lift middle next u q, refl))) k ((bars e y ++ bars e z) ++ bars e x) offs (λ j next q. absurd (i j))
  ]

  pub read_at-completed : (R : ℕ → Relation A) (limit : ℕ) (r : ℕ → List A → Answer A) → ((n : ℕ) → Begins l (l.heads n) false (R n))
      → ((n : ℕ) → Sound (R n) (r n)) → ((n : ℕ) → n < e.size → Moves l (e.shuts n) (R n)) → ((n : ℕ) → n < e.size → Example l (e.shuts n) (e.words n) (R n))
      → ((n : ℕ) → n < e.size → Completes l (e.shuts n) (R n) (r n))
      → (x : Grammar A) → InPlace l.rules x → clear l.heads e x ≡ true → Completes l (bars e x) (Spells l R x) (read_at l limit r x)
  unfolding read_at Spells bars clear InPlace
  read_at-completed R limit r b s m w k empty p v ts c d = absurd (cc (d))
  read_at-completed R limit r b s m w k (token kinds) p v ts c d =
      let t = token-example kinds v in
      ([], ap (λ q. q.1) (token-err l kinds ts c d), t.0 ∷ [], λ next q. (leaf t.0, (t.0, refl, t.2, refl)))
  read_at-completed R limit r b s m w k (call name) p v ts c d = k name (at_most (suc name) e.size v) ts c d
  read_at-completed R limit r b s m w k (line name x) p v ts c d =
      let t = in-open name x p v in
      completed-as l (bars e x) (e.shuts name) (Spells l R x) (Spells l R x) ts c.1 (λ next q. off-covered l (e.shuts name) (bars e x) next t.0 q) (λ now next a q. (a, q))
      (read_at-completed R limit r b s m w k x (in-place l tails f name x p).4 t.4 ts c d)
  read_at-completed R limit r b s m w k (both x y) p v ts c d =
      let v₁ = and_both (if nullable y then true else apart (bars e x) (firsts l.heads y)) _ v in
      let v₂ = and_both (clear l.heads e x) (clear l.heads e y) v₁.1 in
      elim (bind_err (read_at l limit r x ts) (second l (λ _. read_at l limit r y)) c d) [
        | inl g ↦
            let k₁ = read_at-completed R limit r b s m w k x p.0 v₂.0 ts c g in
            let ex = spells-example R (steep e y) b (λ i small _. w i small) y p.1 v₂.1 (omega arith) in
            let none : nullable y ≡ true → ex.0 ≡ [] = λ h. kinds_of-nil l ex.0 (ex.1 ∙ word-empty e y h) in (
              k₁.0,
              k₁.1,
              k₁.2 ++ ex.0,
              λ next z.
                  let q = ex.2 next (off-left l (bars e y) _ next z) in
                  let begun = spells-begun l tails f R b y p.1 (ex.0 ++ next) next q.0 q.1 in
                  let u = k₁.3 (ex.0 ++ next) (off-mid l (bars e x) (bars e y) (firsts l.heads y) (nullable y) (ex.0 ++ next) next v₁.0 (λ h. ap (λ n. n ++ next) (none h)) begun z) in
                  (pair u.0 q.0, rw (append_assoc k₁.2 ex.0 next) (ex.0 ++ next, u.0, q.0, u.1, q.1, refl)),
            )
        | inr g ↦ elim (bind_err (read_at l limit r y (g.0).1) (λ q. Ok (pair (g.0).0 q.0, q.1)) c g.2) [
          | inl h ↦
              let moved = spells-moved R b m x p.0 v₂.0 ts (g.0).1 (g.0).0 (read_at-sound l R limit r s x ts g.0 g.1) in
              let k₂ = read_at-completed R limit r b s m w k y p.1 v₂.1 (g.0).1 c h in
              let behind : (k₂.0 ≡ [] → (next : List A) → Off l (bars e (both x y)) next → Off l (bars e x) (k₂.2 ++ next))
              → Completed l (bars e (both x y)) (Spells l R (both x y)) ts c.1 =
              λ t. behind-completed l (bars e x) (bars e y) (Spells l R x) (Spells l R y) (Spells l R (both x y)) (g.0).0 (g.0).1 ts c.1 moved
              (λ now middle next a u q. (pair (g.0).0 a, (middle, (g.0).0, a, u, q, refl))) k₂ (bars e (both x y)) (λ next z. off-left l (bars e y) _ next z) t in
              elim (is_or_not (nullable y)) [
                | inl n ↦ elim (at_start k₂.0) [
                  | inl z ↦
                      let here : (g.0).1 ≡ c.1 = k₂.1 ∙ ap (λ n. n ++ c.1) z in (
                        moved.0,
                        moved.1 ∙ ap (λ n. moved.0 ++ n) here,
                        [],
                        λ next z.
                            let q = spells-nothing R b y p.1 v₂.1 n w next (off-left l (bars e y) _ next z) in
                            let last : Off l (bars e x) next = last_off l (nullable y) (bars e x) next n (off-right l (bars e y) _ next z) in
                            (pair (g.0).0 q.0, (next, (g.0).0, q.0, moved.2 next (inr last), q.1, refl)),
                      )
                  | inr z ↦ behind (λ i next q. absurd (z i))
                ]
                | inr n ↦
                    let far : apart (bars e x) (firsts l.heads y) ≡ true =
                    elim (test_was (nullable y) true (apart (bars e x) (firsts l.heads y)) true v₁.0) [ inl h ↦ absurd (cc (n, h.0)) | inr h ↦ h.1 ] in
                    behind (λ z next i.
                    let q = k₂.3 next (off-left l (bars e y) _ next i) in
                    begun-off l (bars e x) (firsts l.heads y) (nullable y) (k₂.2 ++ next) next far
                    (spells-begun l tails f R b y p.1 (k₂.2 ++ next) next q.0 (subst (λ n. Spells l R y (n ++ (k₂.2 ++ next)) next q.0) z q.1)) (λ h. absurd (cc (n, h))))
              ]
          | inr h ↦ absurd (cc (h.2))
        ]
      ]
  read_at-completed R limit r b s m w k (either x y) p v ts c d =
      let v₂ = and_both (clear l.heads e x) (clear l.heads e y) v in
      elim (chosen (starts l (among (firsts l.heads x)) ts) (read_at l limit r x ts) (read_at l limit r y ts) (Err c) d) [
        | inl h ↦ completed-as l (bars e x) (bars e x ++ bars e y) (Spells l R x) (Spells l R (either x y)) ts c.1 (λ next q. off-left l (bars e x) (bars e y) next q) (λ now next a q. (a, inl q))
            (read_at-completed R limit r b s m w k x p.0 v₂.0 ts c h.1)
        | inr h ↦ completed-as l (bars e y) (bars e x ++ bars e y) (Spells l R y) (Spells l R (either x y)) ts c.1 (λ next q. off-right l (bars e x) (bars e y) next q) (λ now next a q. (a, inr q))
            (read_at-completed R limit r b s m w k y p.1 v₂.1 ts c h.1)
      ]
  read_at-completed R limit r b s m w k (fork stop x y) p v ts c d =
      let v₂ = and_both (clear l.heads e x) (clear l.heads e y) v in
      let g = fork_err (refused l stop (read_at l limit r x ts)) (read_at l limit r y ts) c d in
      elim (further-is (g.0).1 (g.1).1) [
        | inl h ↦
            let here : (g.0).1 ≡ c.1 = sym h ∙ ap (λ q. q.1) g.4 in
            elim (refused_err l stop (read_at l limit r x ts) g.0 g.2) [
              | inl j ↦ completed-as l (bars e x) (bars e x ++ bars e y) (Spells l R x) (Spells l R (fork stop x y)) ts c.1 (λ next q. off-left l (bars e x) (bars e y) next q) (λ now next a q. (a, inl q))
                  (subst (λ n. Completed l (bars e x) (Spells l R x) ts n) here (read_at-completed R limit r b s m w k x p.0 v₂.0 ts g.0 j))
              | inr j ↦ let moved = spells-moved R b m x p.0 v₂.0 ts (j.0).1 (j.0).0 (read_at-sound l R limit r s x ts j.0 j.1) in
                  (moved.0, moved.1 ∙ ap (λ n. moved.0 ++ n) (ap (λ q. q.1) j.2 ∙ here), [], λ next q. ((j.0).0, inl (moved.2 next (inr (off-left l (bars e x) (bars e y) next q)))))
            ]
        | inr h ↦
            let here : (g.1).1 ≡ c.1 = sym h ∙ ap (λ q. q.1) g.4 in
            completed-as l (bars e y) (bars e x ++ bars e y) (Spells l R y) (Spells l R (fork stop x y)) ts c.1 (λ next q. off-right l (bars e x) (bars e y) next q) (λ now next a q. (a, inr q))
            (subst (λ n. Completed l (bars e y) (Spells l R y) ts n) here (read_at-completed R limit r b s m w k y p.1 v₂.1 ts g.1 g.3))
      ]
  read_at-completed R limit r b s m w k (many more x) p v ts c d =
      let v₁ = and_both (apart (bars e x) (firsts l.heads x)) _ v in
      many-completed l (bars e x) (firsts l.heads x) (nullable x) (Spells l R x) more (read_at l limit r x) v₁.0 (spells-begun l tails f R b x p) (read_at-sound l R limit r s x)
      (spells-moved R b m x p v₁.1) (read_at-completed R limit r b s m w k x p v₁.1) limit ts c d
  read_at-completed R limit r b s m w k (named name x) p v ts c d =
      elim (bind_err (read_at l limit r x ts) (λ p. Ok (node name p.0, p.1)) c d) [
        | inl g ↦ completed-as l (bars e x) (bars e x) (Spells l R x) (Spells l R (named name x)) ts c.1 (λ next q. q) (λ now next a q. (node name a, (a, q, refl)))
            (read_at-completed R limit r b s m w k x p v ts c g)
        | inr g ↦ absurd (cc (g.2))
      ]
  read_at-completed R limit r b s m w k (prefer kinds x) p v ts c d =
      let g = perhaps_err (starts l (among kinds) ts) (read_at l limit r x) ts c d in
      completed-as l (bars e x) (kinds ++ bars e x) (Spells l R x) (Spells l R (prefer kinds x)) ts c.1 (λ next q. off-right l kinds (bars e x) next q) (λ now next a q. (a, inl q))
      (read_at-completed R limit r b s m w k x p v ts c g.1)
  read_at-completed R limit r b s m w k (starting test x) p v ts c d =
      let v₁ = and_both (not (nullable x)) _ v in
      let v₂ = and_both (first_passes test (word e x)) _ v₁.1 in
      let ex = spells-example R (steep e x) b (λ i small _. w i small) x p v₂.1 (omega arith) in
      let here : ts ≡ c.1 → Completed l (bars e x) (Spells l R (starting test x)) ts c.1 =
      λ i. ([], i, ex.0, λ next q. ((ex.2 next q).0, (first-starts l test ex.0 next (word e x) ex.1 v₂.0, (ex.2 next q).1))) in
      elim (chosen (starts l test ts) (read_at l limit r x ts) (Err (false, ts)) (Err c) d) [
        | inl h ↦
            let g = read_at-completed R limit r b s m w k x p v₂.1 ts c h.1 in
            by g.0 g.1 g.2 g.3 h.0 here
        | inr h ↦ here (ap (λ q. q.1) (same_err (false, ts) c h.1))
      ]
    where
      by : (front : List A) → ts ≡ front ++ c.1 → (more : List A) → ((next : List A) → Off l (bars e x) next → (a : Tree A) × Spells l R x (front ++ (more ++ next)) next a)
          → starts l test ts ≡ true → (ts ≡ c.1 → Completed l (bars e x) (Spells l R (starting test x)) ts c.1) → Completed l (bars e x) (Spells l R (starting test x)) ts c.1
      by [] i more g h here = here i
      by (t ∷ front) i more g h here =
          (t ∷ front, i, more, λ next q. ((g next q).0, (sym (ap (λ n. starts l test n) i) ∙ h, (g next q).1)))
  read_at-completed R limit r b s m w k (on test x y z) p v ts c d =
      let v₁ = and_both (and (nullable y) (nullable z)) _ v in
      let n = and_both (nullable y) (nullable z) v₁.0 in
      let v₂ = and_both (clear l.heads e x) _ v₁.1 in
      let v₃ = and_both (clear l.heads e y) (clear l.heads e z) v₂.1 in
      elim (bind_err (read_at l limit r x ts) (second l (λ a. choose (test a) (read_at l limit r y) (read_at l limit r z))) c d) [
        | inl g ↦
            let k₁ = read_at-completed R limit r b s m w k x p.0 v₂.0 ts c g in (
              k₁.0,
              k₁.1,
              k₁.2,
              λ next o.
                  let os = off-left l (bars e y ++ bars e z) (bars e x) next o in
                  let q = spells-nothing R b y p.1 v₃.0 n.0 w next (off-left l (bars e y) (bars e z) next os) in
                  let h = spells-nothing R b z p.2 v₃.1 n.1 w next (off-right l (bars e y) (bars e z) next os) in
                  let u = k₁.3 next (off-right l (bars e y ++ bars e z) (bars e x) next o) in
                  let i = choice-some (test u.0) (Spells l R y) (Spells l R z) next q.0 h.0 q.1 h.1 in
                  (pair u.0 i.0, (next, u.0, i.0, u.1, i.1, refl)),
            )
        | inr g ↦ elim (bind_err (choose (test (g.0).0) (read_at l limit r y) (read_at l limit r z) (g.0).1) (λ q. Ok (pair (g.0).0 q.0, q.1)) c g.2) [
          | inl j ↦
              let moved = spells-moved R b m x p.0 v₂.0 ts (g.0).1 (g.0).0 (read_at-sound l R limit r s x ts g.0 g.1) in
              elim (chosen (test (g.0).0) (read_at l limit r y (g.0).1) (read_at l limit r z (g.0).1) (Err c) j) [
                | inl h ↦ side-completed R b test x y z (g.0).0 (g.0).1 ts c.1 moved y (λ now next u q. inl (h.0, q))
                    (λ next o. off-left l (bars e y) (bars e z) next (off-left l (bars e y ++ bars e z) (bars e x) next o))
                    (spells-nothing R b y p.1 v₃.0 n.0 w) (read_at-completed R limit r b s m w k y p.1 v₃.0 (g.0).1 c h.1)
                | inr h ↦ side-completed R b test x y z (g.0).0 (g.0).1 ts c.1 moved z (λ now next u q. inr (h.0, q))
                    (λ next o. off-right l (bars e y) (bars e z) next (off-left l (bars e y ++ bars e z) (bars e x) next o))
                    (spells-nothing R b z p.2 v₃.1 n.1 w) (read_at-completed R limit r b s m w k z p.2 v₃.1 (g.0).1 c h.1)
              ]
          | inr h ↦ absurd (cc (h.2))
        ]
      ]

  pub derives-moved : (depth n : ℕ) → n < e.size → Moves l (e.shuts n) (Derives l depth n)
  unfolding Derives
  derives-moved zero n small ts rest a d = absurd d
  derives-moved (suc depth) n small ts rest a d =
      let t = in-open n (l.rules n) refl (is_less n e.size small) in
      let k = spells-moved (Derives l depth) (derives-begun l tails f depth) (derives-moved depth) (l.rules n) (f n).1 t.4 ts rest a d in
      (k.0, k.1, λ next w. k.2 next (follows-covered l (e.shuts n) (bars e (l.rules n)) rest next t.0 w))

  -- the example of each rule, whose calls nest less deep than `deepest`
  pub example-at : (r n : ℕ) → n < e.size → e.ranks n < r → Example l (e.shuts n) (e.words n) (Derives l r n)
  unfolding Derives
  example-at zero n small less = absurd (omega (arith, less))
  example-at (suc r) n small less =
      let t = in-open n (l.rules n) refl (is_less n e.size small) in
      let flat = t.2 in
      let k = spells-example (Derives l r) r (derives-begun l tails f r) (example-at r) (l.rules n) (f n).1 t.4 (omega (arith, less, flat)) in
      (k.0, k.1 ∙ sym t.1, λ next q. k.2 next (off-covered l (e.shuts n) (bars e (l.rules n)) next t.0 q))

  pub example-more : (depth n : ℕ) → n < e.size → Example l (e.shuts n) (e.words n) (Derives l (plus e.deepest depth) n)
  unfolding plus
  example-more zero n small = example-at e.deepest n small (in-open n (l.rules n) refl (is_less n e.size small)).3
  example-more (suc depth) n small =
      let k = example-more depth n small in
      (k.0, k.1, λ next q. ((k.2 next q).0, derives-more l (plus e.deepest depth) n (k.0 ++ next) next (k.2 next q).0 (k.2 next q).1))

  pub read-sound_more : (limit depth name : ℕ) → Sound (Derives l (plus e.deepest depth) name) (read l limit depth name)
  unfolding read Derives plus
  read-sound_more limit zero name ts p d = absurd (cc (d))
  read-sound_more limit (suc depth) name ts p d =
      read_at-sound l (Derives l (plus e.deepest depth)) limit (read l limit depth) (read-sound_more limit depth) (l.rules name) ts p d

  pub read-completed : (limit depth name : ℕ) → name < e.size → Completes l (e.shuts name) (Derives l (plus e.deepest depth) name) (read l limit depth name)
  unfolding read Derives plus
  read-completed limit zero name small ts c d =
      let k = example-more 0 name small in
      ([], ap (λ q. q.1) (same_err (starts l (among (l.heads name)) ts, ts) c d), k.0, k.2)
  read-completed limit (suc depth) name small ts c d =
      let t = in-open name (l.rules name) refl (is_less name e.size small) in
      completed-as l (bars e (l.rules name)) (e.shuts name) (Spells l (Derives l (plus e.deepest depth)) (l.rules name)) (Spells l (Derives l (plus e.deepest depth)) (l.rules name)) ts c.1
      (λ next h. off-covered l (e.shuts name) (bars e (l.rules name)) next t.0 h) (λ now next a q. (a, q))
      (read_at-completed (Derives l (plus e.deepest depth)) limit (read l limit depth) (derives-begun l tails f (plus e.deepest depth))
      (read-sound_more limit depth) (derives-moved (plus e.deepest depth)) (example-more depth) (read-completed limit depth) (l.rules name) (f name).1 t.4 ts c d)

  -- Some script begins with what stands before a fault.
  pub fault-viable : (limit depth start : ℕ) → start < e.size → (ts : List A) (c : Fault A) → read l limit depth start ts ≡ Err c
      → (front : List A) × (ts ≡ front ++ c.1) × Viable l start front
  unfolding Viable
  fault-viable limit depth start small ts c d =
      let k = read-completed limit depth start small ts c d in
      (k.0, k.1, (plus e.deepest depth, k.2 ++ [], (k.3 [] refl).0, (k.3 [] refl).1))
