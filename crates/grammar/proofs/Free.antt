-- Tokens of some kinds stand nowhere in what is derived.
use Rattle.std.proofs.Common.{inl, inr, true, false, Bool, ◌≡◌, ℕ, zero, suc, List, [], ◌∷◌, ◌++◌, sym, subst}
use Rattle.std.specs.Prelude.{◌==◌}
use Rattle.grammar.specs.Kinds.{among, apart, and, not}
use Rattle.grammar.specs.Grammar.{Tree, tip, leaf, pair, node, Grammar, empty, token, call, line, both, either, fork, many, named, prefer, starting, on, Language, Relation, Chain, Spells, Derives}
use Rattle.grammar.specs.Tests.{InPlace}
use Rattle.grammar.proofs.Laws.{rows}
use Rattle.grammar.proofs.Sets.{and_both, not_true, apart-tells, false_by}

-- No token of these kinds, and no rule of that name.
unfoldable pub free : {A : Type 0} → List ℕ → ℕ → Grammar A → Bool
free kinds start empty = true
free kinds start (token ks) = apart ks kinds
free kinds start (call name) = not (name == start)
free kinds start (line name x) = not (name == start)
free kinds start (both x y) = and (free kinds start x) (free kinds start y)
free kinds start (either x y) = and (free kinds start x) (free kinds start y)
free kinds start (fork stop x y) = and (free kinds start x) (free kinds start y)
free kinds start (many more x) = free kinds start x
free kinds start (named name x) = free kinds start x
free kinds start (prefer ks x) = free kinds start x
free kinds start (starting test x) = free kinds start x
free kinds start (on test x y z) = and (free kinds start x) (and (free kinds start y) (free kinds start z))

module _ {A : Type 0} (l : Language A) (kinds : List ℕ) (start : ℕ) where
  abbrev pub NoneOf : List A → Type 0
  NoneOf [] = Unit {0}
  NoneOf (t ∷ ts) = (among kinds (l.kind t) ≡ false) × NoneOf ts

  pub none-both : (f g : List A) → NoneOf f → NoneOf g → NoneOf (f ++ g)
  none-both [] g n m = m
  none-both (t ∷ f) g n m = (n.0, none-both f g n.1 m)

  -- Not in what is derived.
  abbrev pub Frees : Relation A → Type 0
  Frees Q = (ts rest : List A) (a : Tree A) → Q ts rest a → (f : List A) × (ts ≡ f ++ rest) × NoneOf f

  pub two-free : (ts mid rest : List A) → (f : List A) × (ts ≡ f ++ mid) × NoneOf f → (f : List A) × (mid ≡ f ++ rest) × NoneOf f → (f : List A) × (ts ≡ f ++ rest) × NoneOf f
  two-free ts mid rest g k = (g.0 ++ k.0, rows g.0 k.0 ts mid rest g.1 k.1, none-both g.0 k.0 g.2 k.2)

  pub chain-free : (Q : Relation A) (more : Tree A → Bool) → Frees Q → (a : Tree A) (ts rest : List A) → Chain Q more a ts rest → (f : List A) × (ts ≡ f ++ rest) × NoneOf f
  unfolding Chain
  chain-free Q more w tip ts rest e = ([], e, tt)
  chain-free Q more w (leaf t) ts rest e = absurd e
  chain-free Q more w (pair a b) ts rest e =
      two-free ts e.0 rest (w ts e.0 a e.1) (elim e.2 [ inl h ↦ chain-free Q more w b e.0 rest h.1 | inr h ↦ ([], h.1, tt) ])
  chain-free Q more w (node name a) ts rest e = absurd e

  pub spells-free : (R : ℕ → Relation A) → ((n : ℕ) → InPlace l.rules (l.rules n)) → ((n : ℕ) → (n == start) ≡ false → free kinds start (l.rules n) ≡ true)
      → ((n : ℕ) → (n == start) ≡ false → Frees (R n)) → (x : Grammar A) → InPlace l.rules x → free kinds start x ≡ true → Frees (Spells l R x)
  unfolding Spells free InPlace
  spells-free R i d w empty p v ts rest a e = ([], e.0, tt)
  spells-free R i d w (token ks) p v ts rest a e =
      (e.0 ∷ [], e.1, (false_by (among kinds (l.kind e.0)) (λ m. apart-tells ks kinds (l.kind e.0) v e.2 m), tt))
  spells-free R i d w (call name) p v ts rest a e = w name (not_true (name == start) v) ts rest a e
  spells-free R i d w (line name x) p v ts rest a e =
      spells-free R i d w x (subst (InPlace l.rules) (sym p) (i name)) (subst (λ y. free kinds start y ≡ true) (sym p) (d name (not_true (name == start) v))) ts rest a e
  spells-free R i d w (both x y) p v ts rest a e =
      let v₁ = and_both (free kinds start x) (free kinds start y) v in
      two-free ts e.0 rest (spells-free R i d w x p.0 v₁.0 ts e.0 e.1 e.3) (spells-free R i d w y p.1 v₁.1 e.0 rest e.2 e.4)
  spells-free R i d w (either x y) p v ts rest a e =
      let v₁ = and_both (free kinds start x) (free kinds start y) v in
      elim e [ inl h ↦ spells-free R i d w x p.0 v₁.0 ts rest a h | inr h ↦ spells-free R i d w y p.1 v₁.1 ts rest a h ]
  spells-free R i d w (fork stop x y) p v ts rest a e =
      let v₁ = and_both (free kinds start x) (free kinds start y) v in
      elim e [ inl h ↦ spells-free R i d w x p.0 v₁.0 ts rest a h | inr h ↦ spells-free R i d w y p.1 v₁.1 ts rest a h ]
  spells-free R i d w (many more x) p v ts rest a e = chain-free (Spells l R x) more (spells-free R i d w x p v) a ts rest e
  spells-free R i d w (named name x) p v ts rest a e = spells-free R i d w x p v ts rest e.0 e.1
  spells-free R i d w (prefer ks x) p v ts rest a e = elim e [ inl h ↦ spells-free R i d w x p v ts rest a h | inr h ↦ ([], h.0, tt) ]
  spells-free R i d w (starting test x) p v ts rest a e = spells-free R i d w x p v ts rest a e.1
  spells-free R i d w (on test x y z) p v ts rest a e =
      let v₁ = and_both (free kinds start x) _ v in
      let v₂ = and_both (free kinds start y) (free kinds start z) v₁.1 in
      two-free ts e.0 rest (spells-free R i d w x p.0 v₁.0 ts e.0 e.1 e.3)
      (elim e.4 [ inl h ↦ spells-free R i d w y p.1 v₂.0 e.0 rest e.2 h.1 | inr h ↦ spells-free R i d w z p.2 v₂.1 e.0 rest e.2 h.1 ])

  pub derives-free : ((n : ℕ) → InPlace l.rules (l.rules n)) → ((n : ℕ) → (n == start) ≡ false → free kinds start (l.rules n) ≡ true)
      → (depth n : ℕ) → (n == start) ≡ false → Frees (Derives l depth n)
  unfolding Derives
  derives-free i d zero n o ts rest a e = absurd e
  derives-free i d (suc depth) n o ts rest a e = spells-free (Derives l depth) i d (derives-free i d depth) (l.rules n) (i n) (d n o) ts rest a e
