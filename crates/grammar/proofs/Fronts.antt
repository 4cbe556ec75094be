-- What is derived is a front of the tokens.
use Rattle.std.proofs.Common.{inl, inr, Bool, ◌≡◌, ℕ, zero, suc, List, [], ◌∷◌, ◌++◌}
use Rattle.grammar.specs.Grammar.{Tree, tip, leaf, pair, node, Grammar, empty, token, call, line, both, either, fork, many, named, prefer, starting, on, Language, Relation, Chain, Spells, Derives}
use Rattle.grammar.proofs.Laws.{rows}

abbrev pub Fronts : {A : Type 0} → Relation A → Type 0
Fronts {A} Q = (ts rest : List A) (a : Tree A) → Q ts rest a → (f : List A) × (ts ≡ f ++ rest)

pub chain-front : {A : Type 0} (Q : Relation A) (more : Tree A → Bool) → Fronts Q → (a : Tree A) (ts rest : List A) → Chain Q more a ts rest → (f : List A) × (ts ≡ f ++ rest)
unfolding Chain
chain-front Q more w tip ts rest e = ([], e)
chain-front Q more w (leaf t) ts rest e = absurd e
chain-front Q more w (pair a b) ts rest e =
    let g = w ts e.0 a e.1 in
    elim e.2 [
      | inl h ↦ let k = chain-front Q more w b e.0 rest h.1 in (g.0 ++ k.0, rows g.0 k.0 ts e.0 rest g.1 k.1)
      | inr h ↦ (g.0 ++ [], rows g.0 [] ts e.0 rest g.1 h.1)
    ]
chain-front Q more w (node name a) ts rest e = absurd e

module _ {A : Type 0} (l : Language A) where
  pub spells-front : (R : ℕ → Relation A) → ((n : ℕ) → Fronts (R n)) → (x : Grammar A) → Fronts (Spells l R x)
  unfolding Spells
  spells-front R w empty ts rest a e = ([], e.0)
  spells-front R w (token kinds) ts rest a e = (e.0 ∷ [], e.1)
  spells-front R w (call name) ts rest a e = w name ts rest a e
  spells-front R w (line name x) ts rest a e = spells-front R w x ts rest a e
  spells-front R w (both x y) ts rest a e =
      let g = spells-front R w x ts e.0 e.1 e.3 in
      let k = spells-front R w y e.0 rest e.2 e.4 in
      (g.0 ++ k.0, rows g.0 k.0 ts e.0 rest g.1 k.1)
  spells-front R w (either x y) ts rest a e = elim e [ inl h ↦ spells-front R w x ts rest a h | inr h ↦ spells-front R w y ts rest a h ]
  spells-front R w (fork stop x y) ts rest a e = elim e [ inl h ↦ spells-front R w x ts rest a h | inr h ↦ spells-front R w y ts rest a h ]
  spells-front R w (many more x) ts rest a e = chain-front (Spells l R x) more (spells-front R w x) a ts rest e
  spells-front R w (named name x) ts rest a e = spells-front R w x ts rest e.0 e.1
  spells-front R w (prefer kinds x) ts rest a e = elim e [ inl h ↦ spells-front R w x ts rest a h | inr h ↦ ([], h.0) ]
  spells-front R w (starting test x) ts rest a e = spells-front R w x ts rest a e.1
  spells-front R w (on test x y z) ts rest a e =
      let g = spells-front R w x ts e.0 e.1 e.3 in
      elim e.4 [
        | inl h ↦ let k = spells-front R w y e.0 rest e.2 h.1 in (g.0 ++ k.0, rows g.0 k.0 ts e.0 rest g.1 k.1)
        | inr h ↦ let k = spells-front R w z e.0 rest e.2 h.1 in (g.0 ++ k.0, rows g.0 k.0 ts e.0 rest g.1 k.1)
      ]

  pub derives-front : (depth n : ℕ) → Fronts (Derives l depth n)
  unfolding Derives
  derives-front zero n ts rest a e = absurd e
  derives-front (suc depth) n ts rest a e = spells-front (Derives l depth) (derives-front depth) (l.rules n) ts rest a e
