-- What is read so is derived, and its first token is that of its tree.
use Rattle.std.proofs.Common.{inl, inr, true, false, Bool, ◌⊎◌, ◌≡◌, ℕ, zero, suc, ◌≤◌, List, [], ◌∷◌, length, refl, ap, sym, subst, ◌∙◌, arith}
use Rattle.std.specs.Prelude.{if◌then◌else◌, ◌||◌, Some, None, Ok, Err}
use Rattle.js_token.specs.declared.token.Token.{Token}
use Rattle.js_parse.specs.declared.fault.Fault.TheVariants as fault
use Rattle.grammar.specs.Kinds.{among}
use Rattle.grammar.specs.Grammar.{Tree, tip, leaf, pair, node, Grammar, empty, token, call, line, both, either, fork, many, named, prefer, starting, on, Language, Relation, Chain, starts, Spells, Derives}
use Rattle.grammar.specs.Reading.{firsts}
use Rattle.grammar.proofs.Sets.{or_right}
use Rattle.parse_laws.specs.Trees.{first_token}
use Rattle.parse_laws.proofs.Guided.{Was, Goes, done, called, first_of, forked, opens_next, many_of, guided, rule_at, called_ok, ok_same, was, many-continues, guided-continues}

pub first-ok : (x y : Was Token) (p : Tree Token × List Token) → first_of x y ≡ Ok p → x ≡ Ok p
first-ok (Ok q) y p e = e
first-ok (Err (fault.Token a false)) y p e = absurd (cc (e))
first-ok (Err (fault.Token a true)) y p e = absurd (cc (e))
first-ok (Err (fault.Deep a)) y p e = absurd (cc (e))
first-ok (Err fault.Memory) y p e = absurd (cc (e))

-- which of two was read
pub forked-ok : (b c : Bool) (x y : Was Token) (p : Tree Token × List Token) → forked b c x y ≡ Ok p → (x ≡ Ok p) ⊎ (y ≡ Ok p)
forked-ok true true x y p e = inr (first-ok y x p e)
forked-ok true false x y p e = inl (first-ok x y p e)
forked-ok false true x y p e = inr e
forked-ok false false x y p e = inl e

module _ (l : Language Token) where
  -- What is told of what is read.
  abbrev pub Finds : Relation Token → (List Token → Goes Token (Tree Token × List Token) → Was Token) → Type 0
  Finds Q g = (ts : List Token) (p : Tree Token × List Token) → g ts done ≡ Ok p → Q ts p.1 p.0

  abbrev pub Goes-on : (List Token → Goes Token (Tree Token × List Token) → Was Token) → Type 0
  Goes-on g = (ts : List Token) (k : Goes Token (Tree Token × List Token)) → g ts k ≡ called (g ts done) k

  pub many-finds : (Q : Relation Token) (test : ℕ → Bool) (more : Tree Token → Bool) (g : List Token → Goes Token (Tree Token × List Token) → Was Token) → Goes-on g → Finds Q g
      → (n : ℕ) → Finds (λ ts rest a. Chain Q more a ts rest) (many_of l test more g n)
  unfolding many_of Chain
  many-finds Q test more g c s zero ts p e = subst (λ q. Chain Q more q.0 ts q.1) (ok_same _ _ e) refl
  many-finds Q test more g c s (suc n) ts p e = elim (was (starts l test ts) _ _ p e) [
    | inl h ↦
        let k = called_ok (g ts done) _ p (sym (c ts _) ∙ h.1) in
        elim (was (more (k.0).0) _ _ p k.2) [
          | inl m ↦
              let f = called_ok (many_of l test more g n (k.0).1 done) _ p
              (sym (many-continues l (Tree Token × List Token) test more g g c c n (k.0).1 _) ∙ m.1) in
              subst (λ q. Chain Q more q.0 ts q.1) (ok_same _ _ f.2)
              ((k.0).1, s ts k.0 k.1, inl (m.0, many-finds Q test more g c s n (k.0).1 f.0 f.1))
          | inr m ↦ subst (λ q. Chain Q more q.0 ts q.1) (ok_same _ _ m.1) ((k.0).1, s ts k.0 k.1, inr (m.0, refl, refl))
        ]
    | inr h ↦ subst (λ q. Chain Q more q.0 ts q.1) (ok_same _ _ h.1) refl
  ]

  module _ (ahead : List Token → Bool) (r : ℕ → List Token → Was Token) (R : ℕ → Relation Token) (s : (n : ℕ) (ts : List Token) (p : Tree Token × List Token) → r n ts ≡ Ok p → R n ts p.1 p.0) where
    pub guided-finds : (x : Grammar Token) → Finds (Spells l R x) (guided l ahead r x)
    unfolding guided Spells
    guided-finds empty ts p e = let same = ok_same _ _ e in (ap (λ q. q.1) same, sym (ap (λ q. q.0) same))
    guided-finds (token kinds) [] p e = absurd (cc (e))
    guided-finds (token kinds) (t ∷ ts) p e = elim (was (among kinds (l.kind t)) _ _ p e) [
      | inl h ↦ let same = ok_same _ _ h.1 in (t, ap (λ q. t ∷ q.1) same, h.0, sym (ap (λ q. q.0) same))
      | inr h ↦ absurd (cc (h.1))
    ]
    guided-finds (call name) ts p e =
        let k = called_ok (r name ts) _ p e in s name ts p (k.1 ∙ k.2)
    guided-finds (line name x) ts p e = guided-finds x ts p e
    guided-finds (both x y) ts p e =
        let k = called_ok (guided l ahead r x ts done) _ p (sym (guided-continues l ahead r (Tree Token × List Token) x ts _) ∙ e) in
        let f = called_ok (guided l ahead r y (k.0).1 done) _ p (sym (guided-continues l ahead r (Tree Token × List Token) y (k.0).1 _) ∙ k.2) in
        subst (λ q. Spells l R (both x y) ts q.1 q.0) (ok_same _ _ f.2)
        ((k.0).1, (k.0).0, (f.0).0, guided-finds x ts k.0 k.1, guided-finds y (k.0).1 f.0 f.1, refl)
    guided-finds (either x y) ts p e = elim (was (starts l (among (firsts l.heads x)) ts) _ _ p e) [
      | inl h ↦ inl (guided-finds x ts p h.1)
      | inr h ↦ inr (guided-finds y ts p h.1)
    ]
    guided-finds (fork stop x y) ts p e = elim (was (starts l (among (firsts l.heads x)) ts) _ _ p e) [
      | inl h ↦
          let k = called_ok (forked (opens_next ts) (ahead ts) (guided l ahead r x ts done) (guided l ahead r y ts done)) done p h.1 in
          let same : k.0 ≡ p = ok_same k.0 p k.2 in
          elim (forked-ok (opens_next ts) (ahead ts) (guided l ahead r x ts done) (guided l ahead r y ts done) p (k.1 ∙ ap (λ q. Ok q) same)) [
            | inl j ↦ inl (guided-finds x ts p j)
            | inr j ↦ inr (guided-finds y ts p j)
          ]
      | inr h ↦ inl (guided-finds x ts p h.1)
    ]
    guided-finds (many more x) ts p e =
        many-finds (Spells l R x) (among (firsts l.heads x)) more (guided l ahead r x) (guided-continues l ahead r (Tree Token × List Token) x) (guided-finds x) (length ts) ts p e
    guided-finds (named name x) ts p e =
        let k = called_ok (guided l ahead r x ts done) _ p (sym (guided-continues l ahead r (Tree Token × List Token) x ts _) ∙ e) in
        subst (λ q. Spells l R (named name x) ts q.1 q.0) (ok_same _ _ k.2) ((k.0).0, guided-finds x ts k.0 k.1, refl)
    guided-finds (prefer kinds x) ts p e = elim (was (starts l (among kinds) ts) _ _ p e) [
      | inl h ↦ inl (guided-finds x ts p h.1)
      | inr h ↦ let same = ok_same _ _ h.1 in
          inr (ap (λ q. q.1) same, sym (ap (λ q. q.0) same), ap (λ q. starts l (among kinds) q.1) (sym same) ∙ h.0)
    ]
    guided-finds (starting test x) ts p e = elim (was (starts l test ts) _ _ p e) [
      | inl h ↦ (h.0, guided-finds x ts p h.1)
      | inr h ↦ absurd (cc (h.1))
    ]
    guided-finds (on test x y z) ts p e =
        let k = called_ok (guided l ahead r x ts done) _ p (sym (guided-continues l ahead r (Tree Token × List Token) x ts _) ∙ e) in
        elim (was (test (k.0).0) _ _ p k.2) [
          | inl h ↦
              let f = called_ok (guided l ahead r y (k.0).1 done) _ p (sym (guided-continues l ahead r (Tree Token × List Token) y (k.0).1 _) ∙ h.1) in
              subst (λ q. Spells l R (on test x y z) ts q.1 q.0) (ok_same _ _ f.2)
              ((k.0).1, (k.0).0, (f.0).0, guided-finds x ts k.0 k.1, inl (h.0, guided-finds y (k.0).1 f.0 f.1), refl)
          | inr h ↦
              let f = called_ok (guided l ahead r z (k.0).1 done) _ p (sym (guided-continues l ahead r (Tree Token × List Token) z (k.0).1 _) ∙ h.1) in
              subst (λ q. Spells l R (on test x y z) ts q.1 q.0) (ok_same _ _ f.2)
              ((k.0).1, (k.0).0, (f.0).0, guided-finds x ts k.0 k.1, inr (h.0, guided-finds z (k.0).1 f.0 f.1), refl)
        ]

  pub rule-finds : (ahead : List Token → Bool) (depth n : ℕ) (ts : List Token) (p : Tree Token × List Token) → rule_at l ahead depth n ts ≡ Ok p → Derives l depth n ts p.1 p.0
  unfolding rule_at Derives
  rule-finds ahead zero n ts p e = absurd (cc (e))
  rule-finds ahead (suc depth) n ts p e = guided-finds ahead (rule_at l ahead depth) (Derives l depth) (rule-finds ahead depth) (l.rules n) ts p e

  -- ---- the first token

  abbrev pub Fronted : Bool → List Token → List Token → Tree Token → Type 0
  Fronted none ts rest tree = ((none ≡ true) × (ts ≡ rest) × (first_token tree ≡ None))
      ⊎ ((t : Token) × (others : List Token) × (ts ≡ t ∷ others) × (first_token tree ≡ Some t) × (length rest ≤ length others))

  abbrev pub FrontsAll : Bool → Relation Token → Type 0
  FrontsAll none Q = (ts rest : List Token) (a : Tree Token) → Q ts rest a → Fronted none ts rest a

  pub no-longer : (n : Bool) (ts rest : List Token) (a : Tree Token) → Fronted n ts rest a → length rest ≤ length ts
  no-longer n ts rest a f = elim f [
    | inl h ↦ let e : length ts ≡ length rest = ap (λ l. length l) (h.1) in omega (arith, e)
    | inr h ↦ let e : length ts ≡ suc (length (h.1)) = ap (λ l. length l) (h.2) in let k = h.4 in omega (arith, e, k)
  ]

  pub pair-fronted : (m n : Bool) (ts mid rest : List Token) (a b : Tree Token) → Fronted m ts mid a → Fronted n mid rest b → Fronted (if m then n else false) ts rest (pair a b)
  unfolding first_token
  pair-fronted m n ts mid rest a b f g = elim f [
    | inl h ↦ elim g [
      | inl k ↦ inl (rw (h.0) (k.0), h.1 ∙ k.1, rw (h.2) (k.2))
      | inr k ↦ inr (k.0, k.1, h.1 ∙ k.2, rw (h.2) (k.3), k.4)
    ]
    | inr h ↦ let less = no-longer n mid rest b g in let k = h.4 in inr (h.0, h.1, h.2, rw (h.3) refl, omega (arith, less, k))
  ]

  pub more-fronted : (m n : Bool) (ts rest : List Token) (a : Tree Token) → (m ≡ true → n ≡ true) → Fronted m ts rest a → Fronted n ts rest a
  more-fronted m n ts rest a w f = elim f [ inl h ↦ inl (w h.0, h.1, h.2) | inr h ↦ inr h ]

  pub chain-fronted : (m : Bool) (Q : Relation Token) (more : Tree Token → Bool) → FrontsAll m Q → (a : Tree Token) (ts rest : List Token) → Chain Q more a ts rest → Fronted true ts rest a
  unfolding Chain first_token
  chain-fronted m Q more w tip ts rest e = inl (refl, e, refl)
  chain-fronted m Q more w (leaf t) ts rest e = absurd e
  chain-fronted m Q more w (pair a b) ts rest e =
      more-fronted (if m then true else false) true ts rest (pair a b) (λ _. refl)
      (pair-fronted m true ts e.0 rest a b (w ts e.0 a e.1) (elim e.2 [
        | inl h ↦ chain-fronted m Q more w b e.0 rest h.1
        | inr h ↦ inl (refl, h.1, ap (λ t. first_token t) h.2)
      ]))
  chain-fronted m Q more w (node name a) ts rest e = absurd e

pub or_left : (a b : Bool) → a ≡ true → (a || b) ≡ true
or_left a b e = rw e refl

pub if-first : (a b : Bool) → (if a then b else false) ≡ true → a ≡ true
if-first true b e = refl
if-first false b e = absurd (cc (e))

-- may it be empty, where rules are never?
unfoldable pub vacant : {A : Type 0} → Grammar A → Bool
vacant empty = true
vacant (token kinds) = false
vacant (call name) = false
vacant (line name x) = vacant x
vacant (both x y) = if vacant x then vacant y else false
vacant (either x y) = vacant x || vacant y
vacant (fork stop x y) = vacant x || vacant y
vacant (many more x) = true
vacant (named name x) = vacant x
vacant (prefer kinds x) = true
vacant (starting test x) = vacant x
vacant (on test x y z) = vacant x

module _ (l : Language Token) where
  pub spells-fronted : (R : ℕ → Relation Token) → ((n : ℕ) → FrontsAll l false (R n)) → (x : Grammar Token) → FrontsAll l (vacant x) (Spells l R x)
  unfolding Spells vacant first_token
  spells-fronted R w empty ts rest a e = inl (refl, e.0, ap (λ t. first_token t) e.1)
  spells-fronted R w (token kinds) ts rest a e = inr (e.0, rest, e.1, ap (λ t. first_token t) e.3, omega arith)
  spells-fronted R w (call name) ts rest a e = w name ts rest a e
  spells-fronted R w (line name x) ts rest a e = spells-fronted R w x ts rest a e
  spells-fronted R w (both x y) ts rest a e =
      subst (λ q. Fronted l (if vacant x then vacant y else false) ts rest q) (sym e.5)
      (pair-fronted l (vacant x) (vacant y) ts e.0 rest e.1 e.2 (spells-fronted R w x ts e.0 e.1 e.3) (spells-fronted R w y e.0 rest e.2 e.4))
  spells-fronted R w (either x y) ts rest a e = elim e [
    | inl h ↦ more-fronted l (vacant x) (vacant x || vacant y) ts rest a (or_left (vacant x) (vacant y)) (spells-fronted R w x ts rest a h)
    | inr h ↦ more-fronted l (vacant y) (vacant x || vacant y) ts rest a (or_right (vacant x) (vacant y)) (spells-fronted R w y ts rest a h)
  ]
  spells-fronted R w (fork stop x y) ts rest a e = elim e [
    | inl h ↦ more-fronted l (vacant x) (vacant x || vacant y) ts rest a (or_left (vacant x) (vacant y)) (spells-fronted R w x ts rest a h)
    | inr h ↦ more-fronted l (vacant y) (vacant x || vacant y) ts rest a (or_right (vacant x) (vacant y)) (spells-fronted R w y ts rest a h)
  ]
  spells-fronted R w (many more x) ts rest a e = chain-fronted l (vacant x) (Spells l R x) more (spells-fronted R w x) a ts rest e
  spells-fronted R w (named name x) ts rest a e =
      subst (λ q. Fronted l (vacant x) ts rest q) (sym e.2) (spells-fronted R w x ts rest e.0 e.1)
  spells-fronted R w (prefer kinds x) ts rest a e = elim e [
    | inl h ↦ more-fronted l (vacant x) true ts rest a (λ _. refl) (spells-fronted R w x ts rest a h)
    | inr h ↦ inl (refl, h.0, ap (λ t. first_token t) h.1)
  ]
  spells-fronted R w (starting test x) ts rest a e = spells-fronted R w x ts rest a e.1
  spells-fronted R w (on test x y z) ts rest a e =
      let f = spells-fronted R w x ts e.0 e.1 e.3 in
      let g : Fronted l true e.0 rest e.2 = elim e.4 [
        | inl h ↦ more-fronted l (vacant y) true e.0 rest e.2 (λ _. refl) (spells-fronted R w y e.0 rest e.2 h.1)
        | inr h ↦ more-fronted l (vacant z) true e.0 rest e.2 (λ _. refl) (spells-fronted R w z e.0 rest e.2 h.1)
      ] in
      subst (λ q. Fronted l (vacant x) ts rest q) (sym e.5)
      (more-fronted l (if vacant x then true else false) (vacant x) ts rest (pair e.1 e.2) (if-first (vacant x) true)
      (pair-fronted l (vacant x) true ts e.0 rest e.1 e.2 f g))

  pub derives-fronted : ((n : ℕ) → vacant (l.rules n) ≡ false) → (depth n : ℕ) → FrontsAll l false (Derives l depth n)
  unfolding Derives
  derives-fronted v zero n ts rest a e = absurd e
  derives-fronted v (suc depth) n ts rest a e =
      subst (λ b. Fronted l b ts rest a) (v n) (spells-fronted (Derives l depth) (derives-fronted v depth) (l.rules n) ts rest a e)

  -- what is read of a part that is not empty
  pub read-front : (ahead : List Token → Bool) (depth : ℕ) → ((n : ℕ) → vacant (l.rules n) ≡ false) → (x : Grammar Token) → vacant x ≡ false → (ts rest : List Token) (a : Tree Token)
      → guided l ahead (rule_at l ahead depth) x ts done ≡ Ok (a, rest)
      → (t : Token) × (others : List Token) × (ts ≡ t ∷ others) × (first_token a ≡ Some t) × (length rest ≤ length others)
  read-front ahead depth v x n ts rest a e =
      elim (spells-fronted (Derives l depth) (derives-fronted v depth) x ts rest a
      (guided-finds l ahead (rule_at l ahead depth) (Derives l depth) (rule-finds l ahead depth) x ts (a, rest) e)) [
        | inl h ↦ let k = h.0 in absurd (cc (k, n))
        | inr h ↦ h
      ]

  -- of any part
  pub read-shorter : (ahead : List Token → Bool) (depth : ℕ) → ((n : ℕ) → vacant (l.rules n) ≡ false) → (x : Grammar Token) → (ts rest : List Token) (a : Tree Token)
      → guided l ahead (rule_at l ahead depth) x ts done ≡ Ok (a, rest) → length rest ≤ length ts
  read-shorter ahead depth v x ts rest a e =
      no-longer l (vacant x) ts rest a (spells-fronted (Derives l depth) (derives-fronted v depth) x ts rest a
      (guided-finds l ahead (rule_at l ahead depth) (Derives l depth) (rule-finds l ahead depth) x ts (a, rest) e))

  pub read-maybe : (ahead : List Token → Bool) (depth : ℕ) → ((n : ℕ) → vacant (l.rules n) ≡ false) → (x : Grammar Token) → (ts rest : List Token) (a : Tree Token)
      → guided l ahead (rule_at l ahead depth) x ts done ≡ Ok (a, rest)
      → (first_token a ≡ None) ⊎ ((t : Token) × (others : List Token) × (ts ≡ t ∷ others) × (first_token a ≡ Some t))
  read-maybe ahead depth v x ts rest a e =
      elim (spells-fronted (Derives l depth) (derives-fronted v depth) x ts rest a
      (guided-finds l ahead (rule_at l ahead depth) (Derives l depth) (rule-finds l ahead depth) x ts (a, rest) e)) [
        | inl h ↦ inl h.2
        | inr h ↦ inr (h.0, h.1, h.2, h.3)
      ]
