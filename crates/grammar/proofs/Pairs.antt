-- Brackets in what is derived stand in pairs, so the two readings of a fork exclude each other.
use Rattle.std.proofs.Common.{◌++◌, inl, inr, true, false, Bool, ◌⊎◌, ◌≡◌, ◌-◌, ℕ, zero, suc, ◌+◌, List, [], ◌∷◌, refl, ap, sym, subst, ◌∙◌, arith}
use Rattle.std.proofs.lemmas.Bool.{eqb-true}
use Rattle.std.specs.Prelude.{if◌then◌else◌, ◌==◌}
use Rattle.grammar.specs.Kinds.{among, apart, covers, and, not}
use Rattle.grammar.specs.Grammar.{Tree, tip, leaf, pair, node, Grammar, empty, token, call, line, both, either, fork, many, named, prefer, starting, on, Language, Relation, Perhaps, Chain, starts, Spells, Derives}
use Rattle.grammar.specs.Reading.{nullable, firsts, refused, read_at, read}
use Rattle.grammar.specs.Tests.{NotBoth, Apart, InPlace, Fits, AllApart}
use Rattle.grammar.specs.Pairs.{Forks, same_pair, levels, even, is_token, shuts_one, wrapped, leads, alone, is_head, before_stop, told, paired, Told}
use Rattle.grammar.proofs.Laws.{refused_ok, read_at-sound, read-sound}
use Rattle.grammar.proofs.Sets.{and_both, not_true, is_or_not, test_was, false_by, apart-tells, covers-tells, At, off-apart, at-covered, Begun, begun-surely}
use Rattle.grammar.proofs.Complete.{Begins, choice-begun, in-place, spells-begun, derives-begun}

pub same_pair-same : (a b : ℕ × ℕ) → same_pair a b ≡ true → a ≡ b
same_pair-same a b e =
    let h = and_both (a.0 == b.0) (a.1 == b.1) e in
    let p : a.0 ≡ b.0 = eqb-true a.0 b.0 h.0 in
    let q : a.1 ≡ b.1 = eqb-true a.1 b.1 h.1 in
    λ i. (p i, q i)

module _ {A : Type 0} (l : Language A) (b : Forks) where
  -- what is left from the bracket on that closes the level
  unfoldable pub closing : ℕ → List A → List A
  closing level [] = []
  closing zero (t ∷ ts) = if among b.opening (l.kind t) then closing 1 ts else if among b.closing (l.kind t) then t ∷ ts else closing zero ts
  closing (suc level) (t ∷ ts) =
      if among b.opening (l.kind t) then closing (suc (suc level)) ts else if among b.closing (l.kind t) then closing level ts else closing (suc level) ts

  abbrev pub Scans : ℕ × ℕ → Relation A → Type 0
  Scans c Q = (ts rest : List A) (a : Tree A) → Q ts rest a → (level : ℕ) → closing (c.0 + level) ts ≡ closing (c.1 + level) rest

  pub closing-open : (t : A) (ts : List A) (level : ℕ) → among b.opening (l.kind t) ≡ true → closing level (t ∷ ts) ≡ closing (suc level) ts
  unfolding closing
  closing-open t ts zero e = rw e refl
  closing-open t ts (suc level) e = rw e refl

  pub closing-close : (t : A) (ts : List A) (level : ℕ) → among b.opening (l.kind t) ≡ false → among b.closing (l.kind t) ≡ true → closing (suc level) (t ∷ ts) ≡ closing level ts
  unfolding closing
  closing-close t ts level e f = rw (e, f) refl

  pub closing-found : (t : A) (ts : List A) → among b.opening (l.kind t) ≡ false → among b.closing (l.kind t) ≡ true → closing 0 (t ∷ ts) ≡ t ∷ ts
  unfolding closing
  closing-found t ts e f = rw (e, f) refl

  pub closing-other : (t : A) (ts : List A) (level : ℕ) → among b.opening (l.kind t) ≡ false → among b.closing (l.kind t) ≡ false → closing level (t ∷ ts) ≡ closing level ts
  unfolding closing
  closing-other t ts zero e f = rw (e, f) refl
  closing-other t ts (suc level) e f = rw (e, f) refl

  pub perhaps-scans : (c : Bool) (Q : Relation A) → (ts rest : List A) (a : Tree A) → Perhaps c Q ts rest a
      → (level : ℕ) → (Q ts rest a → closing level ts ≡ closing level rest) → closing level ts ≡ closing level rest
  perhaps-scans c Q ts rest a e level s = elim e [ inl h ↦ s h.1 | inr h ↦ ap (closing level) h.1 ]

  pub chain-scans : (Q : Relation A) (more : Tree A → Bool) → Scans (0, 0) Q → (a : Tree A) (ts rest : List A) → Chain Q more a ts rest
      → (level : ℕ) → closing level ts ≡ closing level rest
  unfolding Chain
  chain-scans Q more s tip ts rest e level = ap (closing level) e
  chain-scans Q more s (leaf t) ts rest e level = absurd e
  chain-scans Q more s (pair x y) ts rest e level =
      let zero_less : 0 + level ≡ level = omega arith in
      let step : closing level ts ≡ closing level e.0 = rw zero_less at (s ts e.0 x e.1 level) in
      step ∙ perhaps-scans (more x) (λ ts rest b'. Chain Q more y ts rest) e.0 rest y e.2 level (λ c. chain-scans Q more s y e.0 rest c level)
  chain-scans Q more s (node name a) ts rest e level = absurd e

  -- A token of none, of opening or of closing brackets.
  pub token-scans : (kinds : List ℕ) (t : A) (rest : List A) → among kinds (l.kind t) ≡ true → even {A = A} b (token kinds) ≡ true
      → (level : ℕ) → closing ((levels {A = A} b (token kinds)).0 + level) (t ∷ rest) ≡ closing ((levels {A = A} b (token kinds)).1 + level) rest
  unfolding levels even
  token-scans kinds t rest k v level = elim (is_or_not (apart kinds b.opening)) [
    | inl h ↦
        let off : among b.opening (l.kind t) ≡ false = none b.opening h in
        elim (is_or_not (apart kinds b.closing)) [
          | inl j ↦ rw (h, j) (closing-other t rest (0 + level) off (none b.closing j))
          | inr j ↦
              let v' : covers b.closing kinds ≡ true = rw j at (rw h at v) in
              rw (h, j) (ap (λ n. closing n (t ∷ rest)) (one_more level) ∙ closing-close t rest level off (covers-tells b.closing kinds (l.kind t) v' k) ∙ ap (λ n. closing n rest) (omega arith))
        ]
    | inr h ↦
        let v' : covers b.opening kinds ≡ true = rw h at v in
        rw h (closing-open t rest (0 + level) (covers-tells b.opening kinds (l.kind t) v' k) ∙ ap (λ n. closing n rest) (omega arith))
  ]
    where
      one_more : (n : ℕ) → 1 + n ≡ suc n
      one_more n = omega arith

      none : (ys : List ℕ) → apart kinds ys ≡ true → among ys (l.kind t) ≡ false
      none ys h = false_by (among ys (l.kind t)) (λ m. apart-tells kinds ys (l.kind t) h k m)

module _ {A : Type 0} (l : Language A) (tails : ℕ → List ℕ) (f : Fits l tails) (b : Forks) (o : Told l b) where
  pub in-pairs : (name : ℕ) (x : Grammar A) → x ≡ l.rules name → (even b x ≡ true) × (levels b x ≡ (0, 0)) × (told l.heads b x ≡ true)
  in-pairs name x p =
      let t : paired l.heads b x ≡ true = subst (λ y. paired l.heads b y ≡ true) (sym p) (o.0 name) in
      let t₁ = and_both (and (even b x) (same_pair (levels b x) (0, 0))) (told l.heads b x) t in
      let t₂ = and_both (even b x) (same_pair (levels b x) (0, 0)) t₁.0 in
      (t₂.0, same_pair-same (levels b x) (0, 0) t₂.1, t₁.1)

  pub spells-scans : (R : ℕ → Relation A) → ((n : ℕ) → Scans l b (0, 0) (R n)) → (x : Grammar A) → InPlace l.rules x → even b x ≡ true → Scans l b (levels b x) (Spells l R x)
  unfolding Spells levels even InPlace
  spells-scans R s empty p v ts rest a e level = ap (closing l b (0 + level)) e.0
  spells-scans R s (token kinds) p v ts rest a e level =
      ap (λ m. closing l b ((levels {A = A} b (token kinds)).0 + level) m) e.1 ∙ token-scans l b kinds e.0 rest e.2 v level
  spells-scans R s (call name) p v ts rest a e level = s name ts rest a e level
  spells-scans R s (line name x) p v ts rest a e level =
      let t = in-pairs name x p in
      subst (λ c. Scans l b c (Spells l R x)) t.1 (spells-scans R s x (in-place l tails f name x p).4 t.0) ts rest a e level
  spells-scans R s (both x y) p v ts rest a e level =
      let v₁ = and_both (even b x) (even b y) v in
      let m = levels b x in
      let n = levels b y in
      let one = spells-scans R s x p.0 v₁.0 ts e.0 e.1 e.3 ((n.0 - m.1) + level) in
      let two = spells-scans R s y p.1 v₁.1 e.0 rest e.2 e.4 ((m.1 - n.0) + level) in
      ap (λ i. closing l b i ts) (shift m.0 (n.0 - m.1) level) ∙ one ∙ ap (λ i. closing l b i e.0) (middle m.1 n.0 level) ∙ two
      ∙ ap (λ i. closing l b i rest) (sym (shift n.1 (m.1 - n.0) level))
    where
      shift : (i j k : ℕ) → (i + j) + k ≡ i + (j + k)
      shift i j k = omega arith

      middle : (i j k : ℕ) → i + ((j - i) + k) ≡ j + ((i - j) + k)
      middle i j k = omega arith
  spells-scans R s (either x y) p v ts rest a e level =
      let v₁ = and_both (same_pair (levels b x) (levels b y)) _ v in
      let v₂ = and_both (even b x) (even b y) v₁.1 in
      elim e [
        | inl h ↦ spells-scans R s x p.0 v₂.0 ts rest a h level
        | inr h ↦ rw (same_pair-same (levels b x) (levels b y) v₁.0) (spells-scans R s y p.1 v₂.1 ts rest a h level)
      ]
  spells-scans R s (fork stop x y) p v ts rest a e level =
      let v₁ = and_both (same_pair (levels b x) (levels b y)) _ v in
      let v₂ = and_both (even b x) (even b y) v₁.1 in
      elim e [
        | inl h ↦ spells-scans R s x p.0 v₂.0 ts rest a h level
        | inr h ↦ rw (same_pair-same (levels b x) (levels b y) v₁.0) (spells-scans R s y p.1 v₂.1 ts rest a h level)
      ]
  spells-scans R s (many more x) p v ts rest a e level =
      let v₁ = and_both (same_pair (levels b x) (0, 0)) (even b x) v in
      let zero_less : 0 + level ≡ level = omega arith in
      rw zero_less
      (chain-scans l b (Spells l R x) more (subst (λ c. Scans l b c (Spells l R x)) (same_pair-same _ _ v₁.0) (spells-scans R s x p v₁.1)) a ts rest e level)
  spells-scans R s (named name x) p v ts rest a e level = spells-scans R s x p v ts rest e.0 e.1 level
  spells-scans R s (prefer kinds x) p v ts rest a e level =
      let v₁ = and_both (same_pair (levels b x) (0, 0)) (even b x) v in
      elim e [
        | inl h ↦ subst (λ c. Scans l b c (Spells l R x)) (same_pair-same _ _ v₁.0) (spells-scans R s x p v₁.1) ts rest a h level
        | inr h ↦ ap (closing l b (0 + level)) h.0
      ]
  spells-scans R s (starting test x) p v ts rest a e level = spells-scans R s x p v ts rest a e.1 level
  spells-scans R s (on test x y z) p v ts rest a e level =
      let v₁ = and_both (and (same_pair (levels b y) (0, 0)) (same_pair (levels b z) (0, 0))) _ v in
      let v₂ = and_both (same_pair (levels b y) (0, 0)) (same_pair (levels b z) (0, 0)) v₁.0 in
      let v₃ = and_both (even b x) _ v₁.1 in
      let v₄ = and_both (even b y) (even b z) v₃.1 in
      let one : Scans l b (0, 0) (Spells l R y) = subst (λ c. Scans l b c (Spells l R y)) (same_pair-same _ _ v₂.0) (spells-scans R s y p.1 v₄.0) in
      let two : Scans l b (0, 0) (Spells l R z) = subst (λ c. Scans l b c (Spells l R z)) (same_pair-same _ _ v₂.1) (spells-scans R s z p.2 v₄.1) in
      let after = (levels b x).1 + level in
      spells-scans R s x p.0 v₃.0 ts e.0 e.1 e.3 level
      ∙ ap (λ n. closing l b n e.0) (nothing after)
      ∙ elim e.4 [ inl h ↦ one e.0 rest e.2 h.1 after | inr h ↦ two e.0 rest e.2 h.1 after ]
      ∙ ap (λ n. closing l b n rest) (sym (nothing after))
    where
      nothing : (n : ℕ) → n ≡ 0 + n
      nothing n = omega arith

  pub derives-scans : (depth n : ℕ) → Scans l b (0, 0) (Derives l depth n)
  unfolding Derives
  derives-scans zero n ts rest a e level = absurd e
  derives-scans (suc depth) n ts rest a e level =
      let t = in-pairs n (l.rules n) refl in
      subst (λ c. Scans l b c (Spells l (Derives l depth) (l.rules n))) t.1 (spells-scans (Derives l depth) (derives-scans depth) (l.rules n) (f n).1 t.0) ts rest a e level

  -- The bracket that closes is found by counting.
  pub shuts-found : (R : ℕ → Relation A) → ((n : ℕ) → Scans l b (0, 0) (R n)) → (x : Grammar A) → InPlace l.rules x → shuts_one b x ≡ true
      → (ts rest : List A) (a : Tree A) → Spells l R x ts rest a → (c : A) × (closing l b 0 ts ≡ c ∷ rest)
  unfolding Spells shuts_one InPlace
  shuts-found R s empty p v ts rest a e = absurd (cc (v))
  shuts-found R s (token kinds) p v ts rest a e =
      let v₁ = and_both (covers b.closing kinds) (apart kinds b.opening) v in
      let off : among b.opening (l.kind e.0) ≡ false = false_by (among b.opening (l.kind e.0)) (λ m. apart-tells kinds b.opening (l.kind e.0) v₁.1 e.2 m) in
      (e.0, ap (closing l b 0) e.1 ∙ closing-found l b e.0 rest off (covers-tells b.closing kinds (l.kind e.0) v₁.0 e.2))
  shuts-found R s (call name) p v ts rest a e = absurd (cc (v))
  shuts-found R s (line name x) p v ts rest a e = absurd (cc (v))
  shuts-found R s (both x y) p v ts rest a e =
      let v₁ = and_both (and (same_pair (levels b x) (0, 0)) (even b x)) (shuts_one b y) v in
      let v₂ = and_both (same_pair (levels b x) (0, 0)) (even b x) v₁.0 in
      let flat : Scans l b (0, 0) (Spells l R x) = subst (λ c. Scans l b c (Spells l R x)) (same_pair-same _ _ v₂.0) (spells-scans R s x p.0 v₂.1) in
      let k = shuts-found R s y p.1 v₁.1 e.0 rest e.2 e.4 in
      (k.0, flat ts e.0 e.1 e.3 0 ∙ k.1)
  shuts-found R s (either x y) p v ts rest a e = absurd (cc (v))
  shuts-found R s (fork stop x y) p v ts rest a e = absurd (cc (v))
  shuts-found R s (many more x) p v ts rest a e = absurd (cc (v))
  shuts-found R s (named name x) p v ts rest a e = shuts-found R s x p v ts rest e.0 e.1
  shuts-found R s (prefer kinds x) p v ts rest a e = absurd (cc (v))
  shuts-found R s (starting test x) p v ts rest a e = shuts-found R s x p v ts rest a e.1
  shuts-found R s (on test x y z) p v ts rest a e = absurd (cc (v))

  pub token-told : (R : ℕ → Relation A) (x : Grammar A) → is_token x ≡ true → (ts rest : List A) (a : Tree A) → Spells l R x ts rest a → (t : A) × (ts ≡ t ∷ rest)
  unfolding Spells
  token-told R (token kinds) v ts rest a e = (e.0, e.1)
  token-told R _ v ts rest a e = absurd (cc (v))

  pub wrapped-found : (R : ℕ → Relation A) → ((n : ℕ) → Scans l b (0, 0) (R n)) → (x : Grammar A) → InPlace l.rules x → wrapped b x ≡ true
      → (ts rest : List A) (a : Tree A) → Spells l R x ts rest a → (t c : A) × (inner : List A) × (ts ≡ t ∷ inner) × (closing l b 0 inner ≡ c ∷ rest)
  unfolding Spells wrapped InPlace
  wrapped-found R s empty p v ts rest a e = absurd (cc (v))
  wrapped-found R s (token kinds) p v ts rest a e = absurd (cc (v))
  wrapped-found R s (call name) p v ts rest a e = absurd (cc (v))
  wrapped-found R s (line name x) p v ts rest a e = absurd (cc (v))
  wrapped-found R s (both x y) p v ts rest a e =
      let v₁ = and_both (is_token x) (shuts_one b y) v in
      let t = token-told R x v₁.0 ts e.0 e.1 e.3 in
      let k = shuts-found R s y p.1 v₁.1 e.0 rest e.2 e.4 in
      (t.0, k.0, e.0, t.1, k.1)
  wrapped-found R s (either x y) p v ts rest a e = absurd (cc (v))
  wrapped-found R s (fork stop x y) p v ts rest a e = absurd (cc (v))
  wrapped-found R s (many more x) p v ts rest a e = absurd (cc (v))
  wrapped-found R s (named name x) p v ts rest a e = wrapped-found R s x p v ts rest e.0 e.1
  wrapped-found R s (prefer kinds x) p v ts rest a e = absurd (cc (v))
  wrapped-found R s (starting test x) p v ts rest a e = wrapped-found R s x p v ts rest a e.1
  wrapped-found R s (on test x y z) p v ts rest a e = absurd (cc (v))

  -- The brackets of both readings close at one place.
  pub one-end : (depth : ℕ) (ts rest rest' : List A) (a a' : Tree A) → Derives l depth b.group ts rest a → Derives l depth b.listed ts rest' a' → rest ≡ rest'
  unfolding Derives
  one-end zero ts rest rest' a a' d d' = absurd d
  one-end (suc depth) ts rest rest' a a' d d' =
      let g = wrapped-found (Derives l depth) (derives-scans depth) (l.rules b.group) (f b.group).1 o.1 ts rest a d in
      let h = wrapped-found (Derives l depth) (derives-scans depth) (l.rules b.listed) (f b.listed).1 o.2 ts rest' a' d' in
      let same : g.2 ≡ h.2 = let e₁ = g.3 in let e₂ = h.3 in cc (e₁, e₂) in
      let close : g.1 ∷ rest ≡ h.1 ∷ rest' = sym g.4 ∙ ap (closing l b 0) same ∙ h.4 in
      cc (close)

  -- what ends where nothing of `stop` goes on
  pub ended : (none : Bool) (stop xs : List ℕ) (mid rest end : List A) → Begun l xs none mid rest → apart xs stop ≡ true → mid ≡ end → At l stop end → rest ≡ end
  ended none stop xs mid rest end begun far here j = elim begun [
    | inl h ↦ let off = off-apart l xs stop end far j in let on : starts l (among xs) end ≡ true = ap (λ m. starts l (among xs) m) (sym here) ∙ h.0 in absurd (cc (off, on))
    | inr h ↦ sym h.1 ∙ here
  ]

  -- Where an opening bracket comes next, it begins with a group, and nothing of `stop` goes on with it.
  pub leads-found : (R : ℕ → Relation A) → ((n : ℕ) → Begins l (l.heads n) false (R n)) → (stop : List ℕ) (x : Grammar A) → InPlace l.rules x → leads l.heads b stop x ≡ true
      → (ts rest : List A) (a : Tree A) → Spells l R x ts rest a → At l b.opening ts → (mid : List A) × (c : Tree A) × R b.group ts mid c × (At l stop mid → rest ≡ mid)
  unfolding Spells leads InPlace
  leads-found R q stop empty p v ts rest a e i = absurd (cc (v))
  leads-found R q stop (token kinds) p v ts rest a e i =
      absurd (apart-tells kinds b.opening (l.kind e.0) v e.2 (sym (ap (λ m. starts l (among b.opening) m) e.1) ∙ i))
  leads-found R q stop (call name) p v ts rest a e i = elim (is_or_not (name == b.group)) [
    | inl h ↦ (rest, a, subst (λ n. R n ts rest a) (eqb-true name b.group h) e, λ _. refl)
    | inr h ↦
        let v' : apart (l.heads name) b.opening ≡ true = rw h at v in
        let off = off-apart l (l.heads name) b.opening ts v' i in
        let on = begun-surely l (l.heads name) false ts rest refl (q name ts rest a e) in
        absurd (let on' = on.0 in cc (off, on'))
  ]
  leads-found R q stop (line name x) p v ts rest a e i = leads-found R q stop x (in-place l tails f name x p).4 v ts rest a e i
  leads-found R q stop (both x y) p v ts rest a e i =
      let v₁ = and_both (leads l.heads b stop x) (apart (firsts l.heads y) stop) v in
      let k = leads-found R q stop x p.0 v₁.0 ts e.0 e.1 e.3 i in
      (k.0, k.1, k.2, λ j. ended (nullable y) stop (firsts l.heads y) e.0 rest k.0 (spells-begun l tails f R q y p.1 e.0 rest e.2 e.4) v₁.1 (k.3 j) j)
  leads-found R q stop (either x y) p v ts rest a e i =
      let v₁ = and_both (leads l.heads b stop x) (leads l.heads b stop y) v in
      elim e [ inl h ↦ leads-found R q stop x p.0 v₁.0 ts rest a h i | inr h ↦ leads-found R q stop y p.1 v₁.1 ts rest a h i ]
  leads-found R q stop (fork other x y) p v ts rest a e i =
      let v₁ = and_both (leads l.heads b stop x) (leads l.heads b stop y) v in
      elim e [ inl h ↦ leads-found R q stop x p.0 v₁.0 ts rest a h i | inr h ↦ leads-found R q stop y p.1 v₁.1 ts rest a h i ]
  leads-found R q stop (many more x) p v ts rest a e i = absurd (cc (v))
  leads-found R q stop (named name x) p v ts rest a e i = leads-found R q stop x p v ts rest e.0 e.1 i
  leads-found R q stop (prefer kinds x) p v ts rest a e i = absurd (cc (v))
  leads-found R q stop (starting test x) p v ts rest a e i = leads-found R q stop x p v ts rest a e.1 i
  leads-found R q stop (on test x y z) p v ts rest a e i =
      let v₁ = and_both (leads l.heads b stop x) (apart (firsts l.heads y ++ firsts l.heads z) stop) v in
      let k = leads-found R q stop x p.0 v₁.0 ts e.0 e.1 e.3 i in
      let begun = choice-begun l (firsts l.heads y) (firsts l.heads z) (nullable y) (nullable z) (test e.1) (Spells l R y) (Spells l R z) e.0 rest e.2 e.4
      (λ c. spells-begun l tails f R q y p.1 e.0 rest e.2 c) (λ c. spells-begun l tails f R q z p.2 e.0 rest e.2 c) in
      (k.0, k.1, k.2, λ j. ended true stop (firsts l.heads y ++ firsts l.heads z) e.0 rest k.0 begun v₁.1 (k.3 j) j)

  -- Where a name comes next, it begins with that token alone, and nothing of `stop` goes on with it.
  pub alone-found : (R : ℕ → Relation A) → ((n : ℕ) → Begins l (l.heads n) false (R n)) → (stop : List ℕ) (x : Grammar A) → InPlace l.rules x → alone l.heads b stop x ≡ true
      → (ts rest : List A) (a : Tree A) → Spells l R x ts rest a → At l b.names ts → (t : A) × (mid : List A) × (ts ≡ t ∷ mid) × (At l stop mid → rest ≡ mid)
  unfolding Spells alone InPlace
  alone-found R q stop empty p v ts rest a e i = absurd (cc (v))
  alone-found R q stop (token kinds) p v ts rest a e i = (e.0, rest, e.1, λ _. refl)
  alone-found R q stop (call name) p v ts rest a e i =
      let off = off-apart l (l.heads name) b.names ts v i in
      let on = begun-surely l (l.heads name) false ts rest refl (q name ts rest a e) in
      absurd (let on' = on.0 in cc (off, on'))
  alone-found R q stop (line name x) p v ts rest a e i = alone-found R q stop x (in-place l tails f name x p).4 v ts rest a e i
  alone-found R q stop (both x y) p v ts rest a e i =
      let v₁ = and_both (alone l.heads b stop x) (apart (firsts l.heads y) stop) v in
      let k = alone-found R q stop x p.0 v₁.0 ts e.0 e.1 e.3 i in
      (k.0, k.1, k.2, λ j. ended (nullable y) stop (firsts l.heads y) e.0 rest k.1 (spells-begun l tails f R q y p.1 e.0 rest e.2 e.4) v₁.1 (k.3 j) j)
  alone-found R q stop (either x y) p v ts rest a e i =
      let v₁ = and_both (alone l.heads b stop x) (alone l.heads b stop y) v in
      elim e [ inl h ↦ alone-found R q stop x p.0 v₁.0 ts rest a h i | inr h ↦ alone-found R q stop y p.1 v₁.1 ts rest a h i ]
  alone-found R q stop (fork other x y) p v ts rest a e i =
      let v₁ = and_both (alone l.heads b stop x) (alone l.heads b stop y) v in
      elim e [ inl h ↦ alone-found R q stop x p.0 v₁.0 ts rest a h i | inr h ↦ alone-found R q stop y p.1 v₁.1 ts rest a h i ]
  alone-found R q stop (many more x) p v ts rest a e i = absurd (cc (v))
  alone-found R q stop (named name x) p v ts rest a e i = alone-found R q stop x p v ts rest e.0 e.1 i
  alone-found R q stop (prefer kinds x) p v ts rest a e i = absurd (cc (v))
  alone-found R q stop (starting test x) p v ts rest a e i = alone-found R q stop x p v ts rest a e.1 i
  alone-found R q stop (on test x y z) p v ts rest a e i =
      let v₁ = and_both (alone l.heads b stop x) (apart (firsts l.heads y ++ firsts l.heads z) stop) v in
      let k = alone-found R q stop x p.0 v₁.0 ts e.0 e.1 e.3 i in
      let begun = choice-begun l (firsts l.heads y) (firsts l.heads z) (nullable y) (nullable z) (test e.1) (Spells l R y) (Spells l R z) e.0 rest e.2 e.4
      (λ c. spells-begun l tails f R q y p.1 e.0 rest e.2 c) (λ c. spells-begun l tails f R q z p.2 e.0 rest e.2 c) in
      (k.0, k.1, k.2, λ j. ended true stop (firsts l.heads y ++ firsts l.heads z) e.0 rest k.1 begun v₁.1 (k.3 j) j)

  -- the rule of the brackets, or a name
  abbrev pub Headed : (ℕ → Relation A) → List A → List A → Type 0
  Headed R ts mid = ((c : Tree A) × R b.listed ts mid c) ⊎ ((t : A) × (ts ≡ t ∷ mid) × (among b.names (l.kind t) ≡ true))

  pub head-found : (R : ℕ → Relation A) → (x : Grammar A) → is_head b x ≡ true → (ts rest : List A) (a : Tree A) → Spells l R x ts rest a → Headed R ts rest
  unfolding Spells is_head
  head-found R empty v ts rest a e = absurd (cc (v))
  head-found R (token kinds) v ts rest a e = inr (e.0, e.1, covers-tells b.names kinds (l.kind e.0) v e.2)
  head-found R (call name) v ts rest a e = inl (a, subst (λ n. R n ts rest a) (eqb-true name b.listed v) e)
  head-found R (line name x) v ts rest a e = absurd (cc (v))
  head-found R (both x y) v ts rest a e = absurd (cc (v))
  head-found R (either x y) v ts rest a e =
      let v₁ = and_both (is_head b x) (is_head b y) v in
      elim e [ inl h ↦ head-found R x v₁.0 ts rest a h | inr h ↦ head-found R y v₁.1 ts rest a h ]
  head-found R (fork other x y) v ts rest a e = absurd (cc (v))
  head-found R (many more x) v ts rest a e = absurd (cc (v))
  head-found R (named name x) v ts rest a e = head-found R x v ts rest e.0 e.1
  head-found R (prefer kinds x) v ts rest a e = absurd (cc (v))
  head-found R (starting test x) v ts rest a e = absurd (cc (v))
  head-found R (on test x y z) v ts rest a e = absurd (cc (v))

  pub before-found : (R : ℕ → Relation A) → ((n : ℕ) → Begins l (l.heads n) false (R n)) → (stop : List ℕ) (x : Grammar A) → InPlace l.rules x → before_stop l.heads b stop x ≡ true
      → (ts rest : List A) (a : Tree A) → Spells l R x ts rest a → (mid : List A) × Headed R ts mid × At l stop mid
  unfolding Spells before_stop InPlace
  before-found R q stop empty p v ts rest a e = absurd (cc (v))
  before-found R q stop (token kinds) p v ts rest a e = absurd (cc (v))
  before-found R q stop (call name) p v ts rest a e = absurd (cc (v))
  before-found R q stop (line name x) p v ts rest a e = before-found R q stop x (in-place l tails f name x p).4 v ts rest a e
  before-found R q stop (both x y) p v ts rest a e = elim (test_was (is_head b x) (and (not (nullable y)) (covers stop (firsts l.heads y))) (before_stop l.heads b stop x) true v) [
    | inl h ↦
        let v₂ = and_both (not (nullable y)) (covers stop (firsts l.heads y)) h.1 in
        let begun = begun-surely l (firsts l.heads y) (nullable y) e.0 rest (not_true (nullable y) v₂.0) (spells-begun l tails f R q y p.1 e.0 rest e.2 e.4) in
        (e.0, head-found R x h.0 ts e.0 e.1 e.3, at-covered l stop (firsts l.heads y) e.0 v₂.1 begun.0)
    | inr h ↦ before-found R q stop x p.0 h.1 ts e.0 e.1 e.3
  ]
  before-found R q stop (either x y) p v ts rest a e = absurd (cc (v))
  before-found R q stop (fork other x y) p v ts rest a e = absurd (cc (v))
  before-found R q stop (many more x) p v ts rest a e = absurd (cc (v))
  before-found R q stop (named name x) p v ts rest a e = before-found R q stop x p v ts rest e.0 e.1
  before-found R q stop (prefer kinds x) p v ts rest a e = absurd (cc (v))
  before-found R q stop (starting test x) p v ts rest a e = before-found R q stop x p v ts rest a e.1
  before-found R q stop (on test x y z) p v ts rest a e = before-found R q stop x p.0 v ts e.0 e.1 e.3

  -- The first reading of a fork ends where the second one meets the telling token.
  pub first-ends : (depth : ℕ) (stop : List ℕ) (x : Grammar A) → InPlace l.rules x → leads l.heads b stop x ≡ true → alone l.heads b stop x ≡ true
      → (ts rest mid : List A) (a : Tree A) → Spells l (Derives l depth) x ts rest a → Headed (Derives l depth) ts mid → At l stop mid → rest ≡ mid
  first-ends depth stop x i v w ts rest mid a one h at = elim h [
    | inl g ↦
        let begun = begun-surely l (l.heads b.listed) false ts mid refl (derives-begun l tails f depth b.listed ts mid g.0 g.1) in
        let opened = at-covered l b.opening (l.heads b.listed) ts o.3 begun.0 in
        let k = leads-found (Derives l depth) (derives-begun l tails f depth) stop x i v ts rest a one opened in
        let same = one-end depth ts k.0 mid k.1 g.0 k.2 g.1 in
        k.3 (ap (λ m. starts l (among stop) m) same ∙ at) ∙ same
    | inr g ↦
        let on : At l b.names ts = ap (λ m. starts l (among b.names) m) g.1 ∙ g.2 in
        let k = alone-found (Derives l depth) (derives-begun l tails f depth) stop x i w ts rest a one on in
        let same : k.1 ≡ mid = let e₁ = k.2 in let e₂ = g.1 in cc (e₁, e₂) in
        k.3 (ap (λ m. starts l (among stop) m) same ∙ at) ∙ same
  ]

  -- No front is read both ways.
  pub fork-apart : (limit depth : ℕ) (stop : List ℕ) (x y : Grammar A) → InPlace l.rules x → InPlace l.rules y → leads l.heads b stop x ≡ true → alone l.heads b stop x ≡ true
      → before_stop l.heads b stop y ≡ true → NotBoth (λ ts. refused l stop (read_at l limit (read l limit depth) x ts)) (read_at l limit (read l limit depth) y)
  fork-apart limit depth stop x y i j v z w ts p q e d =
      let k = refused_ok l stop (read_at l limit (read l limit depth) x ts) p e in
      let one = read_at-sound l (Derives l depth) limit (read l limit depth) (read-sound l limit depth) x ts p k.0 in
      let two = read_at-sound l (Derives l depth) limit (read l limit depth) (read-sound l limit depth) y ts q d in
      let g = before-found (Derives l depth) (derives-begun l tails f depth) stop y j w ts q.1 q.0 two in
      let ends = first-ends depth stop x i v z ts p.1 g.0 p.0 one g.1 g.2 in
      let wrong : starts l (among stop) p.1 ≡ true = ap (λ m. starts l (among stop) m) ends ∙ g.2 in
      let right = k.1 in
      cc (wrong, right)

  pub told-apart : (limit depth : ℕ) (x : Grammar A) → InPlace l.rules x → told l.heads b x ≡ true → Apart l limit (read l limit depth) x
  unfolding Apart told InPlace
  told-apart limit depth empty p v = tt
  told-apart limit depth (token kinds) p v = tt
  told-apart limit depth (call name) p v = tt
  told-apart limit depth (line name x) p v = tt
  told-apart limit depth (both x y) p v =
      let v₁ = and_both (told l.heads b x) (told l.heads b y) v in (told-apart limit depth x p.0 v₁.0, told-apart limit depth y p.1 v₁.1)
  told-apart limit depth (either x y) p v =
      let v₁ = and_both (told l.heads b x) (told l.heads b y) v in (told-apart limit depth x p.0 v₁.0, told-apart limit depth y p.1 v₁.1)
  told-apart limit depth (fork stop x y) p v =
      let v₁ = and_both (and (and (leads l.heads b stop x) (alone l.heads b stop x)) (before_stop l.heads b stop y)) _ v in
      let v₂ = and_both (and (leads l.heads b stop x) (alone l.heads b stop x)) (before_stop l.heads b stop y) v₁.0 in
      let v₄ = and_both (leads l.heads b stop x) (alone l.heads b stop x) v₂.0 in
      let v₃ = and_both (told l.heads b x) (told l.heads b y) v₁.1 in
      (told-apart limit depth x p.0 v₃.0, told-apart limit depth y p.1 v₃.1, fork-apart limit depth stop x y p.0 p.1 v₄.0 v₄.1 v₂.1)
  told-apart limit depth (many more x) p v = told-apart limit depth x p v
  told-apart limit depth (named name x) p v = told-apart limit depth x p v
  told-apart limit depth (prefer kinds x) p v = told-apart limit depth x p v
  told-apart limit depth (starting test x) p v = told-apart limit depth x p v
  told-apart limit depth (on test x y z) p v =
      let v₁ = and_both (told l.heads b x) _ v in
      let v₂ = and_both (told l.heads b y) (told l.heads b z) v₁.1 in
      (told-apart limit depth x p.0 v₁.0, told-apart limit depth y p.1 v₂.0, told-apart limit depth z p.2 v₂.1)

  -- At each fork of each rule no front is read both ways.
  pub all-apart : (limit : ℕ) → AllApart l limit
  all-apart limit depth n = told-apart limit depth (l.rules n) (f n).1 (in-pairs n (l.rules n) refl).2
