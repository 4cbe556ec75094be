-- Where more may nest, what is read stays so, and so does a fault but one of nesting, behind whose token more is read.
use Rattle.std.proofs.Common.{inl, inr, true, false, Bool, ◌⊎◌, ◌≡◌, ℕ, zero, suc, ◌≤◌, ◌<◌, List, [], ◌∷◌, length, Ok, Err, refl, ap, sym, subst, ◌∙◌, arith}
use Rattle.std.proofs.lemmas.Bool.{ltb-true, ltb-false}
use Rattle.std.specs.Prelude.{if◌then◌else◌, ◌==◌, nat_lt}
use Rattle.grammar.specs.Kinds.{among}
use Rattle.grammar.specs.Grammar.{Tree, tip, leaf, pair, node, Grammar, empty, token, call, line, both, either, fork, many, named, prefer, starting, on, starts}
use Rattle.grammar.specs.Reading.{firsts}
use Rattle.grammar.specs.Tests.{InPlace}
use Rattle.grammar.proofs.Laws.{plus}
use Rattle.grammar.proofs.Sets.{and_both, not_true}
use Rattle.grammar.proofs.Free.{free}
use Rattle.js_token.specs.declared.token.Token.{Token}
use Rattle.js_grammar.specs.Script.{script, form, cond_rule}
use Rattle.js_parse.specs.declared.fault.Fault.{Fault}
use Rattle.js_parse.specs.declared.fault.Fault.TheVariants as fault
use Rattle.js_parse.specs.Input.{place_at, later}
use Rattle.parse_laws.proofs.Guided.{Was, Goes, done, called, wrong, too_far, first_of, forked, fault_in, opens_next, many_of, guided, rule_at, guided-continues, many-continues}
use Rattle.parse_laws.proofs.Walk.{language, language-fits, ahead, rule}
use Rattle.parse_laws.proofs.Begun.{rule-stays}
use Rattle.parse_laws.proofs.Scripts.{end_kinds}
use Rattle.parse_laws.proofs.Places.{EndsIn, Within, within-self, ascends-behind, Stands, stands-past, stands-if, many-stand, guided-stands, rule-stands, each-free, Past, fault_place}
use Rattle.parse_laws.proofs.Covered.{Read, onward, onward-by}
use Rattle.parse_laws.proofs.Lockstep.{Fine, fine-behind, past-then}
use Rattle.parse_laws.proofs.Merged.{Forked}
use Rattle.parse_laws.proofs.Agreed.{not-both, err-same}
use Rattle.parse_laws.proofs.Hanging.{Forks, each-forks, each-forked}
use Rattle.parse_laws.proofs.Faults.{called-done_is}
use Rattle.parse_laws.proofs.Prompt.{first-past, Told-so, stands-told, rule-past}

-- ---- two answers

-- The same, or past the token at which the one is too deep.
abbrev pub Grown : Was Token → Was Token → Type 0
Grown x y = ((p : Read) × (x ≡ Ok p) × (y ≡ Ok p))
    ⊎ (((a : ℕ) × (s : Bool) × (x ≡ Err (fault.Token a s)) × (y ≡ Err (fault.Token a s)))
    ⊎ ((a : ℕ) × (x ≡ Err (fault.Deep a)) × Past (suc a) y))

pub grown-if : (b : Bool) (x y u v : Was Token) → Grown x u → Grown y v → Grown (if b then x else y) (if b then u else v)
grown-if true x y u v e f = e
grown-if false x y u v e f = f

pub grown-then : (ts : List Token) (x y : Was Token) (k h : Goes Token Read) → Fine ts → Stands ts x → Stands ts y → Grown x y → ((p : Read) → x ≡ Ok p → Within ts p.1 → Grown (k p.0 p.1) (h p.0 p.1))
    → ((m : List Token) (a : Tree Token) → EndsIn m → Stands m (h a m)) → Grown (called x k) (called y h)
grown-then ts x y k h f v w e n o = elim e [
  | inl d ↦ subst (λ u. Grown u (called y h)) (sym (ap (λ x. called x k) d.1)) (subst (λ u. Grown (k (d.0).0 (d.0).1) u) (sym (ap (λ y. called y h) d.2)) (n d.0 d.1 (subst (Stands ts) d.1 v)))
  | inr e ↦ elim e [
    | inl d ↦ inr (inl (d.0, d.1, ap (λ x. called x k) d.2, ap (λ y. called y h) d.3))
    | inr d ↦ inr (inr (d.0, ap (λ x. called x k) d.1, past-then ts (suc d.0) y h w (λ a l w. stands-past l (h a l) (ascends-behind w.0 ts l w.1 f.0) (o l a w.2)) d.2))
  ]
]

-- ---- forks

pub past-fault_in : (p : ℕ) (w : Was Token) → Past p w → p ≤ fault_place (fault_in w)
past-fault_in p (Ok q) e = e
past-fault_in p (Err f) e = e

-- the later of a fault and of what stands further
pub later-further : (p a : ℕ) (e : Fault) → a < p → p ≤ fault_place e → p ≤ fault_place (later a e)
later-further p a (fault.Token b s) less le = by (nat_lt a b) refl
  where
    by : (c : Bool) → nat_lt a b ≡ c → p ≤ fault_place (if c then fault.Token b true else fault.Token a true)
    by true c = le
    by false c = let more = ltb-false a b c in absurd (omega (arith, more, less, le))
later-further p a (fault.Deep b) less le = by (nat_lt b a) refl
  where
    by : (c : Bool) → nat_lt b a ≡ c → p ≤ fault_place (if c then fault.Token a true else fault.Deep b)
    by true c = let more = ltb-true b a c in absurd (omega (arith, more, less, le))
    by false c = le
later-further p a fault.Memory less le = absurd (omega (arith, less, le))

-- The first of two is read first.
pub first-grown : (x y u v : Was Token) → Told-so v → Grown x u → Grown y v → ((a b : ℕ) → x ≡ Err (fault.Token a false) → y ≡ Err (fault.Deep b) → a ≤ b) → Grown (first_of x y) (first_of u v)
first-grown x y u v t e f o = elim e [
  | inl d ↦ inl (d.0, ap (λ x. first_of x y) d.1, ap (λ u. first_of u v) d.2)
  | inr e ↦ elim e [
    | inl d ↦ by d.0 d.1 d.2 d.3
    | inr d ↦ inr (inr (d.0, ap (λ x. first_of x y) d.1, first-past (suc d.0) u v d.2 t))
  ]
]
  where
    told : (a : ℕ) (w z : Was Token) → fault_in w ≡ fault_in z → (b : ℕ) (s : Bool) → fault_in w ≡ fault.Token b s
        → (c : ℕ) × (q : Bool) × (later a (fault_in w) ≡ fault.Token c q) × (later a (fault_in z) ≡ fault.Token c q)
    told a w z n b s m = pick (nat_lt a b) (ap (λ e. later a e) m) (ap (λ e. later a e) (sym n ∙ m))
      where
        pick : (c : Bool) → later a (fault_in w) ≡ (if c then fault.Token b true else fault.Token a true) → later a (fault_in z) ≡ (if c then fault.Token b true else fault.Token a true)
            → (d : ℕ) × (q : Bool) × (later a (fault_in w) ≡ fault.Token d q) × (later a (fault_in z) ≡ fault.Token d q)
        pick true i j = (b, true, i, j)
        pick false i j = (a, true, i, j)

    by : (a : ℕ) (s : Bool) → x ≡ Err (fault.Token a s) → u ≡ Err (fault.Token a s) → Grown (first_of x y) (first_of u v)
    by a true p q = inr (inl (a, true, ap (λ x. first_of x y) p, ap (λ u. first_of u v) q))
    by a false p q = elim f [
      | inl d ↦
          let k = told a y v (ap (λ y. fault_in y) d.1 ∙ sym (ap (λ v. fault_in v) d.2)) (place_at (d.0).1) false (ap (λ y. fault_in y) d.1) in
          inr (inl (k.0, k.1, ap (λ x. first_of x y) p ∙ ap (λ e. Err e) k.2, ap (λ u. first_of u v) q ∙ ap (λ e. Err e) k.3))
      | inr f ↦ elim f [
        | inl d ↦
            let k = told a y v (ap (λ y. fault_in y) d.2 ∙ sym (ap (λ v. fault_in v) d.3)) d.0 d.1 (ap (λ y. fault_in y) d.2) in
            inr (inl (k.0, k.1, ap (λ x. first_of x y) p ∙ ap (λ e. Err e) k.2, ap (λ u. first_of u v) q ∙ ap (λ e. Err e) k.3))
        | inr d ↦
            let le = o a d.0 p d.1 in
            inr (inr (
              d.0,
              ap (λ x. first_of x y) p ∙ ap (λ y. Err (later a (fault_in y))) d.1 ∙ ap (λ e. Err e) (deep a d.0 le),
              subst (Past (suc d.0)) (sym (ap (λ u. first_of u v) q)) (later-further (suc d.0) a (fault_in v) (omega (arith, le)) (past-fault_in (suc d.0) v d.2)),
            ))
      ]
    ]
      where
        deep : (a b : ℕ) → a ≤ b → later a (fault.Deep b) ≡ fault.Deep b
        deep a b le = pick (nat_lt b a) refl
          where
            pick : (c : Bool) → nat_lt b a ≡ c → (if c then fault.Token a true else fault.Deep b) ≡ fault.Deep b
            pick true c = absurd (let less = ltb-true b a c in omega (arith, less, le))
            pick false c = refl

-- Neither reading is too deep before the other is refused.
pub fork-order : (ts : List Token) (x y : Was Token) → Forked ts x y → ((a b : ℕ) → x ≡ Err (fault.Token a false) → y ≡ Err (fault.Deep b) → a ≤ b) × ((a b : ℕ) → y ≡ Err (fault.Token a false) → x ≡ Err (fault.Deep b) → a ≤ b)
fork-order ts x y q = (
  λ a b e f. elim q [
    | inl h ↦
        let same : fault.Token a false ≡ wrong h.0 = err-same (fault.Token a false) (wrong h.0) x e h.1 in
        let at : a ≡ place_at h.0 = ap (λ e. fault_place e) same in
        let le : place_at h.0 ≤ b = subst (Past (place_at h.0)) f h.2 in
        omega (arith, at, le)
    | inr q ↦ elim q [
      | inl h ↦ absurd (let k = err-same (fault.Deep b) (wrong h.0) y f h.1 in cc (k))
      | inr q ↦ elim q [
        | inl h ↦ absurd (let k = err-same (fault.Token a false) h.0 x e h.1 in let l = err-same (fault.Deep b) h.0 y f h.2 in cc (k, l))
        | inr h ↦ not-both (fault.Token a false) h.0 x e h.1
      ]
    ]
  ],
  λ a b e f. elim q [
    | inl h ↦ absurd (let k = err-same (fault.Deep b) (wrong h.0) x f h.1 in cc (k))
    | inr q ↦ elim q [
      | inl h ↦
          let same : fault.Token a false ≡ wrong h.0 = err-same (fault.Token a false) (wrong h.0) y e h.1 in
          let at : a ≡ place_at h.0 = ap (λ e. fault_place e) same in
          let le : place_at h.0 ≤ b = subst (Past (place_at h.0)) f h.2 in
          omega (arith, at, le)
      | inr q ↦ elim q [
        | inl h ↦ absurd (let k = err-same (fault.Token a false) h.0 y e h.2 in let l = err-same (fault.Deep b) h.0 x f h.1 in cc (k, l))
        | inr h ↦ not-both (fault.Deep b) h.0 x f h.1
      ]
    ]
  ],
)

pub fork-grown : (c a : Bool) (ts : List Token) (x y u v : Was Token) → Forked ts x y → Told-so u → Told-so v → Grown x u → Grown y v → Grown (forked c a x y) (forked c a u v)
fork-grown true true ts x y u v q m n e f = first-grown y x v u m f e (fork-order ts x y q).1
fork-grown true false ts x y u v q m n e f = first-grown x y u v n e f (fork-order ts x y q).0
fork-grown false true ts x y u v q m n e f = f
fork-grown false false ts x y u v q m n e f = e

-- ---- right sides

module _ (d e : ℕ) (h : (n : ℕ) → (n == script) ≡ false → (ts : List Token) → Fine ts → Grown (rule d n ts) (rule e n ts)) where
  abbrev pub low : Grammar Token → List Token → Was Token
  low x ts = guided language ahead (rule d) x ts done

  abbrev pub high : Grammar Token → List Token → Was Token
  high x ts = guided language ahead (rule e) x ts done

  abbrev pub So : Grammar Token → Type 0
  So x = (ts : List Token) → Fine ts → Grown (low x ts) (high x ts)

  pub low-stands : (x : Grammar Token) → InPlace language.rules x → free end_kinds script x ≡ true → (ts : List Token) → EndsIn ts → Stands ts (low x ts)
  low-stands x i v ts w = guided-stands (rule d) (rule-stands d) x i v ts w

  pub high-stands : (x : Grammar Token) → InPlace language.rules x → free end_kinds script x ≡ true → (ts : List Token) → EndsIn ts → Stands ts (high x ts)
  high-stands x i v ts w = guided-stands (rule e) (rule-stands e) x i v ts w

  -- behind a part
  pub behind-grown : (x : Grammar Token) → InPlace language.rules x → free end_kinds script x ≡ true → So x → (ts : List Token) → Fine ts → (k l : Goes Token Read)
      → ((p : Read) → low x ts ≡ Ok p → Within ts p.1 → Grown (k p.0 p.1) (l p.0 p.1)) → ((m : List Token) (a : Tree Token) → EndsIn m → Stands m (l a m))
      → Grown (guided language ahead (rule d) x ts k) (guided language ahead (rule e) x ts l)
  behind-grown x i v s ts f k l n o =
      subst (λ u. Grown u (guided language ahead (rule e) x ts l)) (sym (guided-continues language ahead (rule d) Read x ts k))
      (subst (λ u. Grown (called (low x ts) k) u) (sym (guided-continues language ahead (rule e) Read x ts l))
      (grown-then ts (low x ts) (high x ts) k l f (low-stands x i v ts f.1) (high-stands x i v ts f.1) (s ts f) n o))

  pub wrap-grown : (y : Grammar Token) → InPlace language.rules y → free end_kinds script y ≡ true → So y → (f : Tree Token → Tree Token) (m : List Token) → Fine m
      → Grown (guided language ahead (rule d) y m (λ b r. done (f b) r)) (guided language ahead (rule e) y m (λ b r. done (f b) r))
  wrap-grown y i v s f m w = behind-grown y i v s m w (λ b r. done (f b) r) (λ b r. done (f b) r) (λ p q u. inl ((f p.0, p.1), refl, refl)) (λ r b w. within-self r w)

  pub part-stands : (y : Grammar Token) → InPlace language.rules y → free end_kinds script y ≡ true → (f : Tree Token → Tree Token) (m : List Token) → EndsIn m
      → Stands m (guided language ahead (rule e) y m (λ b r. done (f b) r))
  part-stands y i v f m w = onward-by e y i v m m (within-self m w) _ (λ b r u. u)

  pub many-grown : (test : ℕ → Bool) (more : Tree Token → Bool) (x : Grammar Token) → InPlace language.rules x → free end_kinds script x ≡ true → So x → (n : ℕ) (ts : List Token) → Fine ts
      → Grown (many_of language test more (guided language ahead (rule d) x) n ts done) (many_of language test more (guided language ahead (rule e) x) n ts done)
  unfolding many_of
  many-grown test more x i v s zero ts f = inl ((tip, ts), refl, refl)
  many-grown test more x i v s (suc n) ts f =
      grown-if (starts language test ts) _ (done tip ts) _ (done tip ts)
      (behind-grown x i v s ts f (λ a rest. if more a then many_of language test more g n rest (λ b end. done (pair a b) end) else done (pair a tip) rest)
      (λ a rest. if more a then many_of language test more g' n rest (λ b end. done (pair a b) end) else done (pair a tip) rest)
      (λ p q u. grown-if (more p.0) _ (done (pair p.0 tip) p.1) _ (done (pair p.0 tip) p.1) (next p (fine-behind ts p.1 f u) (many-grown test more x i v s n p.1 (fine-behind ts p.1 f u))) (inl ((pair p.0 tip, p.1), refl, refl)))
      (λ m a w. stands-if (more a) m _ (done (pair a tip) m) (rest-stands a m w) (within-self m w)))
      (inl ((tip, ts), refl, refl))
    where
      g : List Token → Goes Token Read → Was Token
      g = guided language ahead (rule d) x

      g' : List Token → Goes Token Read → Was Token
      g' = guided language ahead (rule e) x

      con : (us : List Token) (k : Goes Token Read) → g us k ≡ called (g us done) k
      con us k = guided-continues language ahead (rule d) Read x us k

      con' : (us : List Token) (k : Goes Token Read) → g' us k ≡ called (g' us done) k
      con' us k = guided-continues language ahead (rule e) Read x us k

      split : (m : List Token) (a : Tree Token) → many_of language test more g n m (λ b end. done (pair a b) end) ≡ called (many_of language test more g n m done) (λ b end. done (pair a b) end)
      split m a = many-continues language Read test more g g con con n m (λ b end. done (pair a b) end)

      split' : (m : List Token) (a : Tree Token) → many_of language test more g' n m (λ b end. done (pair a b) end) ≡ called (many_of language test more g' n m done) (λ b end. done (pair a b) end)
      split' m a = many-continues language Read test more g' g' con' con' n m (λ b end. done (pair a b) end)

      stand : (m : List Token) → EndsIn m → Stands m (many_of language test more g n m done)
      stand m w = many-stand (rule d) (rule-stands d) test more x (guided-stands (rule d) (rule-stands d) x i v) n m w

      stand' : (m : List Token) → EndsIn m → Stands m (many_of language test more g' n m done)
      stand' m w = many-stand (rule e) (rule-stands e) test more x (guided-stands (rule e) (rule-stands e) x i v) n m w

      rest-stands : (a : Tree Token) (m : List Token) → EndsIn m → Stands m (many_of language test more g' n m (λ b end. done (pair a b) end))
      rest-stands a m w = subst (Stands m) (sym (split' m a)) (onward m m (within-self m w) (many_of language test more g' n m done) (λ b end. done (pair a b) end) (stand' m w) (λ b l u. u))

      next : (p : Read) → Fine p.1 → Grown (many_of language test more g n p.1 done) (many_of language test more g' n p.1 done)
          → Grown (many_of language test more g n p.1 (λ b end. done (pair p.0 b) end)) (many_of language test more g' n p.1 (λ b end. done (pair p.0 b) end))
      next p w k =
          subst (λ u. Grown u (many_of language test more g' n p.1 (λ b end. done (pair p.0 b) end))) (sym (split p.1 p.0))
          (subst (λ u. Grown (called (many_of language test more g n p.1 done) (λ b end. done (pair p.0 b) end)) u) (sym (split' p.1 p.0))
          (grown-then p.1 (many_of language test more g n p.1 done) (many_of language test more g' n p.1 done) (λ b end. done (pair p.0 b) end) (λ b end. done (pair p.0 b) end) w (stand p.1 w.1) (stand' p.1 w.1) k
          (λ q o u. inl ((pair p.0 q.0, q.1), refl, refl)) (λ m b u. within-self m u)))

  pub guided-grown : (x : Grammar Token) → InPlace language.rules x → free end_kinds script x ≡ true → Forks x → So x
  unfolding guided InPlace free Forks
  guided-grown empty i v k ts f = inl ((tip, ts), refl, refl)
  guided-grown (token kinds) i v k [] f = absurd f.1
  guided-grown (token kinds) i v k (t ∷ ts) f = grown-if (among kinds (language.kind t)) (done (leaf t) ts) (Err (wrong (t ∷ ts))) (done (leaf t) ts) (Err (wrong (t ∷ ts)))
      (inl ((leaf t, ts), refl, refl)) (inr (inl (t.place, false, refl, refl)))
  guided-grown (call name) i v k ts f =
      subst (λ u. Grown u (called (rule e name ts) done)) (sym (called-done_is (rule d name ts))) (subst (λ u. Grown (rule d name ts) u) (sym (called-done_is (rule e name ts))) (h name (not_true (name == script) v) ts f))
  guided-grown (line name x) i v k ts f =
      guided-grown x (subst (InPlace language.rules) (sym i) (language-fits name).1) (subst (λ y. free end_kinds script y ≡ true) (sym i) (each-free name (not_true (name == script) v))) (subst Forks (sym i) (each-forks name)) ts f
  guided-grown (both x y) i v k ts f =
      let v₁ = and_both (free end_kinds script x) (free end_kinds script y) v in
      behind-grown x i.0 v₁.0 (guided-grown x i.0 v₁.0 k.0) ts f (λ a mid. guided language ahead (rule d) y mid (λ b rest. done (pair a b) rest)) (λ a mid. guided language ahead (rule e) y mid (λ b rest. done (pair a b) rest))
      (λ p q u. wrap-grown y i.1 v₁.1 (guided-grown y i.1 v₁.1 k.1) (λ b. pair p.0 b) p.1 (fine-behind ts p.1 f u)) (λ m a w. part-stands y i.1 v₁.1 (λ b. pair a b) m w)
  guided-grown (either x y) i v k ts f =
      let v₁ = and_both (free end_kinds script x) (free end_kinds script y) v in
      grown-if (starts language (among (firsts language.heads x)) ts) (low x ts) (low y ts) (high x ts) (high y ts) (guided-grown x i.0 v₁.0 k.0 ts f) (guided-grown y i.1 v₁.1 k.1 ts f)
  guided-grown (fork stop x y) i v k ts f =
      let v₁ = and_both (free end_kinds script x) (free end_kinds script y) v in
      let b = (k.0).0 in
      let q : Forked ts (low x ts) (low y ts) =
      subst (λ x. Forked ts (low x ts) (low y ts)) (sym (k.0).1) (subst (λ y. Forked ts (low (line (form b 42) (cond_rule b)) ts) (low y ts)) (sym (k.0).2) (each-forked d b ts f)) in
      let x-grown = guided-grown x i.0 v₁.0 k.1 ts f in
      let y-grown = guided-grown y i.1 v₁.1 k.2 ts f in
      grown-if (starts language (among (firsts language.heads x)) ts) _ (low x ts) _ (high x ts)
      (subst (λ u. Grown u (called (forked (opens_next ts) (ahead ts) (high x ts) (high y ts)) done)) (sym (called-done_is (forked (opens_next ts) (ahead ts) (low x ts) (low y ts))))
      (subst (λ u. Grown (forked (opens_next ts) (ahead ts) (low x ts) (low y ts)) u) (sym (called-done_is (forked (opens_next ts) (ahead ts) (high x ts) (high y ts))))
      (fork-grown (opens_next ts) (ahead ts) ts (low x ts) (low y ts) (high x ts) (high y ts) q (stands-told ts (high x ts) (high-stands x i.0 v₁.0 ts f.1)) (stands-told ts (high y ts) (high-stands y i.1 v₁.1 ts f.1)) x-grown y-grown)))
      x-grown
  guided-grown (many more x) i v k ts f = many-grown (among (firsts language.heads x)) more x i v (guided-grown x i v k) (length ts) ts f
  guided-grown (named name x) i v k ts f = wrap-grown x i v (guided-grown x i v k) (λ a. node name a) ts f
  guided-grown (prefer kinds x) i v k ts f = grown-if (starts language (among kinds) ts) (low x ts) (done tip ts) (high x ts) (done tip ts) (guided-grown x i v k ts f) (inl ((tip, ts), refl, refl))
  guided-grown (starting test x) i v k ts f =
      grown-if (starts language test ts) (low x ts) (Err (wrong ts)) (high x ts) (Err (wrong ts)) (guided-grown x i v k ts f) (inr (inl (place_at ts, false, refl, refl)))
  guided-grown (on test x y z) i v k ts f =
      let v₁ = and_both (free end_kinds script x) _ v in
      let v₂ = and_both (free end_kinds script y) (free end_kinds script z) v₁.1 in
      behind-grown x i.0 v₁.0 (guided-grown x i.0 v₁.0 k.0) ts f
      (λ a mid. if test a then guided language ahead (rule d) y mid (λ b rest. done (pair a b) rest) else guided language ahead (rule d) z mid (λ b rest. done (pair a b) rest))
      (λ a mid. if test a then guided language ahead (rule e) y mid (λ b rest. done (pair a b) rest) else guided language ahead (rule e) z mid (λ b rest. done (pair a b) rest))
      (λ p q u. grown-if (test p.0) _ _ _ _ (wrap-grown y i.1 v₂.0 (guided-grown y i.1 v₂.0 k.1) (λ b. pair p.0 b) p.1 (fine-behind ts p.1 f u)) (wrap-grown z i.2 v₂.1 (guided-grown z i.2 v₂.1 k.2) (λ b. pair p.0 b) p.1 (fine-behind ts p.1 f u)))
      (λ m a w. stands-if (test a) m _ _ (part-stands y i.1 v₂.0 (λ b. pair a b) m w) (part-stands z i.2 v₂.1 (λ b. pair a b) m w))

-- Each rule, where two levels more may nest.
pub rule-grown : (depth n : ℕ) → (n == script) ≡ false → (ts : List Token) → Fine ts → Grown (rule depth n ts) (rule (plus 2 depth) n ts)
unfolding rule_at plus
rule-grown zero n o ts f = by (starts language (among (language.heads n)) ts) refl
  where
    by : (b : Bool) → starts language (among (language.heads n)) ts ≡ b → Grown (Err (too_far b ts)) (rule 2 n ts)
    by true b = inr (inr (place_at ts, refl, rule-past 0 n o ts f b))
    by false b = inr (inl (place_at ts, false, refl, rule-stays 2 n ts b))
rule-grown (suc depth) n o ts f = guided-grown depth (plus 2 depth) (rule-grown depth) (language.rules n) (language-fits n).1 (each-free n o) (each-forks n) ts f
