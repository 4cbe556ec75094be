-- The guided reader answers what the reader of the grammar answers, its faults too.
use Rattle.std.proofs.Common.{inl, inr, true, false, Bool, ◌⊎◌, ◌≡◌, ℕ, ◌≤◌, List, Ok, Err, refl, ap, sym, subst, ◌∙◌, arith}
use Rattle.std.specs.Prelude.{if◌then◌else◌, ◌||◌}
use Rattle.grammar.specs.Kinds.{among}
use Rattle.grammar.specs.Grammar.{Tree, starts}
use Rattle.grammar.specs.Reading.{Answer, ◌>>=◌, further, furthest, refused}
use Rattle.grammar.proofs.Sets.{is_or_not}
use Rattle.js_token.specs.declared.token.Token.{Token}
use Rattle.js_grammar.specs.Script.{arrow_kinds}
use Rattle.js_parse.specs.declared.fault.Fault.{Fault}
use Rattle.js_parse.specs.declared.fault.Fault.TheVariants as fault
use Rattle.js_parse.specs.Input.{place_at}
use Rattle.parse_laws.proofs.Guided.{Was, Goes, done, called, ok_same, wrong, first_of, forked, fault_in}
use Rattle.parse_laws.proofs.Walk.{language, ahead}
use Rattle.parse_laws.proofs.Places.{Within, within-more, Ascends, further-first_place, further-second_place, fault_at, Past, fault_place}
use Rattle.parse_laws.proofs.Covered.{Read}
use Rattle.parse_laws.proofs.Lockstep.{Fine}
use Rattle.parse_laws.proofs.Merged.{merge-first, merge-second, merge-same, Forked}

-- ---- what both answer

-- Both read the same, or both have the fault, or the one stands before an arrow at which the other has the fault.
abbrev pub Agrees : Bool → List Token → Was Token → Answer Token → Type 0
Agrees hangs ts g r = ((p : Read) × (g ≡ Ok p) × (r ≡ Ok p) × Within ts p.1)
    ⊎ (((hangs ≡ true) × (p : Read) × (g ≡ Ok p) × (r ≡ Err (false, p.1)) × Within ts p.1 × (starts language (among arrow_kinds) p.1 ≡ true))
    ⊎ ((deep sure : Bool) × (left : List Token) × (g ≡ Err (fault_at deep sure left)) × (r ≡ Err (deep, left)) × Within ts left))

pub agrees-more : (a b : Bool) → (a ≡ true → b ≡ true) → (ts : List Token) (g : Was Token) (r : Answer Token) → Agrees a ts g r → Agrees b ts g r
agrees-more a b h ts g r e = elim e [
  | inl d ↦ inl d
  | inr d ↦ elim d [ inl d ↦ inr (inl (h d.0, d.1, d.2, d.3, d.4, d.5)) | inr d ↦ inr (inr d) ]
]

pub agrees-if : (h b : Bool) (ts : List Token) (x y : Was Token) (u v : Answer Token) → Agrees h ts x u → Agrees h ts y v → Agrees h ts (if b then x else y) (if b then u else v)
agrees-if h true ts x y u v e f = e
agrees-if h false ts x y u v e f = f

-- what goes on behind both
pub agrees-then : (h k : Bool) (ts : List Token) (g : Was Token) (r : Answer Token) (f : Goes Token Read) (c : Read → Answer Token) → Agrees k ts g r
    → ((p : Read) → g ≡ Ok p → Within ts p.1 → Agrees h ts (f p.0 p.1) (c p))
    → ((p : Read) → k ≡ true → Within ts p.1 → starts language (among arrow_kinds) p.1 ≡ true → (f p.0 p.1 ≡ Err (wrong p.1)) ⊎ ((h ≡ true) × (a : Tree Token) × (f p.0 p.1 ≡ Ok (a, p.1))))
    → Agrees h ts (called g f) (r >>= c)
agrees-then h k ts g r f c e s o = elim e [
  | inl d ↦ subst (λ u. Agrees h ts (called u f) (r >>= c)) (sym d.1) (subst (λ u. Agrees h ts (f (d.0).0 (d.0).1) (u >>= c)) (sym d.2) (s d.0 d.1 d.3))
  | inr e ↦ elim e [
    | inl d ↦
        let g' : called g f ≡ f (d.1).0 (d.1).1 = ap (λ u. called u f) d.2 in
        let r' : (r >>= c) ≡ Err (false, (d.1).1) = ap (λ u. u >>= c) d.3 in
        elim (o d.1 d.0 d.4 d.5) [
          | inl w ↦ inr (inr (false, false, (d.1).1, g' ∙ w, r', d.4))
          | inr w ↦ inr (inl (w.0, (w.1, (d.1).1), g' ∙ w.2, r', d.4, d.5))
        ]
    | inr d ↦ inr (inr (d.0, d.1, d.2, ap (λ u. called u f) d.3, ap (λ u. u >>= c) d.4, d.5))
  ]
]

-- another tree, within a longer list
pub agrees-wrap : (h k : Bool) → (k ≡ true → h ≡ true) → (ts m : List Token) → Within ts m → (g : Was Token) (r : Answer Token) (f : Tree Token → Tree Token) → Agrees k m g r
    → Agrees h ts (called g (λ b l. done (f b) l)) (r >>= λ q. Ok (f q.0, q.1))
agrees-wrap h k more ts m w g r f e = elim e [
  | inl d ↦ inl ((f (d.0).0, (d.0).1), ap (λ u. called u (λ b l. done (f b) l)) d.1, ap (λ u. u >>= λ q. Ok (f q.0, q.1)) d.2, within-more ts m (d.0).1 w d.3)
  | inr e ↦ elim e [
    | inl d ↦ inr (inl (more d.0, (f (d.1).0, (d.1).1), ap (λ u. called u (λ b l. done (f b) l)) d.2, ap (λ u. u >>= λ q. Ok (f q.0, q.1)) d.3, within-more ts m (d.1).1 w d.4, d.5))
    | inr d ↦ inr (inr (d.0, d.1, d.2, ap (λ u. called u (λ b l. done (f b) l)) d.3, ap (λ u. u >>= λ q. Ok (f q.0, q.1)) d.4, within-more ts m d.2 w d.5))
  ]
]

-- ---- forks

pub fault-placed : (d s : Bool) (l : List Token) → fault_place (fault_at d s l) ≡ place_at l
fault-placed true s l = refl
fault-placed false s l = refl

-- A fault told so is not one of nesting.
pub wrong-is : (d s : Bool) (l k : List Token) → fault_at d s l ≡ wrong k → (d ≡ false) × (s ≡ false) × (place_at l ≡ place_at k)
wrong-is true s l k e = absurd (cc (e))
wrong-is false s l k e = (refl, sure e, ap (λ e. fault_place e) e)
  where
    is_sure : Fault → Bool
    is_sure (fault.Token at sure) = sure
    is_sure _ = false

    sure : fault_at false s l ≡ wrong k → s ≡ false
    sure e = ap (λ e. is_sure e) e

pub fault-is : (d s : Bool) (l : List Token) (b t : Bool) (k : List Token) → fault_at d s l ≡ fault_at b t k → (d ≡ b) × (place_at l ≡ place_at k)
fault-is true s l true t k e = (refl, ap (λ e. fault_place e) e)
fault-is true s l false t k e = absurd (cc (e))
fault-is false s l true t k e = absurd (cc (e))
fault-is false s l false t k e = (refl, ap (λ e. fault_place e) e)

pub err-same : (e f : Fault) (w : Was Token) → w ≡ Err e → w ≡ Err f → e ≡ f
err-same e f w p q = let k : ◌≡◌ {A = Was Token} (Err e) (Err f) = sym p ∙ q in cc (k)

pub not-both : {B : Type 0} (e : Fault) (p : Read) (w : Was Token) → w ≡ Err e → w ≡ Ok p → B
not-both e p w a b = absurd (let k : ◌≡◌ {A = Was Token} (Err e) (Ok p) = sym a ∙ b in cc (k))

pub past-fault : (p : ℕ) (w : Was Token) (d s : Bool) (l : List Token) → w ≡ Err (fault_at d s l) → Past p w → p ≤ place_at l
past-fault p w d s l e past = let k : p ≤ fault_place (fault_at d s l) = subst (Past p) e past in let same = fault-placed d s l in omega (arith, k, same)

pub past-read : (p : ℕ) (w : Was Token) (q : Read) → w ≡ Ok q → Past p w → p ≤ place_at q.1
past-read p w q e past = subst (Past p) e past

pub or-false : (d : Bool) → (d || false) ≡ d
or-false true = refl
or-false false = refl

pub or-same : (d : Bool) → (d || d) ≡ d
or-same true = refl
or-same false = refl

-- the first reading, where no arrow may stand behind it
abbrev pub Refused : List Token → Was Token → Answer Token → Type 0
Refused ts x w = ((p : Read) × (x ≡ Ok p) × (w ≡ Ok p) × (starts language (among arrow_kinds) p.1 ≡ false) × Within ts p.1)
    ⊎ (((p : Read) × (x ≡ Ok p) × (w ≡ Err (false, p.1)) × (starts language (among arrow_kinds) p.1 ≡ true) × Within ts p.1)
    ⊎ ((d s : Bool) × (l : List Token) × (x ≡ Err (fault_at d s l)) × (w ≡ Err (d, l)) × Within ts l))

pub refused-read : (p : Read) (b : Bool) → starts language (among arrow_kinds) p.1 ≡ b → refused language arrow_kinds (Ok p) ≡ (if b then Err (false, p.1) else Ok p)
refused-read p b e = ap (λ b. if b then Err (false, p.1) else Ok (p.0, p.1)) e

pub refused-so : (h : Bool) (ts : List Token) (x : Was Token) (u : Answer Token) → Agrees h ts x u → Refused ts x (refused language arrow_kinds u)
refused-so h ts x u e = elim e [
  | inl d ↦ elim (is_or_not (starts language (among arrow_kinds) (d.0).1)) [
    | inl b ↦ inr (inl (d.0, d.1, ap (refused language arrow_kinds) d.2 ∙ refused-read d.0 true b, b, d.3))
    | inr b ↦ inl (d.0, d.1, ap (refused language arrow_kinds) d.2 ∙ refused-read d.0 false b, b, d.3)
  ]
  | inr e ↦ elim e [
    | inl d ↦ inr (inl (d.1, d.2, ap (refused language arrow_kinds) d.3, d.5, d.4))
    | inr d ↦ inr (inr (d.0, d.1, d.2, d.3, ap (refused language arrow_kinds) d.4, d.5))
  ]
]

pub both-faults : (w v : Answer Token) (d b : Bool) (l k : List Token) → w ≡ Err (d, l) → v ≡ Err (b, k) → furthest w v ≡ Err (d || b, further l k)
both-faults w v d b l k e f = ap (λ w. furthest w v) e ∙ ap (λ v. furthest (Err (d, l)) v) f

-- the fault of the one or of the other
pub told-second : (ts : List Token) (w v : Answer Token) (d b : Bool) (l k : List Token) → Ascends ts → w ≡ Err (d, l) → v ≡ Err (b, k) → Within ts l → Within ts k → d ≡ false → place_at l ≤ place_at k
    → furthest w v ≡ Err (b, k)
told-second ts w v d b l k up e f i j n le =
    both-faults w v d b l k e f ∙ ap (λ d. Err (d || b, further l k)) n ∙ ap (λ m. Err (b, m)) (further-second_place ts l k up i j le)

pub told-first : (ts : List Token) (w v : Answer Token) (d b : Bool) (l k : List Token) → Ascends ts → w ≡ Err (d, l) → v ≡ Err (b, k) → Within ts l → Within ts k → b ≡ false → place_at k ≤ place_at l
    → furthest w v ≡ Err (d, l)
told-first ts w v d b l k up e f i j n le =
    both-faults w v d b l k e f ∙ ap (λ b. Err (d || b, further l k)) n ∙ ap (λ d. Err (d, further l k)) (or-false d) ∙ ap (λ m. Err (d, m)) (further-first_place ts l k up i j le)

pub told-same : (ts : List Token) (w v : Answer Token) (d b : Bool) (l k : List Token) → Ascends ts → w ≡ Err (d, l) → v ≡ Err (b, k) → Within ts l → Within ts k → d ≡ b → place_at l ≡ place_at k
    → furthest w v ≡ Err (b, k)
told-same ts w v d b l k up e f i j n same =
    both-faults w v d b l k e f ∙ ap (λ d. Err (d || b, further l k)) n ∙ ap (λ d. Err (d, further l k)) (or-same b)
    ∙ ap (λ m. Err (b, m)) (further-second_place ts l k up i j (let s = same in omega (arith, s)))

pub told-alike : (ts : List Token) (w v : Answer Token) (d b : Bool) (l k : List Token) → Ascends ts → w ≡ Err (d, l) → v ≡ Err (b, k) → Within ts l → Within ts k → d ≡ b → place_at l ≡ place_at k
    → furthest w v ≡ Err (d, l)
told-alike ts w v d b l k up e f i j n same =
    both-faults w v d b l k e f ∙ ap (λ b. Err (d || b, further l k)) (sym n) ∙ ap (λ d. Err (d, further l k)) (or-same d)
    ∙ ap (λ m. Err (d, m)) (further-first_place ts l k up i j (let s = same in omega (arith, s)))

pub plain-fault : (d s : Bool) (l : List Token) → d ≡ false → s ≡ false → fault_at d s l ≡ wrong l
plain-fault d s l e f = ap (λ d. fault_at d s l) e ∙ ap (λ s. fault_at false s l) f

module _ (ts : List Token) (up : Ascends ts) (x y : Was Token) (w v : Answer Token) (d s : Bool) (l : List Token) (b t : Bool) (k : List Token)
    (ew : w ≡ Err (d, l)) (ev : v ≡ Err (b, k)) (il : Within ts l) (ik : Within ts k) where
  abbrev pub Earlier : Type 0
  Earlier = (d ≡ false) × (s ≡ false) × (place_at l ≤ place_at k)

  abbrev pub Later : Type 0
  Later = (b ≡ false) × (t ≡ false) × (place_at k ≤ place_at l)

  abbrev pub Alike : Type 0
  Alike = fault_at d s l ≡ fault_at b t k

  -- The arrow is read first.
  pub fork-true : (c : Bool) → fault_in x ≡ fault_at d s l → y ≡ Err (fault_at b t k) → Earlier ⊎ (((c ≡ true) × Later) ⊎ ((c ≡ true) × Alike))
      → Agrees true ts (forked c true x y) (furthest w v)
  fork-true true fx ey e = elim e [
    | inl h ↦
        let m = merge-first b t k l x (fx ∙ plain-fault d s l h.0 h.1) h.2 in
        inr (inr (b, m.0, k, ap (λ y. first_of y x) ey ∙ m.1, told-second ts w v d b l k up ew ev il ik h.0 h.2, ik))
    | inr g ↦ elim g [
      | inl h ↦
          let m = merge-second d s k l x fx (h.1).2 in
          inr (inr (d, m.0, l, ap (λ y. first_of y x) (ey ∙ ap (λ e. Err e) (plain-fault b t k (h.1).0 (h.1).1)) ∙ m.1, told-first ts w v d b l k up ew ev il ik (h.1).0 (h.1).2, il))
      | inr h ↦
          let m = merge-same b t k x (fx ∙ h.1) in
          let f = fault-is d s l b t k h.1 in
          inr (inr (b, m.0, k, ap (λ y. first_of y x) ey ∙ m.1, told-same ts w v d b l k up ew ev il ik f.0 f.1, ik))
    ]
  ]
  fork-true false fx ey e = elim e [
    | inl h ↦ inr (inr (b, t, k, ey, told-second ts w v d b l k up ew ev il ik h.0 h.2, ik))
    | inr g ↦ elim g [ inl h ↦ absurd (let n = h.0 in cc (n)) | inr h ↦ absurd (let n = h.0 in cc (n)) ]
  ]

  -- The other expression is read first.
  pub fork-false : (c : Bool) → x ≡ Err (fault_at d s l) → y ≡ Err (fault_at b t k) → Later ⊎ (((c ≡ true) × Earlier) ⊎ ((c ≡ true) × Alike))
      → Agrees true ts (forked c false x y) (furthest w v)
  fork-false true ex ey e =
      let fy : fault_in y ≡ fault_at b t k = ap (λ y. fault_in y) ey in
      elim e [
        | inl h ↦
            let m = merge-first d s l k y (fy ∙ plain-fault b t k h.0 h.1) h.2 in
            inr (inr (d, m.0, l, ap (λ x. first_of x y) ex ∙ m.1, told-first ts w v d b l k up ew ev il ik h.0 h.2, il))
        | inr g ↦ elim g [
          | inl h ↦
              let m = merge-second b t l k y fy (h.1).2 in
              inr (inr (b, m.0, k, ap (λ x. first_of x y) (ex ∙ ap (λ e. Err e) (plain-fault d s l (h.1).0 (h.1).1)) ∙ m.1, told-second ts w v d b l k up ew ev il ik (h.1).0 (h.1).2, ik))
          | inr h ↦
              let m = merge-same d s l y (fy ∙ sym h.1) in
              let f = fault-is d s l b t k h.1 in
              inr (inr (d, m.0, l, ap (λ x. first_of x y) ex ∙ m.1, told-alike ts w v d b l k up ew ev il ik f.0 f.1, il))
        ]
      ]
  fork-false false ex ey e = elim e [
    | inl h ↦ inr (inr (d, s, l, ex, told-first ts w v d b l k up ew ev il ik h.0 h.2, il))
    | inr g ↦ elim g [ inl h ↦ absurd (let n = h.0 in cc (n)) | inr h ↦ absurd (let n = h.0 in cc (n)) ]
  ]

pub first-read : (c a : Bool) (x y : Was Token) (p : Read) → a ≡ false → x ≡ Ok p → forked c a x y ≡ Ok p
first-read true true x y p e f = absurd (cc (e))
first-read true false x y p e f = ap (λ x. first_of x y) f
first-read false true x y p e f = absurd (cc (e))
first-read false false x y p e f = f

pub second-read : (c a : Bool) (x y : Was Token) (p : Read) → a ≡ true → y ≡ Ok p → forked c a x y ≡ Ok p
second-read true true x y p e f = ap (λ y. first_of y x) f
second-read true false x y p e f = absurd (cc (e))
second-read false true x y p e f = f
second-read false false x y p e f = absurd (cc (e))

module _ (ts : List Token) (x y : Was Token) (q : Forked ts x y) where
  -- how the first one's fault stands to the second one's, where an arrow is ahead
  pub stands-true : (d s : Bool) (l : List Token) → ((x ≡ Err (fault_at d s l)) ⊎ ((p : Read) × (x ≡ Ok p) × (d ≡ false) × (s ≡ false) × (l ≡ p.1))) → (p : ℕ)
      → (Past (place_at l) y → place_at l ≤ p) → (((k : List Token) × (y ≡ Err (wrong k)) × (place_at k ≤ place_at l)) ⊎ ((x ≡ y) ⊎ ((d ≡ false) × (s ≡ false) × (place_at l ≤ p))))
  stands-true d s l e p h = elim q [
    | inl g ↦ elim e [
      | inl n ↦
          let m = wrong-is d s l g.0 (err-same (fault_at d s l) (wrong g.0) x n g.1) in
          inr (inr (m.0, m.1, h (subst (λ n. Past n y) (sym m.2) g.2)))
      | inr n ↦ not-both (wrong g.0) n.0 x g.1 n.1
    ]
    | inr q ↦ elim q [
      | inl g ↦ inl (
        g.0,
        g.1,
        elim e [
          | inl n ↦ past-fault (place_at g.0) x d s l n g.2
          | inr n ↦ let k = past-read (place_at g.0) x n.0 n.1 g.2 in let same : place_at l ≡ place_at (n.0).1 = ap (λ l. place_at l) n.4 in omega (arith, k, same)
        ],
      )
      | inr q ↦ elim q [
        | inl g ↦ inr (inl (g.1 ∙ sym g.2))
        | inr g ↦ elim e [
          | inl n ↦ not-both (fault_at d s l) g.0 x n g.1
          | inr n ↦
              let same : n.0 ≡ g.0 = let k : ◌≡◌ {A = Was Token} (Ok n.0) (Ok g.0) = sym n.1 ∙ g.1 in ok_same n.0 g.0 k in
              let at : place_at (g.0).1 ≡ place_at l = ap (λ p. place_at p.1) (sym same) ∙ ap (λ l. place_at l) (sym n.4) in
              inr (inr (n.2, n.3, h (subst (λ n. Past n y) at g.3)))
        ]
      ]
    ]
  ]

pub flags : (b : Bool) → (b ≡ true) ⊎ (b ≡ false)
flags true = inl refl
flags false = inr refl

-- A fork, where an arrow is ahead.
pub fork-ahead : (c : Bool) (ts : List Token) (x y : Was Token) (w v : Answer Token) (k : Bool) → Fine ts → Forked ts x y
    → (c ≡ false → (p : Read) × (x ≡ Ok p) × Past (place_at p.1) y) → (d s : Bool) (l : List Token)
    → ((x ≡ Err (fault_at d s l)) ⊎ ((p : Read) × (x ≡ Ok p) × (d ≡ false) × (s ≡ false) × (l ≡ p.1))) → w ≡ Err (d, l) → Within ts l → Agrees k ts y v
    → Agrees true ts (forked c true x y) (furthest w v)
fork-ahead c ts x y w v k f q ca d s l e ew il ey = elim ey [
  | inl r ↦ inl (r.0, second-read c true x y r.0 refl r.1, ap (λ w. furthest w v) ew ∙ ap (λ v. furthest (Err (d, l)) v) r.2, r.3)
  | inr g ↦ elim g [
    | inl r ↦
        let p = r.1 in
        let n : (d ≡ false) × (place_at l ≤ place_at p.1) = before-read p r.2 in
        inr (inl (refl, p, second-read c true x y p refl r.2, told-second ts w v d false l p.1 f.0 ew r.3 il r.4 n.0 n.1, r.4, r.5))
    | inr r ↦ fork-true ts f.0 x y w v d s l r.0 r.1 r.2 ew r.4 il r.5 c in_x r.3 (cases r.0 r.1 r.2 r.3)
  ]
]
  where
    in_x : fault_in x ≡ fault_at d s l
    in_x = elim e [ inl n ↦ ap (λ x. fault_in x) n | inr n ↦ ap (λ x. fault_in x) n.1 ∙ sym (plain-fault d s l n.2 n.3 ∙ ap (λ l. wrong l) n.4) ]

    before-read : (p : Read) → y ≡ Ok p → (d ≡ false) × (place_at l ≤ place_at p.1)
    before-read p r = elim (stands-true ts x y q d s l e (place_at p.1) (λ past. past-read (place_at l) y p r past)) [
      | inl h ↦ not-both (wrong h.0) p y h.1 r
      | inr h ↦ elim h [
        | inl h ↦ elim e [
          | inl n ↦ not-both (fault_at d s l) p y (sym h ∙ n) r
          | inr n ↦
              let same : p ≡ n.0 = ok_same p n.0 (sym r ∙ sym h ∙ n.1) in
              let at : place_at p.1 ≡ place_at l = ap (λ p. place_at p.1) same ∙ ap (λ l. place_at l) (sym n.4) in
              (n.2, omega (arith, at))
        ]
        | inr h ↦ (h.0, h.2)
      ]
    ]

    cases : (b t : Bool) (m : List Token) → y ≡ Err (fault_at b t m)
        → ((d ≡ false) × (s ≡ false) × (place_at l ≤ place_at m)) ⊎ (((c ≡ true) × ((b ≡ false) × (t ≡ false) × (place_at m ≤ place_at l))) ⊎ ((c ≡ true) × (fault_at d s l ≡ fault_at b t m)))
    cases b t m n = elim (flags c) [
      | inl o ↦ elim (stands-true ts x y q d s l e (place_at m) (λ past. past-fault (place_at l) y b t m n past)) [
        | inl h ↦
            let k = wrong-is b t m h.0 (err-same (fault_at b t m) (wrong h.0) y n h.1) in
            let le = h.2 in
            let same = k.2 in
            inr (inl (o, (k.0, k.1, omega (arith, le, same))))
        | inr h ↦ elim h [
          | inl h ↦ elim e [
            | inl r ↦ inr (inr (o, err-same (fault_at d s l) (fault_at b t m) x r (h ∙ n)))
            | inr r ↦ not-both (fault_at b t m) r.0 y n (sym h ∙ r.1)
          ]
          | inr h ↦ inl (h.0, h.1, h.2)
        ]
      ]
      | inr o ↦
          let k = ca o in
          elim e [
            | inl r ↦ not-both (fault_at d s l) k.0 x r k.1
            | inr r ↦
                let same : r.0 ≡ k.0 = ok_same r.0 k.0 (sym r.1 ∙ k.1) in
                let at : place_at (k.0).1 ≡ place_at l = ap (λ p. place_at p.1) (sym same) ∙ ap (λ l. place_at l) (sym r.4) in
                inl (r.2, r.3, past-fault (place_at l) y b t m n (subst (λ n. Past n y) at k.2))
          ]
    ]

-- A fork, where none is.
pub fork-off : (c : Bool) (ts : List Token) (x y : Was Token) (w v : Answer Token) (k : Bool) → Fine ts → Forked ts x y → ahead ts ≡ false
    → (c ≡ false → (l : List Token) × (y ≡ Err (wrong l)) × Past (place_at l) x) → ((p : Read) → y ≡ Ok p → ⊥) → Refused ts x w → Agrees k ts y v
    → Agrees true ts (forked c false x y) (furthest w v)
fork-off c ts x y w v k f q is cb none ex ey = elim ey [
  | inl r ↦ absurd (none r.0 r.1)
  | inr g ↦ elim g [
    | inl r ↦ absurd (none r.1 r.2)
    | inr r ↦ elim ex [
      | inl p ↦ inl (p.0, first-read c false x y p.0 refl p.1, ap (λ w. furthest w v) p.2, p.4)
      | inr g ↦ elim g [
        | inl p ↦
            let n = later-read p.0 p.1 r.0 r.1 r.2 r.3 in
            inr (inl (refl, p.0, first-read c false x y p.0 refl p.1, told-first ts w v false r.0 (p.0).1 r.2 f.0 p.2 r.4 p.4 r.5 n.0 n.2, p.4, p.3))
        | inr p ↦ fork-false ts f.0 x y w v p.0 p.1 p.2 r.0 r.1 r.2 p.4 r.4 p.5 r.5 c p.3 r.3 (cases p.0 p.1 p.2 r.0 r.1 r.2 p.3 r.3)
      ]
    ]
  ]
]
  where
    not-ahead : {B : Type 0} → ahead ts ≡ true → B
    not-ahead e = absurd (let k : true ≡ false = sym e ∙ is in cc (k))

    later-read : (p : Read) → x ≡ Ok p → (b t : Bool) (m : List Token) → y ≡ Err (fault_at b t m) → (b ≡ false) × (t ≡ false) × (place_at m ≤ place_at p.1)
    later-read p e b t m n = elim q [
      | inl h ↦ not-both (wrong h.0) p x h.1 e
      | inr q ↦ elim q [
        | inl h ↦
            let k = wrong-is b t m h.0 (err-same (fault_at b t m) (wrong h.0) y n h.1) in
            let le = past-read (place_at h.0) x p e h.2 in
            let same = k.2 in
            (k.0, k.1, omega (arith, le, same))
        | inr q ↦ elim q [
          | inl h ↦ not-both h.0 p x h.1 e
          | inr h ↦ not-ahead h.2
        ]
      ]
    ]

    cases : (d s : Bool) (l : List Token) (b t : Bool) (m : List Token) → x ≡ Err (fault_at d s l) → y ≡ Err (fault_at b t m)
        → ((b ≡ false) × (t ≡ false) × (place_at m ≤ place_at l)) ⊎ (((c ≡ true) × ((d ≡ false) × (s ≡ false) × (place_at l ≤ place_at m))) ⊎ ((c ≡ true) × (fault_at d s l ≡ fault_at b t m)))
    cases d s l b t m e n = elim (flags c) [
      | inl o ↦ elim q [
        | inl h ↦
            let k = wrong-is d s l h.0 (err-same (fault_at d s l) (wrong h.0) x e h.1) in
            let le = past-fault (place_at h.0) y b t m n h.2 in
            let same = k.2 in
            inr (inl (o, (k.0, k.1, omega (arith, le, same))))
        | inr q ↦ elim q [
          | inl h ↦
              let k = wrong-is b t m h.0 (err-same (fault_at b t m) (wrong h.0) y n h.1) in
              let le = past-fault (place_at h.0) x d s l e h.2 in
              let same = k.2 in
              inl (k.0, k.1, omega (arith, le, same))
          | inr q ↦ elim q [
            | inl h ↦ inr (inr (o, err-same (fault_at d s l) h.0 x e h.1 ∙ err-same h.0 (fault_at b t m) y h.2 n))
            | inr h ↦ not-both (fault_at d s l) h.0 x e h.1
          ]
        ]
      ]
      | inr o ↦
          let h = cb o in
          let k = wrong-is b t m h.0 (err-same (fault_at b t m) (wrong h.0) y n h.1) in
          let le = past-fault (place_at h.0) x d s l e h.2 in
          let same = k.2 in
          inl (k.0, k.1, omega (arith, le, same))
    ]
