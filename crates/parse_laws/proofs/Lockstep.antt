-- The two readings of a parenthesis, token by token: both nest the same, up to the first token that one of them refuses.
use Rattle.std.proofs.Common.{inl, inr, true, false, Bool, ◌⊎◌, ◌≡◌, ℕ, ◌≤◌, List, [], ◌∷◌, Ok, Err, refl, ap, sym, subst, ◌∙◌, arith, codes}
use Rattle.grammar.specs.Kinds.{among, apart, covers}
use Rattle.grammar.specs.Grammar.{Tree, tip, leaf, pair, node, token, both, starts, entry}
use Rattle.grammar.specs.Reading.{firsts, nullable}
use Rattle.grammar.specs.Tests.{InPlace}
use Rattle.grammar.proofs.Sets.{at-covered, is_or_not}
use Rattle.grammar.proofs.Free.{free}
use Rattle.js_token.specs.declared.token.Token.{Token}
use Rattle.js_grammar.specs.Kinds.{kinds, mark}
use Rattle.js_grammar.specs.Script.{rules, right, default}
use Rattle.js_parse.specs.declared.fault.Fault.{Fault}
use Rattle.js_parse.specs.declared.symbol.Symbol.{Symbol}
use Rattle.js_parse.specs.declared.symbol.Symbol.TheVariants as s
use Rattle.js_parse.specs.Symbols.{of_kind}
use Rattle.js_parse.specs.Input.{place_at}
use Rattle.parse_laws.specs.Kinds.{token_kind, numbered}
use Rattle.parse_laws.proofs.Guided.{Was, Goes, done, called, wrong, guided}
use Rattle.parse_laws.proofs.Walk.{language, ahead, rule, at_kind}
use Rattle.parse_laws.proofs.Begun.{kind-at, chosen-false, tables}
use Rattle.parse_laws.proofs.Places.{EndsIn, Within, within-self, Ascends, ascends-behind, Stands, stands-then, Past, stands-past, past-more}
use Rattle.parse_laws.proofs.Covered.{Read, Placed, onward-by, stopped, behind, behind-quiet, behind-stands, behind-equals, quiet_kinds}

-- ---- one that is dead, and another that goes on

abbrev pub Fine : List Token → Type 0
Fine ts = Ascends ts × EndsIn ts

pub fine-behind : (ts m : List Token) → Fine ts → Within ts m → Fine m
fine-behind ts m f w = (ascends-behind w.0 ts m w.1 f.0, w.2)

-- Both fault alike, or end at one place, or one is refused at a token that the other one comes to.
abbrev pub Lock : Was Token → Was Token → Type 0
Lock x y = ((l : List Token) × (x ≡ Err (wrong l)) × Past (place_at l) y)
    ⊎ (((l : List Token) × (y ≡ Err (wrong l)) × Past (place_at l) x)
    ⊎ (((e : Fault) × (x ≡ Err e) × (y ≡ Err e))
    ⊎ ((a b : Tree Token) × (m : List Token) × (x ≡ Ok (a, m)) × (y ≡ Ok (b, m)))))

-- what may stand behind a member
abbrev pub follow_kinds : List ℕ
follow_kinds = kinds (mark (codes ",") ∷ mark (codes ")") ∷ mark (codes "]") ∷ mark (codes "}") ∷ [])

-- It is refused there, or ends where nothing goes on.
abbrev pub Dies : Was Token → List Token → Type 0
Dies x l = (x ≡ Err (wrong l)) ⊎ ((a : Tree Token) × (x ≡ Ok (a, l)) × (starts language (among follow_kinds) l ≡ false))

abbrev pub Open : Was Token → Was Token → Type 0
Open x y = ((l : List Token) × Dies x l × Past (place_at l) y)
    ⊎ (((l : List Token) × Dies y l × Past (place_at l) x)
    ⊎ (((e : Fault) × (x ≡ Err e) × (y ≡ Err e))
    ⊎ ((a b : Tree Token) × (m : List Token) × (x ≡ Ok (a, m)) × (y ≡ Ok (b, m)))))

pub lock-open : (x y : Was Token) → Lock x y → Open x y
lock-open x y e = elim e [
  | inl h ↦ inl (h.0, inl h.1, h.2)
  | inr g ↦ elim g [
    | inl h ↦ inr (inl (h.0, inl h.1, h.2))
    | inr h ↦ inr (inr h)
  ]
]

-- what goes on behind a list's end
abbrev pub Onward : List Token → Goes Token Read → Type 0
Onward ts k = (a : Tree Token) (l : List Token) → Within ts l → Past (place_at l) (k a l)

pub past-then : (ts : List Token) (p : ℕ) (w : Was Token) (k : Goes Token Read) → Stands ts w → Onward ts k → Past p w → Past p (called w k)
past-then ts p (Ok q) k s o le = past-more p (place_at q.1) (k q.0 q.1) le (o q.0 q.1 s)
past-then ts p (Err e) k s o le = le

pub then-ok : (w : Was Token) (k : Goes Token Read) (q : Read) → w ≡ Ok q → called w k ≡ k q.0 q.1
then-ok w k q e = ap (λ w. called w k) e

pub then-err : (w : Was Token) (k : Goes Token Read) (e : Fault) → w ≡ Err e → called w k ≡ Err e
then-err w k e d = ap (λ w. called w k) d

pub within-of : (ts : List Token) (w : Was Token) (q : Read) → Stands ts w → w ≡ Ok q → Within ts q.1
within-of ts w q s e = subst (Stands ts) e s

-- Both go on behind a member.
module _ (ts : List Token) (x y : Was Token) (k h : Goes Token Read) (v : Stands ts x) (w : Stands ts y) (i : Onward ts k) (j : Onward ts h) where
  pub open-then : Open x y → ((a : Tree Token) (l : List Token) → starts language (among follow_kinds) l ≡ false → k a l ≡ Err (wrong l))
      → ((a : Tree Token) (l : List Token) → starts language (among follow_kinds) l ≡ false → h a l ≡ Err (wrong l))
      → ((a b : Tree Token) (m : List Token) → Within ts m → Lock (k a m) (h b m)) → Lock (called x k) (called y h)
  open-then e f g s = elim e [
    | inl d ↦ inl (d.0, elim d.1 [ inl u ↦ then-err x k (wrong d.0) u | inr u ↦ then-ok x k (u.0, d.0) u.1 ∙ f u.0 d.0 u.2 ], past-then ts (place_at d.0) y h w j d.2)
    | inr e ↦ elim e [
      | inl d ↦ inr (inl (d.0, elim d.1 [ inl u ↦ then-err y h (wrong d.0) u | inr u ↦ then-ok y h (u.0, d.0) u.1 ∙ g u.0 d.0 u.2 ], past-then ts (place_at d.0) x k v i d.2))
      | inr e ↦ elim e [
        | inl d ↦ inr (inr (inl (d.0, then-err x k d.0 d.1, then-err y h d.0 d.2)))
        | inr d ↦ subst (λ u. Lock u (called y h)) (sym (then-ok x k (d.0, d.2) d.3)) (subst (λ u. Lock (k d.0 d.2) u) (sym (then-ok y h (d.1, d.2) d.4)) (s d.0 d.1 d.2 (within-of ts x (d.0, d.2) v d.3)))
      ]
    ]
  ]

  -- the same behind brackets
  pub lock-then : Lock x y → ((a b : Tree Token) (m : List Token) → Within ts m → Open (k a m) (h b m)) → Open (called x k) (called y h)
  lock-then e s = elim e [
    | inl d ↦ inl (d.0, inl (then-err x k (wrong d.0) d.1), past-then ts (place_at d.0) y h w j d.2)
    | inr e ↦ elim e [
      | inl d ↦ inr (inl (d.0, inl (then-err y h (wrong d.0) d.1), past-then ts (place_at d.0) x k v i d.2))
      | inr e ↦ elim e [
        | inl d ↦ inr (inr (inl (d.0, then-err x k d.0 d.1, then-err y h d.0 d.2)))
        | inr d ↦ subst (λ u. Open u (called y h)) (sym (then-ok x k (d.0, d.2) d.3)) (subst (λ u. Open (k d.0 d.2) u) (sym (then-ok y h (d.1, d.2) d.4)) (s d.0 d.1 d.2 (within-of ts x (d.0, d.2) v d.3)))
      ]
    ]
  ]

-- ---- a default, or what goes on behind an operand

pub placed-default : Placed default
unfolding InPlace rules entry free tables apart
placed-default = (search, refl)

module _ (depth : ℕ) where
  -- behind a name or a pattern
  abbrev pub defaulted : (Tree Token → Tree Token → Tree Token) → Goes Token Read
  defaulted fy a m = guided language ahead (rule depth) default m (λ b r. done (fy a b) r)

  abbrev pub operated : (Tree Token → Tree Token) → Goes Token Read
  operated fx c m = called (behind depth true c m) (λ a r. done (fx a) r)

  pub done-on : (ts : List Token) (f : Tree Token → Tree Token) → Ascends ts → Onward ts (λ a r. done (f a) r)
  done-on ts f up a l w = let n : place_at l ≤ place_at l = omega arith in n

  pub operated-stands : (ts m : List Token) (fx : Tree Token → Tree Token) (c : Tree Token) → Within ts m → Stands ts (operated fx c m)
  operated-stands ts m fx c w = stands-then ts (behind depth true c m) (λ a r. done (fx a) r) (behind-stands depth true ts m c w) (λ a r v. v)

  pub defaulted-stands : (ts m : List Token) (fy : Tree Token → Tree Token → Tree Token) (a : Tree Token) → Within ts m → Stands ts (defaulted fy a m)
  defaulted-stands ts m fy a w = onward-by depth default placed-default.0 placed-default.1 ts m w _ (λ b r v. v)

  pub stands-onward : (ts : List Token) (k : Goes Token Read) → Ascends ts → ((m : List Token) (a : Tree Token) → EndsIn m → Stands m (k a m)) → Onward ts k
  stands-onward ts k up s a l w = stands-past l (k a l) (ascends-behind w.0 ts l w.1 up) (s l a w.2)

  pub operated-onward : (ts : List Token) (fx : Tree Token → Tree Token) → Ascends ts → Onward ts (operated fx)
  operated-onward ts fx up = stands-onward ts (operated fx) up (λ m c e. operated-stands m m fx c (within-self m e))

  pub defaulted-onward : (ts : List Token) (fy : Tree Token → Tree Token → Tree Token) → Ascends ts → Onward ts (defaulted fy)
  defaulted-onward ts fy up = stands-onward ts (defaulted fy) up (λ m a e. defaulted-stands m m fy a (within-self m e))

  pub default-equals : (broken : Bool) (e : Token) (m : List Token) (k : Goes Token Read) → of_kind e.kind ≡ s.Assign → e.broken ≡ broken
      → guided language ahead (rule depth) default (e ∷ m) k ≡ called (rule depth 15 m) (λ v rest. k (pair (leaf e) v) rest)
  unfolding at_kind tables guided
  default-equals true e m k d f = kind-at depth s.Assign true default e m k d f
  default-equals false e m k d f = kind-at depth s.Assign false default e m k d f

  abbrev pub equal_kinds : List ℕ
  equal_kinds = kinds (mark (codes "=") ∷ [])

  pub default-none : (m : List Token) (k : Goes Token Read) → starts language (among equal_kinds) m ≡ false → guided language ahead (rule depth) default m k ≡ k tip m
  unfolding guided firsts nullable tables
  default-none m k e = chosen-false (starts language (among (firsts language.heads (both (token equal_kinds) (right true)))) m) _ _ e

  pub quiet-follows : (m : List Token) → starts language (among follow_kinds) m ≡ true → starts language (among (quiet_kinds depth true)) m ≡ true
  unfolding tables covers
  quiet-follows m e = at-covered language (quiet_kinds depth true) follow_kinds m refl e

  pub equals-kind : (e : Token) (m : List Token) → starts language (among equal_kinds) (e ∷ m) ≡ true → of_kind e.kind ≡ s.Assign
  unfolding token_kind tables
  equals-kind e m d = is-equals (of_kind e.kind) e.broken d
    where
      is-equals : (symbol : Symbol) (broken : Bool) → among equal_kinds (numbered symbol broken) ≡ true → symbol ≡ s.Assign
      is-equals s.Assign broken d = refl
      is-equals _ true d = absurd (cc (d))
      is-equals _ false d = absurd (cc (d))

  pub behind-open : (fx : Tree Token → Tree Token) (fy : Tree Token → Tree Token → Tree Token) (c a : Tree Token) (m : List Token) → Fine m → Open (operated fx c m) (defaulted fy a m)
  behind-open fx fy c a [] f = absurd f.1
  behind-open fx fy c a (e ∷ m) f = elim (is_or_not (starts language (among equal_kinds) (e ∷ m))) [
    | inl h ↦
        let k = equals-kind e m h in
        let one : operated fx c (e ∷ m) ≡ first_told (rule depth 15 m) = ap (λ w. called w (λ a r. done (fx a) r)) (behind-equals depth c e m k) in
        let two = default-equals e.broken e m (λ b r. done (fy a b) r) k refl in
        subst (λ u. Open u (defaulted fy a (e ∷ m))) (sym one) (subst (λ u. Open (first_told (rule depth 15 m)) u) (sym two) (by (rule depth 15 m)))
    | inr h ↦
        let two : defaulted fy a (e ∷ m) ≡ done (fy a tip) (e ∷ m) = default-none (e ∷ m) (λ b r. done (fy a b) r) h in
        elim (is_or_not (starts language (among follow_kinds) (e ∷ m))) [
          | inl g ↦ inr (inr (inr (_, _, e ∷ m, ap (λ w. called w (λ a r. done (fx a) r)) (behind-quiet depth true c (e ∷ m) (quiet-follows (e ∷ m) g)), two)))
          | inr g ↦ inr (inl (e ∷ m, inr (fy a tip, two, g), operated-onward (e ∷ m) fx f.0 c (e ∷ m) (within-self (e ∷ m) f.1)))
        ]
  ]
    where
      first_told : Was Token → Was Token
      first_told w = called (called w (λ v rest. done (node 42 (pair (stopped depth true c) (pair (leaf e) v))) rest)) (λ a r. done (fx a) r)

      by : (w : Was Token) → Open (first_told w) (called w (λ v rest. done (fy a (pair (leaf e) v)) rest))
      by (Ok q) = inr (inr (inr (_, _, q.1, refl, refl)))
      by (Err d) = inr (inr (inl (d, refl, refl)))
