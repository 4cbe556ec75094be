-- What the guided reader and the reader of the grammar answer of a fork.
use Rattle.std.proofs.Common.{inl, inr, true, false, Bool, ◌⊎◌, ◌≡◌, ℕ, ◌≤◌, List, ◌∷◌, Ok, Err, refl, ap, sym, subst, ◌∙◌, arith}
use Rattle.std.proofs.lemmas.Bool.{ltb-true, ltb-false}
use Rattle.std.specs.Prelude.{if◌then◌else◌, nat_lt}
use Rattle.grammar.specs.Kinds.{among, covers}
use Rattle.grammar.specs.Grammar.{Tree, leaf, pair, both, either, starts}
use Rattle.grammar.proofs.Sets.{at-covered, is_or_not}
use Rattle.grammar.specs.Tests.{InPlace}
use Rattle.js_token.specs.declared.token.Token.{Token}
use Rattle.js_grammar.specs.Script.{Rule, identifier, parameters, arrow_tail, arrow_kinds, cond_rule}
use Rattle.js_parse.specs.declared.fault.Fault.{Fault}
use Rattle.js_parse.specs.declared.fault.Fault.TheVariants as fault
use Rattle.js_parse.specs.declared.symbol.Symbol.TheVariants as s
use Rattle.js_parse.specs.Symbols.{of_kind, is_name, same}
use Rattle.js_parse.specs.Input.{place_at, later, arrow_at}
use Rattle.parse_laws.proofs.Guided.{Was, Goes, done, called, wrong, first_of, fault_in, guided}
use Rattle.parse_laws.proofs.Sound.{rule-finds}
use Rattle.parse_laws.proofs.Walk.{language, ahead, rule, at_kind}
use Rattle.parse_laws.proofs.Begun.{kind-at, not-begun, tables}
use Rattle.parse_laws.proofs.Ahead.{ahead-name, ahead-open, arrow-starts, language-told, behind-brackets, opens-agree}
use Rattle.parse_laws.proofs.Places.{Within, within-self, Ascends, fault_at, Stands, rule-stands, Past, stands-past}
use Rattle.parse_laws.proofs.Covered.{Read, onward-by, behind, behind-quiet, behind-stands, quiet_kinds, cond-name, cond-paren}
use Rattle.parse_laws.proofs.Lockstep.{Fine, fine-behind, Onward, past-then, then-ok, then-err, within-of, stands-onward}
use Rattle.parse_laws.proofs.Operands.{fine-name, placed-arrow, named-arrow}
use Rattle.parse_laws.proofs.Depths.{parens}

-- ---- the later of two faults

pub merge-first : (d s : Bool) (l k : List Token) (w : Was Token) → fault_in w ≡ wrong k → place_at k ≤ place_at l → (t : Bool) × (first_of (Err (fault_at d s l)) w ≡ Err (fault_at d t l))
merge-first true s l k w e le = (s, refl)
merge-first false true l k w e le = (true, refl)
merge-first false false l k w e le = (true, ap (λ e. Err (later (place_at l) e)) e ∙ by (nat_lt (place_at l) (place_at k)) refl)
  where
    by : (b : Bool) → nat_lt (place_at l) (place_at k) ≡ b → ◌≡◌ {A = Was Token} (Err (if b then fault.Token (place_at k) true else fault.Token (place_at l) true)) (Err (fault.Token (place_at l) true))
    by true b = absurd (let less = ltb-true (place_at l) (place_at k) b in omega (arith, less, le))
    by false b = refl

pub merge-second : (d s : Bool) (l k : List Token) (w : Was Token) → fault_in w ≡ fault_at d s k → place_at l ≤ place_at k → (t : Bool) × (first_of (Err (wrong l)) w ≡ Err (fault_at d t k))
merge-second true s l k w e le = (s, ap (λ e. Err (later (place_at l) e)) e ∙ by (nat_lt (place_at k) (place_at l)) refl)
  where
    by : (b : Bool) → nat_lt (place_at k) (place_at l) ≡ b → ◌≡◌ {A = Was Token} (Err (if b then fault.Token (place_at l) true else fault.Deep (place_at k))) (Err (fault.Deep (place_at k)))
    by true b = absurd (let less = ltb-true (place_at k) (place_at l) b in omega (arith, less, le))
    by false b = refl
merge-second false s l k w e le = (true, ap (λ e. Err (later (place_at l) e)) e ∙ by (nat_lt (place_at l) (place_at k)) refl)
  where
    by : (b : Bool) → nat_lt (place_at l) (place_at k) ≡ b → ◌≡◌ {A = Was Token} (Err (if b then fault.Token (place_at k) true else fault.Token (place_at l) true)) (Err (fault.Token (place_at k) true))
    by true b = refl
    by false b =
        let less = ltb-false (place_at l) (place_at k) b in
        let same : place_at l ≡ place_at k = omega (arith, less, le) in
        ap (λ n. Err (fault.Token n true)) same

pub merge-same : (d s : Bool) (l : List Token) (w : Was Token) → fault_in w ≡ fault_at d s l → (t : Bool) × (first_of (Err (fault_at d s l)) w ≡ Err (fault_at d t l))
merge-same true s l w e = (s, refl)
merge-same false true l w e = (true, refl)
merge-same false false l w e = merge-first false false l l w e (omega arith)

-- ---- the two readings of a fork

-- One is refused at a token that the other one comes to, or both fault alike, or the first one stands before the arrow that is ahead.
abbrev pub Forked : List Token → Was Token → Was Token → Type 0
Forked ts x y = ((l : List Token) × (x ≡ Err (wrong l)) × Past (place_at l) y)
    ⊎ (((l : List Token) × (y ≡ Err (wrong l)) × Past (place_at l) x)
    ⊎ (((e : Fault) × (x ≡ Err e) × (y ≡ Err e))
    ⊎ ((p : Read) × (x ≡ Ok p) × (ahead ts ≡ true) × Past (place_at p.1) y)))

module _ (depth : ℕ) (allow_in : Bool) where
  abbrev pub arrow_x : Rule
  arrow_x = both (either parameters identifier) (arrow_tail allow_in)

  abbrev pub first : List Token → Was Token
  first ts = guided language ahead (rule depth) (cond_rule allow_in) ts done

  abbrev pub second : List Token → Was Token
  second ts = guided language ahead (rule depth) arrow_x ts done

  abbrev pub tail : Goes Token Read
  tail a m = guided language ahead (rule depth) (arrow_tail allow_in) m (λ b r. done (pair a b) r)

  pub tail-stands : (ts m : List Token) (a : Tree Token) → Within ts m → Stands ts (tail a m)
  tail-stands ts m a w = onward-by depth (arrow_tail allow_in) (placed-arrow allow_in).0 (placed-arrow allow_in).1 ts m w _ (λ b r v. v)

  pub tail-off : (m : List Token) (a : Tree Token) → starts language (among arrow_kinds) m ≡ false → tail a m ≡ Err (wrong m)
  unfolding tables
  tail-off m a o = by allow_in
    where
      by : (b : Bool) → guided language ahead (rule depth) (arrow_tail b) m (λ b r. done (pair a b) r) ≡ Err (wrong m)
      by true = not-begun depth (arrow_tail true) (placed-arrow true).0 refl m (λ b r. done (pair a b) r) o
      by false = not-begun depth (arrow_tail false) (placed-arrow false).0 refl m (λ b r. done (pair a b) r) o

  pub quiet-arrow : (m : List Token) → starts language (among arrow_kinds) m ≡ true → starts language (among (quiet_kinds depth allow_in)) m ≡ true
  unfolding tables covers
  quiet-arrow m e = at-covered language (quiet_kinds depth allow_in) arrow_kinds m refl e

  -- behind a first part that both read
  pub behind-forked : (ts : List Token) (c a : Tree Token) (m : List Token) → Fine m → (starts language (among arrow_kinds) m ≡ true → ahead ts ≡ true)
      → Forked ts (behind depth allow_in c m) (tail a m)
  behind-forked ts c a m f h = elim (is_or_not (starts language (among arrow_kinds) m)) [
    | inl e ↦ inr (inr (inr (_, behind-quiet depth allow_in c m (quiet-arrow m e), h e, stands-past m (tail a m) f.0 (tail-stands m m a (within-self m f.1)))))
    | inr e ↦ inr (inl (m, tail-off m a e, stands-past m (behind depth allow_in c m) f.0 (behind-stands depth allow_in m m c (within-self m f.1))))
  ]

  pub name-forked : (t : Token) (m : List Token) → Fine (t ∷ m) → is_name (of_kind t.kind) ≡ true → Forked (t ∷ m) (first (t ∷ m)) (second (t ∷ m))
  name-forked t m f n =
      subst (λ u. Forked (t ∷ m) u (second (t ∷ m))) (sym (cond-name depth allow_in (of_kind t.kind) t.broken t m n refl refl))
      (subst (λ u. Forked (t ∷ m) (behind depth allow_in (leaf t) m) u) (sym (named-arrow depth allow_in t m n))
      (behind-forked (t ∷ m) (leaf t) (leaf t) m (fine-name depth t m f n) (λ e. ahead-name t m n ∙ arrow-starts m ∙ e)))

  pub second-paren : (broken : Bool) (t : Token) (m : List Token) → of_kind t.kind ≡ s.OpenParen → t.broken ≡ broken → second (t ∷ m) ≡ called (rule depth 19 (t ∷ m)) tail
  unfolding at_kind tables guided
  second-paren true t m e b = kind-at depth s.OpenParen true arrow_x t m done e b
  second-paren false t m e b = kind-at depth s.OpenParen false arrow_x t m done e b

  pub behind-onward : (ts : List Token) → Ascends ts → Onward ts (behind depth allow_in)
  behind-onward ts up = stands-onward depth ts (behind depth allow_in) up (λ m a e. behind-stands depth allow_in m m a (within-self m e))

  pub tail-onward : (ts : List Token) → Ascends ts → Onward ts tail
  tail-onward ts up = stands-onward depth ts tail up (λ m a e. tail-stands m m a (within-self m e))

  -- The arrow that is ahead stands behind the parameters.
  pub paren-ahead : (t : Token) (m mid : List Token) (a : Tree Token) → of_kind t.kind ≡ s.OpenParen → rule depth 19 (t ∷ m) ≡ Ok (a, mid) → ahead (t ∷ m) ≡ starts language (among arrow_kinds) mid
  unfolding same InPlace
  paren-ahead t m mid a e r =
      let d = rule-finds language ahead depth 19 (t ∷ m) (a, mid) r in
      let k = behind-brackets depth identifier tt 19 language-told.2 (t ∷ m) mid a d in
      let inner : m ≡ k.1 = let e = k.2 in cc (e) in
      ahead-open t m (opens-agree t ∙ ap (λ symbol. same symbol s.OpenParen) e) ∙ ap (λ m. Rattle.js_parse.specs.Input.arrow_behind 1 m) inner ∙ k.3 ∙ arrow-starts mid

  pub paren-forked : (t : Token) (m : List Token) → Fine (t ∷ m) → of_kind t.kind ≡ s.OpenParen → Forked (t ∷ m) (first (t ∷ m)) (second (t ∷ m))
  paren-forked t m f e =
      let ts = t ∷ m in
      let x = rule depth 5 ts in
      let y = rule depth 19 ts in
      let v = rule-stands depth 5 refl ts f.1 in
      let w = rule-stands depth 19 refl ts f.1 in
      subst (λ u. Forked ts u (second ts)) (sym (cond-paren depth allow_in t.broken t m e refl)) (subst (λ u. Forked ts (called x (behind depth allow_in)) u) (sym (second-paren t.broken t m e refl))
      (elim (parens depth t m f e) [
        | inl d ↦ inl (d.0, then-err x (behind depth allow_in) (wrong d.0) d.1, past-then ts (place_at d.0) y tail w (tail-onward ts f.0) d.2)
        | inr g ↦ elim g [
          | inl d ↦ inr (inl (d.0, then-err y tail (wrong d.0) d.1, past-then ts (place_at d.0) x (behind depth allow_in) v (behind-onward ts f.0) d.2))
          | inr g ↦ elim g [
            | inl d ↦ inr (inr (inl (d.0, then-err x (behind depth allow_in) d.0 d.1, then-err y tail d.0 d.2)))
            | inr d ↦
                subst (λ u. Forked ts u (called y tail)) (sym (then-ok x (behind depth allow_in) (d.0, d.2) d.3)) (subst (λ u. Forked ts (behind depth allow_in d.0 d.2) u) (sym (then-ok y tail (d.1, d.2) d.4))
                (behind-forked ts d.0 d.1 d.2 (fine-behind ts d.2 f (within-of ts x (d.0, d.2) v d.3)) (λ a. paren-ahead t m d.2 d.1 e d.4 ∙ a)))
          ]
        ]
      ]))
