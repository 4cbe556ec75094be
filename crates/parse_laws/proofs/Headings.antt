-- A parenthesis and parameters, and the brackets of each depth.
use Rattle.std.proofs.Common.{inl, inr, true, false, Bool, ◌≡◌, ℕ, zero, suc, ◌≤◌, List, [], ◌∷◌, ◌++◌, length, Err, refl, ap, sym, subst, ◌∙◌, arith, codes}
use Rattle.std.proofs.lemmas.List.{append-nil}
use Rattle.std.specs.Prelude.{if◌then◌else◌}
use Rattle.grammar.specs.Kinds.{among, apart, covers}
use Rattle.grammar.specs.Grammar.{Tree, tip, leaf, pair, token, line, both, either, starts, entry}
use Rattle.grammar.specs.Reading.{firsts, nullable}
use Rattle.grammar.specs.Tests.{InPlace}
use Rattle.grammar.proofs.Sets.{off-apart, at-covered, off-covered, is_or_not}
use Rattle.grammar.proofs.Free.{free}
use Rattle.js_token.specs.declared.token.Token.{Token}
use Rattle.js_grammar.specs.Kinds.{kinds, mark}
use Rattle.js_grammar.specs.Script.{Rule, rules, always, optional, bind, parameter, rest_parameter, has_parameter, assign_rule}
use Rattle.parse_laws.specs.Kinds.{token_kind}
use Rattle.parse_laws.proofs.Guided.{Was, Goes, done, called, wrong, many_of, guided, guided-continues, many-continues}
use Rattle.parse_laws.proofs.Walk.{language, ahead, rule}
use Rattle.parse_laws.proofs.Begun.{chosen-true, chosen-false, not-begun, tables}
use Rattle.parse_laws.proofs.Steps.{starts-neither}
use Rattle.parse_laws.proofs.Scripts.{end_kinds}
use Rattle.parse_laws.proofs.Places.{EndsIn, Within, within-self, Stands, stands-more, stands-if, many-stand, guided-stands, rule-stands, stands-past, behind-other}
use Rattle.parse_laws.proofs.Covered.{Read, Placed, onward, onward-by}
use Rattle.parse_laws.proofs.Lockstep.{Fine, fine-behind, Lock, follow_kinds, open-then, stands-onward}
use Rattle.parse_laws.proofs.Operands.{Locks, member-open, bound, assigned, placed-assign}
use Rattle.parse_laws.proofs.Lists.{comma_kinds, comma-no_end, shut_by, shut-lock, shut-none, shut-stands, within-short}
use Rattle.parse_laws.proofs.Readings.{shut_paren, no-dots, placed-parameter}

abbrev pub one_x : Rule
one_x = either rest_parameter parameter

abbrev pub more_x : Rule
more_x = both (token comma_kinds) (optional one_x)

abbrev pub comma_x : Rule
comma_x = both (token comma_kinds) (line 43 (assign_rule true))

pub placed-one : Placed one_x
unfolding InPlace rules entry free tables apart
placed-one = (search, refl)

pub placed-maybe : Placed (optional one_x)
unfolding InPlace rules entry free tables apart
placed-maybe = (search, refl)

pub placed-more : Placed more_x
unfolding InPlace rules entry free tables apart
placed-more = (search, refl)

pub placed-comma : Placed comma_x
unfolding InPlace rules entry free tables apart
placed-comma = (search, refl)

-- where no expression begins, but parameters go on or end
abbrev pub refused : List ℕ
refused = kinds (mark (codes "...") ∷ mark (codes ")") ∷ [])

pub refused-off : (m : List Token) → starts language (among refused) m ≡ true → starts language (among (firsts language.heads (line 43 (assign_rule true)))) m ≡ false
unfolding tables apart
refused-off m e = off-apart language (firsts language.heads (line 43 (assign_rule true))) refused m refl e

pub one-begins : (m : List Token) → starts language (among (firsts language.heads bind)) m ≡ true → starts language (among (firsts language.heads one_x)) m ≡ true
unfolding tables covers
one-begins m e = at-covered language (firsts language.heads one_x) (firsts language.heads bind) m refl e

-- the kinds that one begins with are those of a binding, or three dots
pub one-off : (m : List Token) → starts language (among (firsts language.heads bind)) m ≡ false → starts language (among refused) m ≡ false
    → (starts language (among (firsts language.heads one_x)) m ≡ false) × (starts language (among shut_paren) m ≡ false)
unfolding tables covers token_kind
one-off m e o = (by m e o, off-covered language refused shut_paren m refl o)
  where
    by : (m : List Token) → starts language (among (firsts language.heads bind)) m ≡ false → starts language (among refused) m ≡ false
        → starts language (among (firsts language.heads one_x)) m ≡ false
    by m e o = off-covered language (firsts language.heads bind ++ refused) (firsts language.heads one_x) m refl (starts-neither (firsts language.heads bind) refused m e o)

module _ (depth : ℕ) where
  -- expressions, and parameters, behind a first
  abbrev pub commas : (Tree Token → Tree Token → Tree Token) → ℕ → List Token → Was Token
  commas f n m = many_of language (among (firsts language.heads comma_x)) always (guided language ahead (rule depth) comma_x) n m (λ d r. shut_by shut_paren (f d) r)

  abbrev pub params : (Tree Token → Tree Token → Tree Token) → ℕ → List Token → Was Token
  params f n m = many_of language (among (firsts language.heads more_x)) has_parameter (guided language ahead (rule depth) more_x) n m (λ d r. shut_by shut_paren (f d) r)

  abbrev pub next_of : (Tree Token → Tree Token → Tree Token) → ℕ → Token → Goes Token Read
  next_of f n t o r = if has_parameter (pair (leaf t) o) then params (λ d. f (pair (pair (leaf t) o) d)) n r else shut_by shut_paren (f (pair (pair (leaf t) o) tip)) r

  pub commas-comma : (f : Tree Token → Tree Token → Tree Token) (n : ℕ) (t : Token) (m : List Token) → among comma_kinds (token_kind t) ≡ true
      → commas f (suc n) (t ∷ m) ≡ guided language ahead (rule depth) (line 43 (assign_rule true)) m (λ v r. commas (λ d. f (pair (pair (leaf t) v) d)) n r)
  unfolding many_of guided firsts nullable
  commas-comma f n t m e =
      chosen-true (among (comma_kinds ++ []) (token_kind t)) _ _ (ap (λ ks. among ks (token_kind t)) (append-nil comma_kinds) ∙ e) ∙ chosen-true (among comma_kinds (token_kind t)) _ _ e

  pub params-comma : (f : Tree Token → Tree Token → Tree Token) (n : ℕ) (t : Token) (m : List Token) → among comma_kinds (token_kind t) ≡ true
      → params f (suc n) (t ∷ m) ≡ guided language ahead (rule depth) (optional one_x) m (next_of f n t)
  unfolding many_of guided firsts nullable
  params-comma f n t m e =
      chosen-true (among (comma_kinds ++ []) (token_kind t)) _ _ (ap (λ ks. among ks (token_kind t)) (append-nil comma_kinds) ∙ e) ∙ chosen-true (among comma_kinds (token_kind t)) _ _ e

  pub commas-end : (f : Tree Token → Tree Token → Tree Token) (n : ℕ) (m : List Token) → starts language (among comma_kinds) m ≡ false → commas f n m ≡ shut_by shut_paren (f tip) m
  unfolding many_of firsts nullable
  commas-end f zero m e = refl
  commas-end f (suc n) m e = chosen-false (starts language (among (comma_kinds ++ [])) m) _ _ (ap (λ ks. starts language (among ks) m) (append-nil comma_kinds) ∙ e)

  pub params-end : (f : Tree Token → Tree Token → Tree Token) (n : ℕ) (m : List Token) → starts language (among comma_kinds) m ≡ false → params f n m ≡ shut_by shut_paren (f tip) m
  unfolding many_of firsts nullable
  params-end f zero m e = refl
  params-end f (suc n) m e = chosen-false (starts language (among (comma_kinds ++ [])) m) _ _ (ap (λ ks. starts language (among ks) m) (append-nil comma_kinds) ∙ e)

  pub shut-end : apart shut_paren end_kinds ≡ true
  unfolding apart tables
  shut-end = refl

  pub loop-stands : (x : Rule) (more : Tree Token → Bool) → Placed x → (f : Tree Token → Tree Token → Tree Token) (n : ℕ) (m : List Token) → EndsIn m
      → Stands m (many_of language (among (firsts language.heads x)) more (guided language ahead (rule depth) x) n m (λ d r. shut_by shut_paren (f d) r))
  loop-stands x more p f n m e =
      let g = guided language ahead (rule depth) x in
      let con = guided-continues language ahead (rule depth) Read x in
      let test = among (firsts language.heads x) in
      subst (Stands m) (sym (many-continues language Read test more g g con con n m (λ d r. shut_by shut_paren (f d) r)))
      (onward m m (within-self m e) (many_of language test more g n m done) (λ d r. shut_by shut_paren (f d) r)
      (many-stand (rule depth) (rule-stands depth) test more x (guided-stands (rule depth) (rule-stands depth) x p.0 p.1) n m e)
      (λ d r w. stands-more m r w (shut_by shut_paren (f d) r) (shut-stands shut_paren (f d) r shut-end w.2)))

  pub follows-tell : (l : List Token) → starts language (among follow_kinds) l ≡ false → (starts language (among comma_kinds) l ≡ false) × (starts language (among shut_paren) l ≡ false)
  unfolding covers tables
  follows-tell l o = (off-covered language follow_kinds comma_kinds l refl o, off-covered language follow_kinds shut_paren l refl o)

  pub commas-dead : (f : Tree Token → Tree Token → Tree Token) (n : ℕ) (l : List Token) → starts language (among follow_kinds) l ≡ false → commas f n l ≡ Err (wrong l)
  commas-dead f n l o = let k = follows-tell l o in commas-end f n l k.0 ∙ shut-none shut_paren (f tip) l k.1

  pub params-dead : (f : Tree Token → Tree Token → Tree Token) (n : ℕ) (l : List Token) → starts language (among follow_kinds) l ≡ false → params f n l ≡ Err (wrong l)
  params-dead f n l o = let k = follows-tell l o in params-end f n l k.0 ∙ shut-none shut_paren (f tip) l k.1

  module _ (l : Locks depth) where
    -- one more expression, and one more parameter or none
    pub param-turn : (m : List Token) → Fine m → (kx ky hy : Goes Token Read) (g : Tree Token → Tree Token) (y : Was Token) → Stands m y
        → (starts language (among (firsts language.heads one_x)) m ≡ true → y ≡ guided language ahead (rule depth) one_x m hy)
        → (starts language (among (firsts language.heads one_x)) m ≡ false → y ≡ shut_by shut_paren g m)
        → guided language ahead (rule depth) parameter m hy ≡ called (bound depth (λ a b. pair a b) m) ky
        → ((a : Tree Token) (r : List Token) → EndsIn r → Stands r (kx a r)) → ((a : Tree Token) (r : List Token) → EndsIn r → Stands r (ky a r))
        → ((a : Tree Token) (r : List Token) → starts language (among follow_kinds) r ≡ false → kx a r ≡ Err (wrong r))
        → ((a : Tree Token) (r : List Token) → starts language (among follow_kinds) r ≡ false → ky a r ≡ Err (wrong r))
        → ((a b : Tree Token) (r : List Token) → Within m r → Lock (kx a r) (ky b r))
        → Lock (guided language ahead (rule depth) (line 43 (assign_rule true)) m kx) y
    unfolding guided firsts nullable tables
    param-turn m f kx ky hy g y sy begun none form sx sk dx dy s =
        let x = guided language ahead (rule depth) (line 43 (assign_rule true)) m kx in
        let con : x ≡ called (assigned depth (λ a. a) m) kx = guided-continues language ahead (rule depth) Read (line 43 (assign_rule true)) m kx in
        let x-stands : Stands m (assigned depth (λ a. a) m) = guided-stands (rule depth) (rule-stands depth) (line 43 (assign_rule true)) (placed-assign true).0 (placed-assign true).1 m f.1 in
        elim (is_or_not (starts language (among (firsts language.heads bind)) m)) [
          | inl h ↦
              let two : y ≡ called (bound depth (λ a b. pair a b) m) ky =
              begun (one-begins m h) ∙ chosen-false (starts language (among (firsts language.heads rest_parameter)) m) _ _ (no-dots m h) ∙ form in
              subst (λ u. Lock u y) (sym con) (subst (λ u. Lock (called (assigned depth (λ a. a) m) kx) u) (sym two)
              (open-then m (assigned depth (λ a. a) m) (bound depth (λ a b. pair a b) m) kx ky x-stands
              (guided-stands (rule depth) (rule-stands depth) parameter placed-parameter.0 placed-parameter.1 m f.1)
              (stands-onward depth m kx f.0 (λ r a e. sx a r e)) (stands-onward depth m ky f.0 (λ r a e. sk a r e)) (member-open depth l (λ a. a) (λ a b. pair a b) m f) dx dy s))
          | inr h ↦ elim (is_or_not (starts language (among refused) m)) [
            | inl o ↦ inl (m, not-begun depth (line 43 (assign_rule true)) (placed-assign true).0 refl m kx (refused-off m o), stands-past m y f.0 sy)
            | inr o ↦
                let off = one-off m h o in
                inr (inl (
                  m,
                  none off.0 ∙ shut-none shut_paren g m off.1,
                  stands-past m x f.0 (subst (Stands m) (sym con)
                      (onward m m (within-self m f.1) (assigned depth (λ a. a) m) kx x-stands (λ a r w. stands-more m r w (kx a r) (sx a r w.2)))),
                ))
          ]
        ]

    pub params-lock : (n k : ℕ) (m : List Token) (f g : Tree Token → Tree Token → Tree Token) → Fine m → length m ≤ n → length m ≤ k → Lock (commas f n m) (params g k m)
    unfolding guided firsts nullable
    params-lock zero k [] f g w a b = absurd w.1
    params-lock zero k (t ∷ m) f g w a b = absurd (omega (arith, a))
    params-lock (suc n) zero [] f g w a b = absurd w.1
    params-lock (suc n) zero (t ∷ m) f g w a b = absurd (omega (arith, b))
    params-lock (suc n) (suc k) [] f g w a b = absurd w.1
    params-lock (suc n) (suc k) (t ∷ m) f g w a b = elim (is_or_not (among comma_kinds (token_kind t))) [
      | inl c ↦
          let v : Fine m = fine-behind (t ∷ m) m w (t ∷ [], refl, behind-other comma_kinds t m comma-no_end c w.1) in
          let y = guided language ahead (rule depth) (optional one_x) m (next_of g k t) in
          subst (λ u. Lock u (params g (suc k) (t ∷ m))) (sym (commas-comma f n t m c))
          (subst (λ u. Lock (guided language ahead (rule depth) (line 43 (assign_rule true)) m (λ v r. commas (λ d. f (pair (pair (leaf t) v) d)) n r)) u) (sym (params-comma g k t m c))
          (param-turn m v (λ o r. commas (λ d. f (pair (pair (leaf t) o) d)) n r) (λ o r. params (λ d. g (pair (pair (leaf t) o) d)) k r) (next_of g k t) (g (pair (pair (leaf t) tip) tip)) y
          (params-comma-stands g k t m v.1)
          (λ e. chosen-true (starts language (among (firsts language.heads one_x)) m) _ _ e) (λ e. chosen-false (starts language (among (firsts language.heads one_x)) m) _ _ e)
          (guided-continues language ahead (rule depth) Read parameter m (λ o r. params (λ d. g (pair (pair (leaf t) o) d)) k r))
          (λ o r e. loop-stands comma_x always placed-comma (λ d. f (pair (pair (leaf t) o) d)) n r e) (λ o r e. loop-stands more_x has_parameter placed-more (λ d. g (pair (pair (leaf t) o) d)) k r e)
          (λ o r e. commas-dead (λ d. f (pair (pair (leaf t) o) d)) n r e) (λ o r e. params-dead (λ d. g (pair (pair (leaf t) o) d)) k r e)
          (λ c d r u. let s = within-short m r u in params-lock n k r (λ b. f (pair (pair (leaf t) c) b)) (λ b. g (pair (pair (leaf t) d) b)) (fine-behind m r v u) (omega (arith, a, s)) (omega (arith, b, s)))))
      | inr c ↦
          subst (λ u. Lock u (params g (suc k) (t ∷ m))) (sym (commas-end f (suc n) (t ∷ m) c)) (subst (λ u. Lock (shut_by shut_paren (f tip) (t ∷ m)) u) (sym (params-end g (suc k) (t ∷ m) c))
          (shut-lock shut_paren (f tip) (g tip) (t ∷ m)))
    ]
      where
        params-comma-stands : (g : Tree Token → Tree Token → Tree Token) (k : ℕ) (t : Token) (m : List Token) → EndsIn m
            → Stands m (guided language ahead (rule depth) (optional one_x) m (next_of g k t))
        params-comma-stands g k t m e = onward-by depth (optional one_x) placed-maybe.0 placed-maybe.1 m m (within-self m e) _ (λ o r w. stands-if (has_parameter (pair (leaf t) o)) m _ _
            (stands-more m r w _ (loop-stands more_x has_parameter placed-more (λ d. g (pair (pair (leaf t) o) d)) k r w.2))
            (stands-more m r w _ (shut-stands shut_paren (g (pair (pair (leaf t) o) tip)) r shut-end w.2)))
