-- By each right side both readers answer the same, their faults too.
use Rattle.std.proofs.Common.{inl, inr, true, false, Bool, ◌⊎◌, ◌≡◌, ℕ, zero, suc, ◌≤◌, ◌<◌, List, [], ◌∷◌, ◌++◌, length, Ok, Err, refl, ap, sym, subst, ◌∙◌, arith}
use Rattle.std.proofs.lemmas.List.{length-append}
use Rattle.std.specs.Prelude.{if◌then◌else◌, ◌==◌, ◌||◌}
use Rattle.grammar.specs.Kinds.{among, apart, covers, alike, and, not}
use Rattle.grammar.specs.Grammar.{Tree, tip, leaf, pair, node, Grammar, empty, token, call, line, both, either, fork, many, named, prefer, starting, on, Derives, starts}
use Rattle.grammar.specs.Reading.{Answer, ◌>>=◌, firsts, nullable, furthest, refused, choose, perhaps, many_at, read_at, read}
use Rattle.grammar.specs.Tests.{decided, goes_on, InPlace}
use Rattle.grammar.specs.Pairs.{told, leads, alone, before_stop}
use Rattle.grammar.proofs.Sets.{and_both, not_true, off-apart, off-covered, is_or_not, or_right, begun-surely}
use Rattle.grammar.proofs.Complete.{in-place, spells-begun, derives-begun}
use Rattle.grammar.proofs.Pairs.{in-pairs}
use Rattle.grammar.proofs.Free.{free}
use Rattle.js_token.specs.declared.token.Token.{Token}
use Rattle.js_grammar.specs.Script.{script, arrow_kinds, form, parameters, identifier, arrow_tail, cond_rule}
use Rattle.js_grammar.proofs.Tables.{parentheses}
use Rattle.parse_laws.specs.Kinds.{token_kind}
use Rattle.parse_laws.proofs.Guided.{Was, Goes, done, called, wrong, too_far, forked, opens_next, many_of, guided, rule_at, guided-continues, many-continues}
use Rattle.parse_laws.proofs.Sound.{or_left, guided-finds, rule-finds}
use Rattle.parse_laws.proofs.Walk.{language, language-fits, ahead, rule}
use Rattle.parse_laws.proofs.Begun.{chosen-true, chosen-false, guided-stays, rule-stays, not-begun, tables}
use Rattle.parse_laws.proofs.Ahead.{follows, language-told, first-ahead, second-ahead}
use Rattle.parse_laws.proofs.Followed.{stops, each-stops, alike-same}
use Rattle.parse_laws.proofs.Scripts.{end_kinds}
use Rattle.parse_laws.proofs.Places.{Within, within-self, ends-same, fault_at, each-free, behind-other}
use Rattle.parse_laws.proofs.Covered.{Read}
use Rattle.parse_laws.proofs.Lockstep.{Fine, fine-behind}
use Rattle.parse_laws.proofs.Merged.{Forked}
use Rattle.parse_laws.proofs.Agreed.{Agrees, agrees-more, agrees-if, agrees-then, agrees-wrap, refused-so, told-second, fork-ahead, fork-off, err-same, not-both, wrong-is}
use Rattle.parse_laws.proofs.Hanging.{hanging, hangs, if-hangs, still, each-still, Forks, each-forks, each-forked, no-paren}

-- ---- right sides

pub called-done_is : (w : Was Token) → called w done ≡ w
called-done_is (Ok q) = refl
called-done_is (Err e) = refl

pub if-implied : (b : Bool) (xs : List ℕ) → if-hangs b xs ≡ true → b ≡ true → apart xs arrow_kinds ≡ true
if-implied true xs e h = e
if-implied false xs e h = absurd (cc (h))

pub one-of : (a b : Bool) → a ≡ true → (a || b) ≡ true
one-of a b e = or_left a b e

pub many-none : (test : ℕ → Bool) (more : Tree Token → Bool) (g : List Token → Goes Token Read → Was Token) (n : ℕ) (ts : List Token) (k : Goes Token Read) → starts language test ts ≡ false
    → many_of language test more g n ts k ≡ k tip ts
unfolding many_of
many-none test more g zero ts k o = refl
many-none test more g (suc n) ts k o = chosen-false (starts language test ts) _ _ o

pub apart-both : (xs ys zs : List ℕ) → apart (xs ++ ys) zs ≡ true → (apart xs zs ≡ true) × (apart ys zs ≡ true)
unfolding apart
apart-both [] ys zs e = (refl, e)
apart-both (x ∷ xs) ys zs e = by (apart-both xs ys zs) (among zs x) refl e
  where
    by : (apart (xs ++ ys) zs ≡ true → (apart xs zs ≡ true) × (apart ys zs ≡ true)) → (b : Bool) → among zs x ≡ b → (if b then false else apart (xs ++ ys) zs) ≡ true → ((if b then false else apart xs zs) ≡ true) × (apart ys zs ≡ true)
    by ih true q e = absurd (cc (e))
    by ih false q e = ih e

module _ (limit depth : ℕ) (h : (n : ℕ) → (n == script) ≡ false → (ts : List Token) → Fine ts → length ts < limit → Agrees (hanging n) ts (rule depth n ts) (read language limit depth n ts)) where
  abbrev pub r : ℕ → List Token → Answer Token
  r = read language limit depth

  abbrev pub So : Grammar Token → Type 0
  So x = (ts : List Token) → Fine ts → length ts < limit → Agrees (hangs x) ts (guided language ahead (rule depth) x ts done) (read_at language limit r x ts)

  pub within-small : (ts m : List Token) → Within ts m → length ts < limit → length m < limit
  within-small ts m w s = let e : length ts ≡ length (w.0 ++ m) = ap (λ l. length l) w.1 in omega (arith, e, length-append w.0 m, s)

  -- Before an arrow no further part comes.
  pub part-stays : (y : Grammar Token) → InPlace language.rules y → (f : Tree Token → Tree Token) (m : List Token) → apart (firsts language.heads y) arrow_kinds ≡ true → starts language (among arrow_kinds) m ≡ true
      → (guided language ahead (rule depth) y m (λ b l. done (f b) l) ≡ Err (wrong m)) ⊎ ((nullable y ≡ true) × (a : Tree Token) × (guided language ahead (rule depth) y m (λ b l. done (f b) l) ≡ Ok (a, m)))
  part-stays y i f m v a =
      let con = guided-continues language ahead (rule depth) Read y m (λ b l. done (f b) l) in
      elim (guided-stays (rule depth) m (λ n. rule-stays depth n m) y i (off-apart language (firsts language.heads y) arrow_kinds m v a)) [
        | inl e ↦ inl (con ∙ ap (λ w. called w (λ b l. done (f b) l)) e)
        | inr e ↦ inr (e.0, f e.1, con ∙ ap (λ w. called w (λ b l. done (f b) l)) e.2)
      ]

  -- a further part
  pub part-agrees : (k : Bool) (y : Grammar Token) → (hangs y ≡ true → k ≡ true) → So y → (f : Tree Token → Tree Token) (ts m : List Token) → Fine ts → length ts < limit → Within ts m
      → Agrees k ts (guided language ahead (rule depth) y m (λ b l. done (f b) l)) (read_at language limit r y m >>= λ q. Ok (f q.0, q.1))
  part-agrees k y more s f ts m v small w =
      subst (λ u. Agrees k ts u (read_at language limit r y m >>= λ q. Ok (f q.0, q.1))) (sym (guided-continues language ahead (rule depth) Read y m (λ b l. done (f b) l)))
      (agrees-wrap k (hangs y) more ts m w (guided language ahead (rule depth) y m done) (read_at language limit r y m) f (s m (fine-behind ts m v w) (within-small ts m w small)))

  abbrev pub behind-so : Bool → Grammar Token → List Token → Goes Token Read → (Read → Answer Token) → Type 0
  behind-so k x ts f c = Agrees k ts (guided language ahead (rule depth) x ts f) (read_at language limit r x ts >>= c)

  pub first-agrees : (k : Bool) (x : Grammar Token) → So x → (ts : List Token) → Fine ts → length ts < limit → (f : Goes Token Read) (c : Read → Answer Token)
      → ((p : Read) → guided language ahead (rule depth) x ts done ≡ Ok p → Within ts p.1 → Agrees k ts (f p.0 p.1) (c p))
      → ((p : Read) → hangs x ≡ true → Within ts p.1 → starts language (among arrow_kinds) p.1 ≡ true → (f p.0 p.1 ≡ Err (wrong p.1)) ⊎ ((k ≡ true) × (a : Tree Token) × (f p.0 p.1 ≡ Ok (a, p.1))))
      → behind-so k x ts f c
  first-agrees k x s ts v small f c n o =
      subst (λ u. Agrees k ts u (read_at language limit r x ts >>= c)) (sym (guided-continues language ahead (rule depth) Read x ts f))
      (agrees-then k (hangs x) ts (guided language ahead (rule depth) x ts done) (read_at language limit r x ts) f c (s ts v small) n o)

  -- one behind the other
  pub many-agrees : (test : ℕ → Bool) (more : Tree Token → Bool) (x : Grammar Token) → So x → (k : Bool) → (hangs x ≡ true → k ≡ true)
      → (hangs x ≡ true → (m : List Token) → starts language (among arrow_kinds) m ≡ true → starts language test m ≡ false)
      → ((ts : List Token) (p : Read) → guided language ahead (rule depth) x ts done ≡ Ok p → length p.1 < length ts)
      → (m n : ℕ) (ts : List Token) → Fine ts → length ts < limit → length ts ≤ m → length ts < n
      → Agrees k ts (many_of language test more (guided language ahead (rule depth) x) m ts done) (many_at language test more (read_at language limit r x) n ts)
  unfolding many_of many_at
  many-agrees test more x s k hk off less zero n [] f small a b = absurd f.1
  many-agrees test more x s k hk off less zero n (t ∷ ts) f small a b = absurd (omega (arith, a))
  many-agrees test more x s k hk off less (suc m) zero ts f small a b = absurd (omega (arith, b))
  many-agrees test more x s k hk off less (suc m) (suc n) ts f small a b =
      agrees-if k (starts language test ts) ts _ (done tip ts) _ (Ok (tip, ts))
      (first-agrees k x s ts f small (λ a rest. if more a then many_of language test more (guided language ahead (rule depth) x) m rest (λ b end. done (pair a b) end) else done (pair a tip) rest)
      (λ p. perhaps (more p.0) (many_at language test more (read_at language limit r x) n) p.1 >>= λ y. Ok (pair p.0 y.0, y.1))
      (λ p e w. next (λ us f small a b. many-agrees test more x s k hk off less m n us f small a b) p (more p.0) e w)
      (λ p e w arrow. let o = stop p (more p.0) (off e p.1 arrow) in inr (hk e, o.0, o.1)))
      (inl ((tip, ts), refl, refl, within-self ts f.1))
    where
      g : List Token → Goes Token Read → Was Token
      g = guided language ahead (rule depth) x

      con : (us : List Token) (k : Goes Token Read) → g us k ≡ called (g us done) k
      con us k = guided-continues language ahead (rule depth) Read x us k

      next : ((us : List Token) → Fine us → length us < limit → length us ≤ m → length us < n → Agrees k us (many_of language test more g m us done) (many_at language test more (read_at language limit r x) n us))
          → (p : Read) (c : Bool) → guided language ahead (rule depth) x ts done ≡ Ok p → Within ts p.1
          → Agrees k ts (if c then many_of language test more g m p.1 (λ b end. done (pair p.0 b) end) else done (pair p.0 tip) p.1)
          (perhaps c (many_at language test more (read_at language limit r x) n) p.1 >>= λ y. Ok (pair p.0 y.0, y.1))
      next ih p true e w =
          let shorter = less ts p e in
          subst (λ u. Agrees k ts u (many_at language test more (read_at language limit r x) n p.1 >>= λ y. Ok (pair p.0 y.0, y.1)))
          (sym (many-continues language Read test more g g con con m p.1 (λ b end. done (pair p.0 b) end)))
          (agrees-wrap k k (λ e. e) ts p.1 w (many_of language test more g m p.1 done) (many_at language test more (read_at language limit r x) n p.1) (λ b. pair p.0 b)
          (ih p.1 (fine-behind ts p.1 f w) (within-small ts p.1 w small) (omega (arith, a, shorter)) (omega (arith, b, shorter))))
      next ih p false e w = inl ((pair p.0 tip, p.1), refl, refl, w)

      stop : (p : Read) (c : Bool) → starts language test p.1 ≡ false
          → (a : Tree Token) × ((if c then many_of language test more g m p.1 (λ b end. done (pair p.0 b) end) else done (pair p.0 tip) p.1) ≡ Ok (a, p.1))
      stop p true o = (pair p.0 tip, many-none test more g m p.1 (λ b end. done (pair p.0 b) end) o)
      stop p false o = (pair p.0 tip, refl)

  pub both-agrees : (x y : Grammar Token) → InPlace language.rules y → (hangs x ≡ true → apart (firsts language.heads y) arrow_kinds ≡ true) → So x → So y → So (both x y)
  unfolding guided read_at hangs
  both-agrees x y i v s t ts f small =
      first-agrees (hangs (both x y)) x s ts f small (λ a mid. guided language ahead (rule depth) y mid (λ b rest. done (pair a b) rest)) (λ p. read_at language limit r y p.1 >>= λ q. Ok (pair p.0 q.0, q.1))
      (λ p e w. part-agrees (hangs (both x y)) y (or_right (if nullable y then hangs x else false) (hangs y)) t (λ b. pair p.0 b) ts p.1 f small w)
      (λ p e w arrow. elim (part-stays y i (λ b. pair p.0 b) p.1 (v e) arrow) [
        | inl k ↦ inl k
        | inr k ↦ inr (one-of (if nullable y then hangs x else false) (hangs y) (chosen-true (nullable y) (hangs x) false k.0 ∙ e), k.1, k.2)
      ])

  pub named-agrees : (name : ℕ) (x : Grammar Token) → So x → So (named name x)
  unfolding guided read_at hangs
  named-agrees name x s ts f small =
      part-agrees (hangs x) x (λ e. e) s (λ a. node name a) ts ts f small (within-self ts f.1)

  pub on-agrees : (test : Tree Token → Bool) (x y z : Grammar Token) → InPlace language.rules y → InPlace language.rules z
      → (hangs x ≡ true → (apart (firsts language.heads y) arrow_kinds ≡ true) × (apart (firsts language.heads z) arrow_kinds ≡ true)) → So x → So y → So z → So (on test x y z)
  unfolding guided read_at hangs
  on-agrees test x y z i j v s t u ts f small =
      first-agrees (hangs (on test x y z)) x s ts f small
      (λ a mid. if test a then guided language ahead (rule depth) y mid (λ b rest. done (pair a b) rest) else guided language ahead (rule depth) z mid (λ b rest. done (pair a b) rest))
      (λ p. choose (test p.0) (read_at language limit r y) (read_at language limit r z) p.1 >>= λ q. Ok (pair p.0 q.0, q.1))
      (λ p e w. next p (test p.0) w)
      (λ p e w arrow. stop p (test p.0) e arrow)
    where
      more : Bool
      more = hangs x || (hangs y || hangs z)

      next : (p : Read) (c : Bool) → Within ts p.1
          → Agrees more ts (if c then guided language ahead (rule depth) y p.1 (λ b rest. done (pair p.0 b) rest) else guided language ahead (rule depth) z p.1 (λ b rest. done (pair p.0 b) rest))
          (choose c (read_at language limit r y) (read_at language limit r z) p.1 >>= λ q. Ok (pair p.0 q.0, q.1))
      next p true w = part-agrees more y (λ e. or_right (hangs x) (hangs y || hangs z) (one-of (hangs y) (hangs z) e)) t (λ b. pair p.0 b) ts p.1 f small w
      next p false w = part-agrees more z (λ e. or_right (hangs x) (hangs y || hangs z) (or_right (hangs y) (hangs z) e)) u (λ b. pair p.0 b) ts p.1 f small w

      stop : (p : Read) (c : Bool) → hangs x ≡ true → starts language (among arrow_kinds) p.1 ≡ true
          → ((if c then guided language ahead (rule depth) y p.1 (λ b rest. done (pair p.0 b) rest) else guided language ahead (rule depth) z p.1 (λ b rest. done (pair p.0 b) rest)) ≡ Err (wrong p.1))
          ⊎ ((more ≡ true) × (a : Tree Token) × ((if c then guided language ahead (rule depth) y p.1 (λ b rest. done (pair p.0 b) rest) else guided language ahead (rule depth) z p.1 (λ b rest. done (pair p.0 b) rest)) ≡ Ok (a, p.1)))
      stop p true e arrow = elim (part-stays y i (λ b. pair p.0 b) p.1 (v e).0 arrow) [ inl k ↦ inl k | inr k ↦ inr (one-of (hangs x) (hangs y || hangs z) e, k.1, k.2) ]
      stop p false e arrow = elim (part-stays z j (λ b. pair p.0 b) p.1 (v e).1 arrow) [ inl k ↦ inl k | inr k ↦ inr (one-of (hangs x) (hangs y || hangs z) e, k.1, k.2) ]

  pub token-agrees : (kinds : List ℕ) → apart kinds end_kinds ≡ true → So (token kinds)
  unfolding guided read_at hangs token_kind
  token-agrees kinds v [] f small = absurd f.1
  token-agrees kinds v (t ∷ ts) f small = by (among kinds (token_kind t)) refl
    where
      by : (b : Bool) → among kinds (token_kind t) ≡ b
          → Agrees false (t ∷ ts) (if b then done (leaf t) ts else Err (wrong (t ∷ ts))) (if b then Ok (leaf t, ts) else Err (false, t ∷ ts))
      by true k = inl ((leaf t, ts), refl, refl, (t ∷ [], refl, behind-other kinds t ts v k f.1))
      by false k = inr (inr (false, false, t ∷ ts, refl, refl, within-self (t ∷ ts) f.1))

  abbrev pub x_of : Bool → Grammar Token
  x_of b = line (form b 42) (cond_rule b)

  abbrev pub y_of : Bool → Grammar Token
  y_of b = both (either parameters identifier) (arrow_tail b)

  pub wrong-told : (k : Bool) (ts : List Token) (g : Was Token) (v : Answer Token) → Fine ts → Agrees k ts g v → g ≡ Err (wrong ts) → v ≡ Err (false, ts)
  wrong-told k ts g v f e n = elim e [
    | inl d ↦ not-both (wrong ts) d.0 g n d.1
    | inr e ↦ elim e [
      | inl d ↦ not-both (wrong ts) d.1 g n d.2
      | inr d ↦
          let m = wrong-is d.0 d.1 d.2 ts (err-same (fault_at d.0 d.1 d.2) (wrong ts) g d.3 n) in
          let same : d.2 ≡ ts = ends-same ts d.2 ts f.0 d.5 (within-self ts f.1) m.2 in
          d.4 ∙ ap (λ b. Err (b, d.2)) m.0 ∙ ap (λ l. Err (false, l)) same
    ]
  ]

  pub covered : (b : Bool) → covers (language.heads (form b 42)) (firsts {A = Token} language.heads (y_of b)) ≡ true
  unfolding tables covers
  covered true = refl
  covered false = refl

  module _ (b : Bool) (s : So (x_of b)) (t : So (y_of b)) (leads₁ : leads language.heads parentheses arrow_kinds (x_of b) ≡ true) (alone₁ : alone language.heads parentheses arrow_kinds (x_of b) ≡ true)
      (before₁ : before_stop language.heads parentheses arrow_kinds (y_of b) ≡ true) (i : InPlace language.rules (x_of b)) (j : InPlace language.rules (y_of b))
      (ts : List Token) (f : Fine ts) (small : length ts < limit) where
    abbrev pub gx : Was Token
    gx = guided language ahead (rule depth) (x_of b) ts done

    abbrev pub gy : Was Token
    gy = guided language ahead (rule depth) (y_of b) ts done

    abbrev pub rx : Answer Token
    rx = refused language arrow_kinds (read_at language limit r (x_of b) ts)

    abbrev pub ry : Answer Token
    ry = read_at language limit r (y_of b) ts

    pub first-off : (p : Read) → gx ≡ Ok p → starts language (among arrow_kinds) p.1 ≡ false → ahead ts ≡ false
    first-off p e o = first-ahead depth (x_of b) i leads₁ alone₁ ts p.1 p.0 (guided-finds language ahead (rule depth) (Derives language depth) (rule-finds language ahead depth) (x_of b) ts p e) o

    pub second-on : (p : Read) → gy ≡ Ok p → ahead ts ≡ true
    second-on p e = second-ahead depth (y_of b) j before₁ ts p.1 p.0 (guided-finds language ahead (rule depth) (Derives language depth) (rule-finds language ahead depth) (y_of b) ts p e)

    pub forked-here : Forked ts gx gy
    unfolding guided
    forked-here = each-forked depth b ts f

    pub begun-agrees : Agrees true ts (forked (opens_next ts) (ahead ts) gx gy) (furthest rx ry)
    unfolding guided
    begun-agrees = elim (is_or_not (ahead ts)) [
      | inl a ↦ subst (λ c. Agrees true ts (forked (opens_next ts) c gx gy) (furthest rx ry)) (sym a) (elim (refused-so (hangs (x_of b)) ts gx (read_at language limit r (x_of b) ts) (s ts f small)) [
        | inl k ↦ absurd (let off = first-off k.0 k.1 k.3 in cc (off, a))
        | inr g ↦ elim g [
          | inl k ↦ fork-ahead (opens_next ts) ts gx gy rx ry (hangs (y_of b)) f forked-here (λ c. (no-paren depth b ts f c).0 a) false false (k.0).1 (inr (k.0, k.1, refl, refl, refl)) k.2 k.4 (t ts f small)
          | inr k ↦ fork-ahead (opens_next ts) ts gx gy rx ry (hangs (y_of b)) f forked-here (λ c. (no-paren depth b ts f c).0 a) k.0 k.1 k.2 (inl k.3) k.4 k.5 (t ts f small)
        ]
      ])
      | inr a ↦ subst (λ c. Agrees true ts (forked (opens_next ts) c gx gy) (furthest rx ry)) (sym a)
          (fork-off (opens_next ts) ts gx gy rx ry (hangs (y_of b)) f forked-here a (λ c. (no-paren depth b ts f c).1 a) (λ p e. let on = second-on p e in cc (on, a))
          (refused-so (hangs (x_of b)) ts gx (read_at language limit r (x_of b) ts) (s ts f small)) (t ts f small))
    ]

    pub unbegun-agrees : starts language (among (language.heads (form b 42))) ts ≡ false → Agrees true ts gx (furthest rx ry)
    unfolding nullable firsts
    unbegun-agrees o =
        let x-is : gx ≡ Err (wrong ts) = not-begun depth (x_of b) i refl ts done o in
        let y-is : gy ≡ Err (wrong ts) = not-begun depth (y_of b) j refl ts done (off-covered language (language.heads (form b 42)) (firsts {A = Token} language.heads (y_of b)) ts (covered b) o) in
        let rx-is : rx ≡ Err (false, ts) = ap (refused language arrow_kinds) (wrong-told (hangs (x_of b)) ts gx (read_at language limit r (x_of b) ts) f (s ts f small) x-is) in
        let ry-is : ry ≡ Err (false, ts) = wrong-told (hangs (y_of b)) ts gy ry f (t ts f small) y-is in
        inr (inr (false, false, ts, x-is, told-second ts rx ry false false ts ts f.0 rx-is ry-is (within-self ts f.1) (within-self ts f.1) refl (omega arith), within-self ts f.1))

    pub fork-agrees : Agrees true ts (guided language ahead (rule depth) (fork arrow_kinds (x_of b) (y_of b)) ts done) (read_at language limit r (fork arrow_kinds (x_of b) (y_of b)) ts)
    unfolding guided read_at firsts
    fork-agrees = by (starts language (among (language.heads (form b 42))) ts) refl
      where
        by : (c : Bool) → starts language (among (language.heads (form b 42))) ts ≡ c
            → Agrees true ts (if c then called (forked (opens_next ts) (ahead ts) gx gy) done else gx) (furthest rx ry)
        by true o = subst (λ u. Agrees true ts u (furthest rx ry)) (sym (called-done_is (forked (opens_next ts) (ahead ts) gx gy))) begun-agrees
        by false o = unbegun-agrees o

  pub guided-agrees : (x : Grammar Token) → InPlace language.rules x → decided language.heads follows x ≡ true → told language.heads parentheses x ≡ true → stops x ≡ true → free end_kinds script x ≡ true
      → still x ≡ true → Forks x → So x
  unfolding InPlace decided told stops free still Forks guided read_at hangs
  guided-agrees empty i d o s v w k ts f small = inl ((tip, ts), refl, refl, within-self ts f.1)
  guided-agrees (token kinds) i d o s v w k ts f small = token-agrees kinds v ts f small
  guided-agrees (call name) i d o s v w k ts f small =
      subst (λ u. Agrees (hanging name) ts u (r name ts)) (sym (called-done_is (rule depth name ts))) (h name (not_true (name == script) v) ts f small)
  guided-agrees (line name x) i d o s v w k ts f small =
      let q = in-place language follows language-fits name x i in
      let p = in-pairs language follows language-fits parentheses language-told name x i in
      guided-agrees x q.4 q.3 p.2 (subst (λ y. stops y ≡ true) (sym i) (each-stops name)) (subst (λ y. free end_kinds script y ≡ true) (sym i) (each-free name (not_true (name == script) v)))
      (subst (λ y. still y ≡ true) (sym i) (each-still name).1) (subst Forks (sym i) (each-forks name)) ts f small
  guided-agrees (both x y) i d o s v w k ts f small =
      let d₁ = and_both (apart (goes_on language.heads follows x) (firsts language.heads y)) _ d in
      let d₂ = and_both (decided language.heads follows x) (decided language.heads follows y) d₁.1 in
      let o₁ = and_both (told language.heads parentheses x) (told language.heads parentheses y) o in
      let s₁ = and_both (stops x) (stops y) s in
      let v₁ = and_both (free end_kinds script x) (free end_kinds script y) v in
      let w₁ = and_both (if-hangs (hangs x) (firsts language.heads y)) _ w in
      let w₂ = and_both (still x) (still y) w₁.1 in
      both-agrees x y i.1 (if-implied (hangs x) (firsts language.heads y) w₁.0) (guided-agrees x i.0 d₂.0 o₁.0 s₁.0 v₁.0 w₂.0 k.0) (guided-agrees y i.1 d₂.1 o₁.1 s₁.1 v₁.1 w₂.1 k.1) ts f small
  guided-agrees (either x y) i d o s v w k ts f small =
      let d₁ = and_both (not (nullable x)) _ d in
      let d₂ = and_both (apart (firsts language.heads x) (firsts language.heads y)) _ d₁.1 in
      let d₃ = and_both (decided language.heads follows x) (decided language.heads follows y) d₂.1 in
      let o₁ = and_both (told language.heads parentheses x) (told language.heads parentheses y) o in
      let s₁ = and_both (stops x) (stops y) s in
      let v₁ = and_both (free end_kinds script x) (free end_kinds script y) v in
      let w₁ = and_both (still x) (still y) w in
      agrees-if (hangs x || hangs y) (starts language (among (firsts language.heads x)) ts) ts _ _ _ _
      (agrees-more (hangs x) (hangs x || hangs y) (one-of (hangs x) (hangs y)) ts _ _ (guided-agrees x i.0 d₃.0 o₁.0 s₁.0 v₁.0 w₁.0 k.0 ts f small))
      (agrees-more (hangs y) (hangs x || hangs y) (or_right (hangs x) (hangs y)) ts _ _ (guided-agrees y i.1 d₃.1 o₁.1 s₁.1 v₁.1 w₁.1 k.1 ts f small))
  guided-agrees (fork stop x y) i d o s v w k ts f small =
      let d₁ = and_both (decided language.heads follows x) (decided language.heads follows y) d in
      let o₁ = and_both (and (and (leads language.heads parentheses stop x) (alone language.heads parentheses stop x)) (before_stop language.heads parentheses stop y)) _ o in
      let o₂ = and_both (and (leads language.heads parentheses stop x) (alone language.heads parentheses stop x)) (before_stop language.heads parentheses stop y) o₁.0 in
      let o₃ = and_both (leads language.heads parentheses stop x) (alone language.heads parentheses stop x) o₂.0 in
      let o₄ = and_both (told language.heads parentheses x) (told language.heads parentheses y) o₁.1 in
      let s₁ = and_both (alike stop arrow_kinds) _ s in
      let s₃ = and_both (and (not (nullable y)) (covers (firsts language.heads x) (firsts language.heads y))) (and (stops x) (stops y)) s₁.1 in
      let s₂ = and_both (stops x) (stops y) s₃.1 in
      let v₁ = and_both (free end_kinds script x) (free end_kinds script y) v in
      let w₁ = and_both (still x) (still y) w in
      let same : stop ≡ arrow_kinds = alike-same stop arrow_kinds s₁.0 in
      let b = (k.0).0 in
      let ex : x ≡ x_of b = (k.0).1 in
      let ey : y ≡ y_of b = (k.0).2 in
      let x-so : So x = guided-agrees x i.0 d₁.0 o₄.0 s₂.0 v₁.0 w₁.0 k.1 in
      let y-so : So y = guided-agrees y i.1 d₁.1 o₄.1 s₂.1 v₁.1 w₁.1 k.2 in
      let leads₁ : leads language.heads parentheses arrow_kinds (x_of b) ≡ true =
      subst (λ x. leads language.heads parentheses arrow_kinds x ≡ true) ex (subst (λ stop. leads language.heads parentheses stop x ≡ true) same o₃.0) in
      let alone₁ : alone language.heads parentheses arrow_kinds (x_of b) ≡ true =
      subst (λ x. alone language.heads parentheses arrow_kinds x ≡ true) ex (subst (λ stop. alone language.heads parentheses stop x ≡ true) same o₃.1) in
      let before₁ : before_stop language.heads parentheses arrow_kinds (y_of b) ≡ true =
      subst (λ y. before_stop language.heads parentheses arrow_kinds y ≡ true) ey (subst (λ stop. before_stop language.heads parentheses stop y ≡ true) same o₂.1) in
      let whole : So (fork arrow_kinds (x_of b) (y_of b)) =
      λ ts f small. fork-agrees b (subst So ex x-so) (subst So ey y-so) leads₁ alone₁ before₁ (subst (InPlace language.rules) ex i.0) (subst (InPlace language.rules) ey i.1) ts f small in
      subst (λ stop. So (fork stop x y)) (sym same) (subst (λ x. So (fork arrow_kinds x y)) (sym ex) (subst (λ y. So (fork arrow_kinds (x_of b) y)) (sym ey) whole)) ts f small
  guided-agrees (many more x) i d o s v w k ts f small =
      let d₁ = and_both (not (nullable x)) _ d in
      let d₂ = and_both (apart (goes_on language.heads follows x) (firsts language.heads x)) (decided language.heads follows x) d₁.1 in
      let w₁ = and_both (if-hangs (hangs x) (firsts language.heads x)) (still x) w in
      many-agrees (among (firsts language.heads x)) more x (guided-agrees x i d₂.1 o s v w₁.1 k) (hangs x) (λ e. e)
      (λ e m arrow. off-apart language (firsts language.heads x) arrow_kinds m (if-implied (hangs x) (firsts language.heads x) w₁.0 e) arrow)
      (λ ts p e. (begun-surely language (firsts language.heads x) (nullable x) ts p.1 (not_true (nullable x) d₁.0)
      (spells-begun language follows language-fits (Derives language depth) (derives-begun language follows language-fits depth) x i ts p.1 p.0
      (guided-finds language ahead (rule depth) (Derives language depth) (rule-finds language ahead depth) x ts p e))).1)
      (length ts) limit ts f small (omega arith) small
  guided-agrees (named name x) i d o s v w k ts f small = named-agrees name x (guided-agrees x i d o s v w k) ts f small
  guided-agrees (prefer kinds x) i d o s v w k ts f small =
      let d₁ = and_both (not (nullable x)) _ d in
      let d₂ = and_both (covers kinds (firsts language.heads x)) (decided language.heads follows x) d₁.1 in
      agrees-if (hangs x) (starts language (among kinds) ts) ts _ (done tip ts) _ (Ok (tip, ts)) (guided-agrees x i d₂.1 o s v w k ts f small) (inl ((tip, ts), refl, refl, within-self ts f.1))
  guided-agrees (starting test x) i d o s v w k ts f small =
      let d₁ = and_both (not (nullable x)) _ d in
      agrees-if (hangs x) (starts language test ts) ts _ (Err (wrong ts)) _ (Err (false, ts)) (guided-agrees x i d₁.1 o s v w k ts f small)
      (inr (inr (false, false, ts, refl, refl, within-self ts f.1)))
  guided-agrees (on test x y z) i d o s v w k ts f small =
      let d₁ = and_both (apart (goes_on language.heads follows x) _) _ d in
      let d₂ = and_both (decided language.heads follows x) _ d₁.1 in
      let d₃ = and_both (decided language.heads follows y) (decided language.heads follows z) d₂.1 in
      let o₁ = and_both (told language.heads parentheses x) _ o in
      let o₂ = and_both (told language.heads parentheses y) (told language.heads parentheses z) o₁.1 in
      let s₁ = and_both (stops x) _ s in
      let s₂ = and_both (stops y) (stops z) s₁.1 in
      let v₁ = and_both (free end_kinds script x) _ v in
      let v₂ = and_both (free end_kinds script y) (free end_kinds script z) v₁.1 in
      let w₁ = and_both (if-hangs (hangs x) (firsts language.heads y ++ firsts language.heads z)) _ w in
      let w₂ = and_both (still x) _ w₁.1 in
      let w₃ = and_both (still y) (still z) w₂.1 in
      on-agrees test x y z i.1 i.2 (λ e. apart-both (firsts language.heads y) (firsts language.heads z) arrow_kinds (if-implied (hangs x) (firsts language.heads y ++ firsts language.heads z) w₁.0 e))
      (guided-agrees x i.0 d₂.0 o₁.0 s₁.0 v₁.0 w₂.0 k.0) (guided-agrees y i.1 d₃.0 o₂.0 s₂.0 v₂.0 w₃.0 k.1) (guided-agrees z i.2 d₃.1 o₂.1 s₂.1 v₂.1 w₃.1 k.2) ts f small

-- Each rule.
pub rule-agrees : (limit depth n : ℕ) → (n == script) ≡ false → (ts : List Token) → Fine ts → length ts < limit → Agrees (hanging n) ts (rule depth n ts) (read language limit depth n ts)
unfolding rule_at read
rule-agrees limit zero n o ts f small = by (starts language (among (language.heads n)) ts)
  where
    by : (b : Bool) → Agrees (hanging n) ts (Err (too_far b ts)) (Err (b, ts))
    by true = inr (inr (true, false, ts, refl, refl, within-self ts f.1))
    by false = inr (inr (false, false, ts, refl, refl, within-self ts f.1))
rule-agrees limit (suc depth) n o ts f small =
    let q = in-place language follows language-fits n (language.rules n) refl in
    let p = in-pairs language follows language-fits parentheses language-told n (language.rules n) refl in
    let k = each-still n in
    agrees-more (hangs (language.rules n)) (hanging n) k.0 ts _ _
    (guided-agrees limit depth (rule-agrees limit depth) (language.rules n) q.4 q.3 p.2 (each-stops n) (each-free n o) k.1 (each-forks n) ts f small)
