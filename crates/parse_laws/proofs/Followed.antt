-- What the reader of the grammar reads, the reader that goes by what stands ahead reads too.
use Rattle.std.proofs.Common.{inl, inr, true, false, Bool, ◌≡◌, ℕ, zero, suc, ◌≤◌, ◌<◌, List, [], ◌∷◌, length, Ok, Err, refl, ap, sym, subst, ◌∙◌, arith}
use Rattle.std.specs.Prelude.{if◌then◌else◌}
use Rattle.grammar.specs.Kinds.{among, apart, covers, alike, and, not}
use Rattle.grammar.specs.Grammar.{Tree, tip, leaf, pair, node, Grammar, empty, token, call, line, both, either, fork, many, named, prefer, starting, on, Derives, Spells, starts, entry}
use Rattle.grammar.specs.Reading.{Answer, ◌>>=◌, nullable, firsts, perhaps, choose, refused, many_at, read_at, read}
use Rattle.grammar.specs.Tests.{decided, goes_on, InPlace}
use Rattle.grammar.specs.Pairs.{told, leads, alone, before_stop}
use Rattle.grammar.proofs.Sets.{and_both, not_true, test_was, begun-surely, at-covered}
use Rattle.grammar.proofs.Laws.{bind_ok, same_ok, chosen, perhaps_ok, fork_ok, refused_ok, second, turn, read_at-sound, read-sound, same_number}
use Rattle.grammar.proofs.Complete.{in-place, spells-begun, derives-begun}
use Rattle.grammar.proofs.Pairs.{in-pairs}
use Rattle.js_token.specs.declared.token.Token.{Token}
use Rattle.js_grammar.specs.Kinds.{kinds}
use Rattle.js_grammar.specs.Script.{rules, arrow_kinds, pattern_rule, primary_rule, member_rule, left_rule, unary_rule, mul_rule, add_rule, shift_rule, rel_rule, equal_rule, bit_and_rule, bit_xor_rule, bit_or_rule, and_rule, or_rule, short_rule, cond_rule, assign_rule, expr_rule, arrow_rule, prefixed_rule, new_rule, group_rule, index_rule, computed_rule, array_rule, arguments_rule, template_rule, object_rule, function_rule, declared_rule, parameters_rule, no_parameters_rule, one_parameter_rule, stmt_rule, item_rule, block_rule, for_rule, script_rule}
use Rattle.js_grammar.proofs.Tables.{parentheses}
use Rattle.parse_laws.proofs.Guided.{Told, Was, Goes, done, called, first_of, forked, opens_next, many_of, guided, rule_at, many-continues, guided-continues}
use Rattle.parse_laws.proofs.Walk.{language, language-fits, ahead, rule}
use Rattle.parse_laws.proofs.Begun.{tables}
use Rattle.parse_laws.proofs.Ahead.{follows, language-told, first-ahead, second-ahead}

-- ---- each fork is one before an arrow, and begins as its first part does

unfoldable pub stops : Grammar Token → Bool
stops empty = true
stops (token kinds) = true
stops (call name) = true
stops (line name x) = true
stops (both x y) = and (stops x) (stops y)
stops (either x y) = and (stops x) (stops y)
stops (fork stop x y) = and (alike stop arrow_kinds) (and (and (not (nullable y)) (covers (firsts language.heads x) (firsts language.heads y))) (and (stops x) (stops y)))
stops (many more x) = stops x
stops (named name x) = stops x
stops (prefer kinds x) = stops x
stops (starting test x) = stops x
stops (on test x y z) = and (stops x) (and (stops y) (stops z))

unfoldable pub AllStop : List (Grammar Token) → Type 0
AllStop [] = Unit {0}
AllStop (x ∷ xs) = (stops x ≡ true) × AllStop xs

pub stop-at : (xs : List (Grammar Token)) (n : ℕ) → AllStop xs → stops (entry (token []) xs n) ≡ true
unfolding AllStop entry stops
stop-at [] n a = refl
stop-at (x ∷ xs) zero a = a.0
stop-at (x ∷ xs) (suc n) a = stop-at xs n a.1

pub rules-stop : AllStop rules
unfolding AllStop stops tables apart covers rules pattern_rule primary_rule member_rule left_rule unary_rule mul_rule add_rule shift_rule rel_rule equal_rule bit_and_rule bit_xor_rule bit_or_rule and_rule or_rule short_rule cond_rule assign_rule expr_rule arrow_rule prefixed_rule new_rule group_rule index_rule computed_rule array_rule arguments_rule template_rule object_rule function_rule declared_rule parameters_rule no_parameters_rule one_parameter_rule stmt_rule item_rule block_rule for_rule script_rule
rules-stop = (refl, (refl, (refl, (refl, (refl, (refl, (refl, (refl, (refl, (refl, (refl, (refl, (refl, (refl, (refl, (refl, (refl, (refl, (refl, (refl, (refl, (refl, (refl, (refl, (refl, (refl, (refl, (refl, (refl, (refl, (refl, (refl, (refl, (refl, (refl, (refl, (refl, (refl, (refl, (refl, (refl, (refl, (refl, (refl, (refl, (refl, (refl, (refl, (refl, (refl, (refl, (refl, (refl, (refl, (refl, (refl, (refl, (refl, tt))))))))))))))))))))))))))))))))))))))))))))))))))))))))))

pub each-stops : (n : ℕ) → stops (language.rules n) ≡ true
each-stops n = stop-at rules n rules-stop

pub alike-same : (xs ys : List ℕ) → alike xs ys ≡ true → xs ≡ ys
unfolding alike
alike-same [] [] e = refl
alike-same [] (y ∷ ys) e = absurd (cc (e))
alike-same (x ∷ xs) [] e = absurd (cc (e))
alike-same (x ∷ xs) (y ∷ ys) e = elim (test_was (Rattle.std.specs.Prelude.eqb x y) (alike xs ys) false true e) [
  | inl h ↦ let n : x ≡ y = same_number x y h.0 in let m : xs ≡ ys = alike-same xs ys h.1 in cc (n, m)
  | inr h ↦ absurd (cc (h.1))
]

-- ---- one step

pub if-yes : {A : Type 0} (b : Bool) (x y z : A) → b ≡ true → x ≡ z → (if b then x else y) ≡ z
if-yes true x y z e h = h
if-yes false x y z e h = absurd (cc (e))

pub if-no : {A : Type 0} (b : Bool) (x y z : A) → b ≡ false → y ≡ z → (if b then x else y) ≡ z
if-no true x y z e h = absurd (cc (e))
if-no false x y z e h = h

pub some-of : {A : Type 0} (p q : Tree A × List A) → ◌≡◌ {A = Answer A} (Ok p) (Ok q) → ◌≡◌ {A = Told (Tree A × List A)} (Ok p) (Ok q)
some-of p q e = ap (λ p. Ok p) (same_ok p q e)

-- the first of a fork, where no arrow comes
pub by-first : (b c a : Bool) (x y : Was Token) (p : Tree Token × List Token) → a ≡ false → x ≡ Ok p → (if b then called (forked c a x y) done else x) ≡ Ok p
by-first true true true x y p e f = absurd (cc (e))
by-first true true false x y p e f = ap (λ x. called (first_of x y) done) f
by-first true false true x y p e f = absurd (cc (e))
by-first true false false x y p e f = ap (λ x. called x done) f
by-first false c a x y p e f = f

-- the second, where one comes
pub by-second : (b c a : Bool) (x y : Was Token) (p : Tree Token × List Token) → b ≡ true → a ≡ true → y ≡ Ok p → (if b then called (forked c a x y) done else x) ≡ Ok p
by-second true true true x y p d e f = ap (λ y. called (first_of y x) done) f
by-second true true false x y p d e f = absurd (cc (e))
by-second true false true x y p d e f = ap (λ y. called y done) f
by-second true false false x y p d e f = absurd (cc (e))
by-second false c a x y p d e f = absurd (cc (d))

module _ (depth : ℕ) where
  abbrev pub Read : Type 0
  Read = Tree Token × List Token

  -- what goes on goes on with what was read
  pub then-on : {C : Type 0} (x : Grammar Token) (ts : List Token) (q : Read) (k : Goes Token C) → guided language ahead (rule depth) x ts done ≡ Ok q
      → guided language ahead (rule depth) x ts k ≡ k q.0 q.1
  then-on {C} x ts q k e = guided-continues language ahead (rule depth) C x ts k ∙ ap (λ w. called w k) e

  -- The one reads what the other does.
  abbrev pub Follows : (List Token → Answer Token) → (List Token → Goes Token Read → Was Token) → Type 0
  Follows rd g = (ts : List Token) (p : Read) → rd ts ≡ Ok p → g ts done ≡ Ok p

  abbrev pub Shorter : (List Token → Answer Token) → Type 0
  Shorter rd = (ts : List Token) (p : Read) → rd ts ≡ Ok p → length p.1 < length ts

  pub many-follows : (test : ℕ → Bool) (more : Tree Token → Bool) (x : Grammar Token) (rd : List Token → Answer Token) → Follows rd (guided language ahead (rule depth) x) → Shorter rd
      → (n m : ℕ) (ts : List Token) (p : Read) → length ts ≤ m → many_at language test more rd n ts ≡ Ok p
      → many_of language test more (guided language ahead (rule depth) x) m ts done ≡ Ok p
  unfolding many_at many_of
  many-follows test more x rd h s zero m ts p few e = absurd (cc (e))
  many-follows test more x rd h s (suc n) zero [] p few e = some-of _ _ e
  many-follows test more x rd h s (suc n) zero (t ∷ ts) p few e = absurd (omega (arith, few))
  many-follows test more x rd h s (suc n) (suc m) ts p few e =
      elim (chosen (starts language test ts) (rd ts >>= turn language test more rd n) (Ok (tip, ts)) (Ok p) e) [
        | inl j ↦
            let g = guided language ahead (rule depth) x in
            let con = guided-continues language ahead (rule depth) Read x in
            let f = bind_ok (rd ts) (turn language test more rd n) p j.1 in
            let k = bind_ok (perhaps (more (f.0).0) (many_at language test more rd n) (f.0).1) (λ y. Ok (pair (f.0).0 y.0, y.1)) p f.2 in
            let less = s ts f.0 f.1 in
            if-yes _ _ _ _ j.0 (then-on x ts f.0 _ (h ts f.0 f.1) ∙ elim (perhaps_ok (more (f.0).0) (many_at language test more rd n) (f.0).1 k.0 k.1) [
              | inl i ↦
                  if-yes _ _ _ _ i.0 (many-continues language Read test more g g con con m (f.0).1 _
                  ∙ ap (λ w. called w (λ b end. done (pair (f.0).0 b) end)) (many-follows test more x rd h s n m (f.0).1 k.0 (omega (arith, few, less)) i.1) ∙ some-of _ _ k.2)
              | inr i ↦ if-no _ _ _ _ i.0 (ap (λ r. Ok (pair (f.0).0 r.0, r.1)) (same-both tip (k.0).0 (f.0).1 (k.0).1 (sym i.2) i.1) ∙ some-of _ _ k.2)
            ])
        | inr j ↦ if-no _ _ _ _ j.0 (some-of _ _ j.1)
      ]
    where
      same-both : (a b : Tree Token) (us vs : List Token) → a ≡ b → us ≡ vs → ◌≡◌ {A = Tree Token × List Token} (a, us) (b, vs)
      same-both a b us vs e f = λ i. (e i, f i)

  module _ (limit : ℕ) (h : (n : ℕ) (ts : List Token) (p : Read) → read language limit depth n ts ≡ Ok p → rule depth n ts ≡ Ok p) where
    abbrev pub r : ℕ → List Token → Answer Token
    r = read language limit depth

    pub derived : (x : Grammar Token) (ts : List Token) (p : Read) → read_at language limit r x ts ≡ Ok p → Spells language (Derives language depth) x ts p.1 p.0
    derived x ts p e = read_at-sound language (Derives language depth) limit r (read-sound language limit depth) x ts p e

    pub read_at-follows : (x : Grammar Token) → InPlace language.rules x → decided language.heads follows x ≡ true → told language.heads parentheses x ≡ true → stops x ≡ true
        → Follows (read_at language limit r x) (guided language ahead (rule depth) x)
    unfolding read_at guided decided told stops InPlace
    read_at-follows empty i d o s ts p e = some-of _ _ e
    read_at-follows (token kinds) i d o s [] p e = absurd (cc (e))
    read_at-follows (token kinds) i d o s (t ∷ ts) p e =
        elim (chosen (among kinds (language.kind t)) (Ok (leaf t, ts)) (Err (false, t ∷ ts)) (Ok p) e) [
          | inl j ↦ if-yes _ _ _ _ j.0 (some-of _ _ j.1)
          | inr j ↦ absurd (let wrong = j.1 in cc (wrong))
        ]
    read_at-follows (call name) i d o s ts p e = ap (λ w. called w done) (h name ts p e)
    read_at-follows (line name x) i d o s ts p e =
        let q = in-place language follows language-fits name x i in
        let w = in-pairs language follows language-fits parentheses language-told name x i in
        read_at-follows x q.4 q.3 w.2 (subst (λ y. stops y ≡ true) (sym i) (each-stops name)) ts p e
    read_at-follows (both x y) i d o s ts p e =
        let d₁ = and_both (apart (goes_on language.heads follows x) (firsts language.heads y)) _ d in
        let d₂ = and_both (decided language.heads follows x) (decided language.heads follows y) d₁.1 in
        let o₁ = and_both (told language.heads parentheses x) (told language.heads parentheses y) o in
        let s₁ = and_both (stops x) (stops y) s in
        let k = bind_ok (read_at language limit r x ts) (second language (λ _. read_at language limit r y)) p e in
        let f = bind_ok (read_at language limit r y (k.0).1) (λ q. Ok (pair (k.0).0 q.0, q.1)) p k.2 in
        then-on x ts k.0 _ (read_at-follows x i.0 d₂.0 o₁.0 s₁.0 ts k.0 k.1)
        ∙ then-on y (k.0).1 f.0 _ (read_at-follows y i.1 d₂.1 o₁.1 s₁.1 (k.0).1 f.0 f.1) ∙ some-of _ _ f.2
    read_at-follows (either x y) i d o s ts p e =
        let d₁ = and_both (not (nullable x)) _ d in
        let d₂ = and_both (apart (firsts language.heads x) (firsts language.heads y)) _ d₁.1 in
        let d₃ = and_both (decided language.heads follows x) (decided language.heads follows y) d₂.1 in
        let o₁ = and_both (told language.heads parentheses x) (told language.heads parentheses y) o in
        let s₁ = and_both (stops x) (stops y) s in
        elim (chosen (starts language (among (firsts language.heads x)) ts) (read_at language limit r x ts) (read_at language limit r y ts) (Ok p) e) [
          | inl j ↦ if-yes _ _ _ _ j.0 (read_at-follows x i.0 d₃.0 o₁.0 s₁.0 ts p j.1)
          | inr j ↦ if-no _ _ _ _ j.0 (read_at-follows y i.1 d₃.1 o₁.1 s₁.1 ts p j.1)
        ]
    read_at-follows (fork stop x y) i d o s ts p e =
        let d₁ = and_both (decided language.heads follows x) (decided language.heads follows y) d in
        let o₁ = and_both (and (and (leads language.heads parentheses stop x) (alone language.heads parentheses stop x)) (before_stop language.heads parentheses stop y)) _ o in
        let o₂ = and_both (and (leads language.heads parentheses stop x) (alone language.heads parentheses stop x)) (before_stop language.heads parentheses stop y) o₁.0 in
        let o₃ = and_both (leads language.heads parentheses stop x) (alone language.heads parentheses stop x) o₂.0 in
        let o₄ = and_both (told language.heads parentheses x) (told language.heads parentheses y) o₁.1 in
        let s₁ = and_both (alike stop arrow_kinds) _ s in
        let s₃ = and_both (and (not (nullable y)) (covers (firsts language.heads x) (firsts language.heads y))) (and (stops x) (stops y)) s₁.1 in
        let s₄ = and_both (not (nullable y)) (covers (firsts language.heads x) (firsts language.heads y)) s₃.0 in
        let s₂ = and_both (stops x) (stops y) s₃.1 in
        let same : stop ≡ arrow_kinds = alike-same stop arrow_kinds s₁.0 in
        elim (fork_ok (refused language stop (read_at language limit r x ts)) (read_at language limit r y ts) p e) [
          | inl j ↦
              let k = refused_ok language stop (read_at language limit r x ts) p j in
              let off = first-ahead depth x i.0 (subst (λ stop. leads language.heads parentheses stop x ≡ true) same o₃.0) (subst (λ stop. alone language.heads parentheses stop x ≡ true) same o₃.1)
              ts p.1 p.0 (derived x ts p k.0) (subst (λ stop. starts language (among stop) p.1 ≡ false) same k.1) in
              by-first (starts language (among (firsts language.heads x)) ts) (opens_next ts) (ahead ts) (guided language ahead (rule depth) x ts done) (guided language ahead (rule depth) y ts done) p off (read_at-follows x i.0 d₁.0 o₄.0 s₂.0 ts p k.0)
          | inr j ↦
              let comes = second-ahead depth y i.1 (subst (λ stop. before_stop language.heads parentheses stop y ≡ true) same o₂.1) ts p.1 p.0 (derived y ts p j.0) in
              let begun = begun-surely language (firsts language.heads y) (nullable y) ts p.1 (not_true (nullable y) s₄.0)
              (spells-begun language follows language-fits (Derives language depth) (derives-begun language follows language-fits depth) y i.1 ts p.1 p.0 (derived y ts p j.0)) in
              by-second (starts language (among (firsts language.heads x)) ts) (opens_next ts) (ahead ts) (guided language ahead (rule depth) x ts done) (guided language ahead (rule depth) y ts done) p
              (at-covered language (firsts language.heads x) (firsts language.heads y) ts s₄.1 begun.0) comes (read_at-follows y i.1 d₁.1 o₄.1 s₂.1 ts p j.0)
        ]
    read_at-follows (many more x) i d o s ts p e =
        let d₁ = and_both (not (nullable x)) _ d in
        let d₂ = and_both (apart (goes_on language.heads follows x) (firsts language.heads x)) (decided language.heads follows x) d₁.1 in
        many-follows (among (firsts language.heads x)) more x (read_at language limit r x) (read_at-follows x i d₂.1 o s)
        (λ ts q e. (begun-surely language (firsts language.heads x) (nullable x) ts q.1 (not_true (nullable x) d₁.0)
        (spells-begun language follows language-fits (Derives language depth) (derives-begun language follows language-fits depth) x i ts q.1 q.0 (derived x ts q e))).1)
        limit (length ts) ts p (omega arith) e
    read_at-follows (named name x) i d o s ts p e =
        let k = bind_ok (read_at language limit r x ts) (λ q. Ok (node name q.0, q.1)) p e in
        then-on x ts k.0 _ (read_at-follows x i d o s ts k.0 k.1) ∙ some-of _ _ k.2
    read_at-follows (prefer kinds x) i d o s ts p e =
        let d₁ = and_both (not (nullable x)) _ d in
        let d₂ = and_both (covers kinds (firsts language.heads x)) (decided language.heads follows x) d₁.1 in
        elim (chosen (starts language (among kinds) ts) (read_at language limit r x ts) (Ok (tip, ts)) (Ok p) e) [
          | inl j ↦ if-yes _ _ _ _ j.0 (read_at-follows x i d₂.1 o s ts p j.1)
          | inr j ↦ if-no _ _ _ _ j.0 (some-of _ _ j.1)
        ]
    read_at-follows (starting test x) i d o s ts p e =
        let d₁ = and_both (not (nullable x)) _ d in
        elim (chosen (starts language test ts) (read_at language limit r x ts) (Err (false, ts)) (Ok p) e) [
          | inl j ↦ if-yes _ _ _ _ j.0 (read_at-follows x i d₁.1 o s ts p j.1)
          | inr j ↦ absurd (let wrong = j.1 in cc (wrong))
        ]
    read_at-follows (on test x y z) i d o s ts p e =
        let d₁ = and_both (apart (goes_on language.heads follows x) _) _ d in
        let d₂ = and_both (decided language.heads follows x) _ d₁.1 in
        let d₃ = and_both (decided language.heads follows y) (decided language.heads follows z) d₂.1 in
        let o₁ = and_both (told language.heads parentheses x) _ o in
        let o₂ = and_both (told language.heads parentheses y) (told language.heads parentheses z) o₁.1 in
        let s₁ = and_both (stops x) _ s in
        let s₂ = and_both (stops y) (stops z) s₁.1 in
        let k = bind_ok (read_at language limit r x ts) (second language (λ a. choose (test a) (read_at language limit r y) (read_at language limit r z))) p e in
        let f = bind_ok (choose (test (k.0).0) (read_at language limit r y) (read_at language limit r z) (k.0).1) (λ q. Ok (pair (k.0).0 q.0, q.1)) p k.2 in
        then-on x ts k.0 _ (read_at-follows x i.0 d₂.0 o₁.0 s₁.0 ts k.0 k.1)
        ∙ elim (chosen (test (k.0).0) (read_at language limit r y (k.0).1) (read_at language limit r z (k.0).1) (Ok f.0) f.1) [
          | inl j ↦ if-yes _ _ _ _ j.0 (then-on y (k.0).1 f.0 _ (read_at-follows y i.1 d₃.0 o₂.0 s₂.0 (k.0).1 f.0 j.1) ∙ some-of _ _ f.2)
          | inr j ↦ if-no _ _ _ _ j.0 (then-on z (k.0).1 f.0 _ (read_at-follows z i.2 d₃.1 o₂.1 s₂.1 (k.0).1 f.0 j.1) ∙ some-of _ _ f.2)
        ]

-- Each rule, too.
pub read-follows : (limit depth n : ℕ) → Follows depth (read language limit depth n) (λ ts k. called (rule depth n ts) k)
unfolding read rule_at
read-follows limit zero n ts p e = absurd (cc (e))
read-follows limit (suc depth) n ts p e =
    let q = in-place language follows language-fits n (language.rules n) refl in
    let w = in-pairs language follows language-fits parentheses language-told n (language.rules n) refl in
    ap (λ w. called w done) (read_at-follows depth limit (λ n ts p e. uncalled (rule depth n ts) p (read-follows limit depth n ts p e)) (language.rules n) q.4 q.3 w.2 (each-stops n) ts p e)
  where
    uncalled : (w : Was Token) (p : Tree Token × List Token) → called w done ≡ Ok p → w ≡ Ok p
    uncalled (Err d) p e = absurd (cc (e))
    uncalled (Ok q) p e = e
