-- What is a script by the kinds of tokens that the grammar tells apart is one by the tokens' symbols.
use Rattle.std.proofs.Common.{inl, inr, true, false, Bool, ◌≡◌, ℕ, zero, suc, ◌<◌, List, [], ◌∷◌, ◌++◌, Ok, Err, refl, ap, sym, subst, ◌∙◌, arith}
use Rattle.std.proofs.lemmas.List.{append-nil}
use Rattle.std.proofs.lemmas.Bool.{ltb-true}
use Rattle.std.specs.Prelude.{if◌then◌else◌, nat_lt}
use Rattle.grammar.specs.Kinds.{among, and}
use Rattle.grammar.specs.Grammar.{Tree, tip, leaf, pair, node, Grammar, empty, token, call, line, both, either, fork, many, named, prefer, starting, on, Relation, Chain, Derives, Spells, starts, entry}
use Rattle.grammar.specs.Reading.{Answer, ◌>>=◌, firsts, furthest, choose, refused, many_at, read_at, read}
use Rattle.grammar.specs.Tests.{InPlace}
use Rattle.grammar.proofs.Laws.{rows, read_at-sound, read-sound, second, turn}
use Rattle.grammar.proofs.Sets.{and_both, test_was}
use Rattle.grammar.proofs.Fronts.{spells-front, derives-front}
use Rattle.grammar.proofs.Limits.{bind-agree, perhaps-agree, choose-agree}
use Rattle.js_token.specs.declared.token.Token.{Token}
use Rattle.js_grammar.specs.Kinds.{kind_of, kinds, unbroken_kinds, names, reserved, place_in, marks, words, contextual}
use Rattle.js_grammar.specs.Script.{rules, script_language, pattern_rule, primary_rule, member_rule, left_rule, unary_rule, mul_rule, add_rule, shift_rule, rel_rule, equal_rule, bit_and_rule, bit_xor_rule, bit_or_rule, and_rule, or_rule, short_rule, cond_rule, assign_rule, expr_rule, arrow_rule, prefixed_rule, new_rule, group_rule, index_rule, computed_rule, array_rule, arguments_rule, template_rule, object_rule, function_rule, declared_rule, parameters_rule, no_parameters_rule, one_parameter_rule, stmt_rule, item_rule, block_rule, for_rule, script_rule}
use Rattle.js_grammar.proofs.Passes.{script-fits}
use Rattle.parse_laws.proofs.Walk.{language}
use Rattle.parse_laws.proofs.Kinded.{Low, Same, low-same}

-- ---- each token of what is derived is of a kind that some rule names

unfoldable pub below : List ℕ → Bool
below [] = true
below (k ∷ ks) = and (nat_lt k 160) (below ks)

pub below-tells : (ks : List ℕ) (k : ℕ) → below ks ≡ true → among ks k ≡ true → k < 160
unfolding below among
below-tells [] k b a = absurd (cc (a))
below-tells (x ∷ xs) k b a =
    let b₁ = and_both (nat_lt x 160) (below xs) b in
    elim (test_was (Rattle.std.specs.Prelude.eqb x k) true (among xs k) true a) [
      | inl h ↦ let same : x ≡ k = Rattle.grammar.proofs.Laws.same_number x k h.0 in let less : x < 160 = ltb-true x 160 b₁.0 in omega (arith, same, less)
      | inr h ↦ below-tells xs k b₁.1 h.1
    ]

unfoldable pub low : Grammar Token → Bool
low empty = true
low (token ks) = below ks
low (call name) = true
low (line name x) = true
low (both x y) = and (low x) (low y)
low (either x y) = and (low x) (low y)
low (fork stop x y) = and (low x) (low y)
low (many more x) = low x
low (named name x) = low x
low (prefer ks x) = low x
low (starting test x) = low x
low (on test x y z) = and (low x) (and (low y) (low z))

unfoldable pub AllLow : List (Grammar Token) → Type 0
AllLow [] = Unit {0}
AllLow (x ∷ xs) = (low x ≡ true) × AllLow xs

pub low-at : (xs : List (Grammar Token)) (n : ℕ) → AllLow xs → low (entry (token []) xs n) ≡ true
unfolding AllLow entry low below
low-at [] n a = refl
low-at (x ∷ xs) zero a = a.0
low-at (x ∷ xs) (suc n) a = low-at xs n a.1

pub rules-low : AllLow rules
unfolding AllLow low below kinds unbroken_kinds names reserved place_in marks words contextual Rattle.grammar.specs.Kinds.alike rules pattern_rule primary_rule member_rule left_rule unary_rule mul_rule add_rule shift_rule rel_rule equal_rule bit_and_rule bit_xor_rule bit_or_rule and_rule or_rule short_rule cond_rule assign_rule expr_rule arrow_rule prefixed_rule new_rule group_rule index_rule computed_rule array_rule arguments_rule template_rule object_rule function_rule declared_rule parameters_rule no_parameters_rule one_parameter_rule stmt_rule item_rule block_rule for_rule script_rule
rules-low = (refl, (refl, (refl, (refl, (refl, (refl, (refl, (refl, (refl, (refl, (refl, (refl, (refl, (refl, (refl, (refl, (refl, (refl, (refl, (refl, (refl, (refl, (refl, (refl, (refl, (refl, (refl, (refl, (refl, (refl, (refl, (refl, (refl, (refl, (refl, (refl, (refl, (refl, (refl, (refl, (refl, (refl, (refl, (refl, (refl, (refl, (refl, (refl, (refl, (refl, (refl, (refl, (refl, (refl, (refl, (refl, (refl, (refl, tt))))))))))))))))))))))))))))))))))))))))))))))))))))))))))

pub each-low : (n : ℕ) → low (script_language.rules n) ≡ true
unfolding script_language
each-low n = low-at rules n rules-low

abbrev pub LowOnes : List Token → Type 0
LowOnes [] = Unit {0}
LowOnes (t ∷ ts) = Low t × LowOnes ts

pub low-both : (f g : List Token) → LowOnes f → LowOnes g → LowOnes (f ++ g)
low-both [] g n m = m
low-both (t ∷ f) g n m = (n.0, low-both f g n.1 m)

abbrev pub LowFront : List Token → List Token → Type 0
LowFront ts rest = (f : List Token) × (ts ≡ f ++ rest) × LowOnes f

abbrev pub Lows : Relation Token → Type 0
Lows Q = (ts rest : List Token) (a : Tree Token) → Q ts rest a → LowFront ts rest

pub two-low : (ts mid rest : List Token) → LowFront ts mid → LowFront mid rest → LowFront ts rest
two-low ts mid rest g k = (g.0 ++ k.0, rows g.0 k.0 ts mid rest g.1 k.1, low-both g.0 k.0 g.2 k.2)

pub chain-low : (Q : Relation Token) (more : Tree Token → Bool) → Lows Q → (a : Tree Token) (ts rest : List Token) → Chain Q more a ts rest → LowFront ts rest
unfolding Chain
chain-low Q more w tip ts rest e = ([], e, tt)
chain-low Q more w (leaf t) ts rest e = absurd e
chain-low Q more w (pair a b) ts rest e = two-low ts e.0 rest (w ts e.0 a e.1) (elim e.2 [ inl h ↦ chain-low Q more w b e.0 rest h.1 | inr h ↦ ([], h.1, tt) ])
chain-low Q more w (node name a) ts rest e = absurd e

pub spells-low : (R : ℕ → Relation Token) → ((n : ℕ) → Lows (R n)) → (x : Grammar Token) → InPlace script_language.rules x → low x ≡ true → Lows (Spells script_language R x)
unfolding Spells low InPlace script_language
spells-low R w empty p v ts rest a e = ([], e.0, tt)
spells-low R w (token ks) p v ts rest a e = (e.0 ∷ [], e.1, (below-tells ks (kind_of e.0) v e.2, tt))
spells-low R w (call name) p v ts rest a e = w name ts rest a e
spells-low R w (line name x) p v ts rest a e =
    spells-low R w x (subst (InPlace script_language.rules) (sym p) (script-fits name).1) (subst (λ y. low y ≡ true) (sym p) (each-low name)) ts rest a e
spells-low R w (both x y) p v ts rest a e =
    let v₁ = and_both (low x) (low y) v in two-low ts e.0 rest (spells-low R w x p.0 v₁.0 ts e.0 e.1 e.3) (spells-low R w y p.1 v₁.1 e.0 rest e.2 e.4)
spells-low R w (either x y) p v ts rest a e =
    let v₁ = and_both (low x) (low y) v in elim e [ inl h ↦ spells-low R w x p.0 v₁.0 ts rest a h | inr h ↦ spells-low R w y p.1 v₁.1 ts rest a h ]
spells-low R w (fork stop x y) p v ts rest a e =
    let v₁ = and_both (low x) (low y) v in elim e [ inl h ↦ spells-low R w x p.0 v₁.0 ts rest a h | inr h ↦ spells-low R w y p.1 v₁.1 ts rest a h ]
spells-low R w (many more x) p v ts rest a e = chain-low (Spells script_language R x) more (spells-low R w x p v) a ts rest e
spells-low R w (named name x) p v ts rest a e = spells-low R w x p v ts rest e.0 e.1
spells-low R w (prefer ks x) p v ts rest a e = elim e [ inl h ↦ spells-low R w x p v ts rest a h | inr h ↦ ([], h.0, tt) ]
spells-low R w (starting test x) p v ts rest a e = spells-low R w x p v ts rest a e.1
spells-low R w (on test x y z) p v ts rest a e =
    let v₁ = and_both (low x) _ v in
    let v₂ = and_both (low y) (low z) v₁.1 in
    two-low ts e.0 rest (spells-low R w x p.0 v₁.0 ts e.0 e.1 e.3)
    (elim e.4 [ inl h ↦ spells-low R w y p.1 v₂.0 e.0 rest e.2 h.1 | inr h ↦ spells-low R w z p.2 v₂.1 e.0 rest e.2 h.1 ])

pub derives-low : (depth n : ℕ) → Lows (Derives script_language depth n)
unfolding Derives
derives-low zero n ts rest a e = absurd e
derives-low (suc depth) n ts rest a e = spells-low (Derives script_language depth) (derives-low depth) (script_language.rules n) (script-fits n).1 (each-low n) ts rest a e

-- ---- tokens whose kinds are the same by both

abbrev pub AllSame : List Token → Type 0
AllSame [] = Unit {0}
AllSame (t ∷ ts) = Same t × AllSame ts

pub all-same : (ts : List Token) → LowOnes ts → AllSame ts
all-same [] a = tt
all-same (t ∷ ts) a = (low-same t a.0, all-same ts a.1)

pub same-behind : (f ts rest : List Token) → ts ≡ f ++ rest → AllSame ts → AllSame rest
same-behind f ts rest e a = by f (subst AllSame e a)
  where
    by : (f : List Token) → AllSame (f ++ rest) → AllSame rest
    by [] a = a
    by (t ∷ f) a = by f a.1

-- The tokens of what is derived at any depth.
pub derived-same : (depth n : ℕ) (tokens : List Token) (tree : Tree Token) → Derives script_language depth n tokens [] tree → AllSame tokens
derived-same depth n tokens tree d =
    let k = derives-low depth n tokens [] tree d in
    all-same tokens (subst LowOnes (sym (append-nil k.0) ∙ sym k.1) k.2)

-- ---- readers by both

abbrev pub Alike : (List Token → Answer Token) → (List Token → Answer Token) → Type 0
Alike rd rd' = (ts : List Token) → AllSame ts → rd ts ≡ rd' ts

-- what is left is a part of what there was
abbrev pub Backs : (List Token → Answer Token) → Type 0
Backs rd = (ts : List Token) (p : Tree Token × List Token) → rd ts ≡ Ok p → AllSame ts → AllSame p.1

pub starts-alike : (test : ℕ → Bool) (ts : List Token) → AllSame ts → starts script_language test ts ≡ starts language test ts
unfolding script_language
starts-alike test [] a = refl
starts-alike test (t ∷ ts) a = ap test a.0

pub if-starts : (test : ℕ → Bool) (ts : List Token) (x y x' y' : Answer Token) → AllSame ts → x ≡ x' → y ≡ y'
    → (if starts script_language test ts then x else y) ≡ (if starts language test ts then x' else y')
if-starts test ts x y x' y' a e f =
    ap (λ b. if b then x else y) (starts-alike test ts a) ∙ ap (λ v. if starts language test ts then v else y) e ∙ ap (λ v. if starts language test ts then x' else v) f

pub many-alike : (test : ℕ → Bool) (more : Tree Token → Bool) (rd rd' : List Token → Answer Token) → Alike rd rd' → Backs rd → (n : ℕ)
    → Alike (many_at script_language test more rd n) (many_at language test more rd' n)
unfolding many_at
many-alike test more rd rd' h s zero ts a = refl
many-alike test more rd rd' h s (suc n) ts a =
    if-starts test ts _ _ _ _ a
    (bind-agree (rd ts) (rd' ts) (turn script_language test more rd n) (turn language test more rd' n) (h ts a)
    (λ p e. ap (λ v. v >>= λ y. Ok (pair p.0 y.0, y.1))
    (perhaps-agree (more p.0) (many_at script_language test more rd n) (many_at language test more rd' n) p.1 (many-alike test more rd rd' h s n p.1 (s ts p e a)))))
    refl

module _ (limit depth : ℕ) (h : (n : ℕ) → Alike (read script_language limit depth n) (read language limit depth n)) where
  abbrev pub r : ℕ → List Token → Answer Token
  r = read script_language limit depth

  abbrev pub r' : ℕ → List Token → Answer Token
  r' = read language limit depth

  pub backs : (x : Grammar Token) → Backs (read_at script_language limit r x)
  backs x ts p e a =
      let d = read_at-sound script_language (Derives script_language depth) limit r (read-sound script_language limit depth) x ts p e in
      let f = spells-front script_language (Derives script_language depth) (derives-front script_language depth) x ts p.1 p.0 d in
      same-behind f.0 ts p.1 f.1 a

  pub read_at-alike : (x : Grammar Token) → Alike (read_at script_language limit r x) (read_at language limit r' x)
  unfolding read_at script_language
  read_at-alike empty ts a = refl
  read_at-alike (token ks) [] a = refl
  read_at-alike (token ks) (t ∷ ts) a = if-starts (among ks) (t ∷ ts) _ _ _ _ a refl refl
  read_at-alike (call name) ts a = h name ts a
  read_at-alike (line name x) ts a = read_at-alike x ts a
  read_at-alike (both x y) ts a =
      bind-agree (read_at script_language limit r x ts) (read_at language limit r' x ts) (second script_language (λ _. read_at script_language limit r y)) (second language (λ _. read_at language limit r' y))
      (read_at-alike x ts a) (λ q e. ap (λ v. v >>= λ z. Ok (pair q.0 z.0, z.1)) (read_at-alike y q.1 (backs x ts q e a)))
  read_at-alike (either x y) ts a = either-alike (firsts script_language.heads x) ts (read_at-alike x ts a) (read_at-alike y ts a) a
    where
      either-alike : (ks : List ℕ) (ts : List Token) → read_at script_language limit r x ts ≡ read_at language limit r' x ts → read_at script_language limit r y ts ≡ read_at language limit r' y ts
          → AllSame ts → (if starts script_language (among ks) ts then read_at script_language limit r x ts else read_at script_language limit r y ts)
          ≡ (if starts language (among ks) ts then read_at language limit r' x ts else read_at language limit r' y ts)
      either-alike ks ts e f a = if-starts (among ks) ts _ _ _ _ a e f
  read_at-alike (fork stop x y) ts a =
      ap (λ v. furthest v (read_at script_language limit r y ts))
      (bind-agree (read_at script_language limit r x ts) (read_at language limit r' x ts) _ (λ q. if starts language (among stop) q.1 then Err (false, q.1) else Ok (q.0, q.1)) (read_at-alike x ts a)
      (λ q e. if-starts (among stop) q.1 _ _ _ _ (backs x ts q e a) refl refl))
      ∙ ap (λ v. furthest (refused language stop (read_at language limit r' x ts)) v) (read_at-alike y ts a)
  read_at-alike (many more x) ts a = many-alike (among (firsts script_language.heads x)) more (read_at script_language limit r x) (read_at language limit r' x) (read_at-alike x) (backs x) limit ts a
  read_at-alike (named name x) ts a = ap (λ v. v >>= λ q. Ok (node name q.0, q.1)) (read_at-alike x ts a)
  read_at-alike (prefer ks x) ts a = if-starts (among ks) ts _ _ _ _ a (read_at-alike x ts a) refl
  read_at-alike (starting test x) ts a = if-starts test ts _ _ _ _ a (read_at-alike x ts a) refl
  read_at-alike (on test x y z) ts a =
      bind-agree (read_at script_language limit r x ts) (read_at language limit r' x ts) (second script_language (λ a. choose (test a) (read_at script_language limit r y) (read_at script_language limit r z)))
      (second language (λ a. choose (test a) (read_at language limit r' y) (read_at language limit r' z)))
      (read_at-alike x ts a) (λ q e. ap (λ v. v >>= λ w. Ok (pair q.0 w.0, w.1))
      (choose-agree (test q.0) (read_at script_language limit r y) (read_at language limit r' y) (read_at script_language limit r z) (read_at language limit r' z) q.1
      (read_at-alike y q.1 (backs x ts q e a)) (read_at-alike z q.1 (backs x ts q e a))))

pub heads-same : (n : ℕ) → script_language.heads n ≡ language.heads n
unfolding script_language
heads-same n = refl

pub rules-same : (n : ℕ) → script_language.rules n ≡ language.rules n
unfolding script_language
rules-same n = refl

pub read-alike : (limit depth n : ℕ) → Alike (read script_language limit depth n) (read language limit depth n)
unfolding read
read-alike limit zero n ts a = ap (λ b. Err (b, ts)) (ap (λ ks. starts script_language (among ks) ts) (heads-same n) ∙ starts-alike (among (language.heads n)) ts a)
read-alike limit (suc depth) n ts a =
    read_at-alike limit depth (read-alike limit depth) (script_language.rules n) ts a ∙ ap (λ x. read_at language limit (read language limit depth) x ts) (rules-same n)
