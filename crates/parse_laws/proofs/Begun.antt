-- What is read where none of the first kinds of a rule comes, and by the kind of the next token.
use Rattle.std.proofs.Common.{inl, inr, true, false, Bool, ◌⊎◌, ◌≡◌, ℕ, zero, suc, List, [], ◌∷◌, ◌++◌, length, refl, ap, sym, ◌∙◌}
use Rattle.std.specs.Prelude.{if◌then◌else◌, Ok, Err}
use Rattle.grammar.specs.Kinds.{among, kept, alike}
use Rattle.grammar.specs.Grammar.{Tree, tip, pair, node, Grammar, empty, token, call, line, both, either, fork, many, named, prefer, starting, on, entry, starts}
use Rattle.grammar.specs.Reading.{firsts, nullable}
use Rattle.grammar.specs.Tests.{InPlace}
use Rattle.grammar.proofs.Sets.{off-left, off-right, off-covered, off-kept, or_right}
use Rattle.grammar.proofs.Complete.{in-place}
use Rattle.js_token.specs.declared.token.Token.{Token}
use Rattle.js_tree.specs.Nodes.{Nodes}
use Rattle.js_grammar.specs.Kinds.{kinds, unbroken_kinds, names, reserved, place_in as kind_place, marks, words, contextual}
use Rattle.js_grammar.specs.Script.{heads}
use Rattle.js_grammar.proofs.Tables.{tails}
use Rattle.js_parse.specs.declared.symbol.Symbol.{Symbol}
use Rattle.js_parse.specs.declared.symbol.Symbol.TheVariants as s
use Rattle.js_parse.specs.Symbols.{of_kind}
use Rattle.js_parse.specs.Input.{Input, Parser, refusal, place, symbol, ◌>>=◌, peek}
use Rattle.parse_laws.specs.Kinds.{token_kind, numbered}
use Rattle.parse_laws.specs.Agreement.{language}
use Rattle.parse_laws.specs.Trees.{Build, symbol_in}
use Rattle.parse_laws.proofs.Guided.{Was, Goes, done, called, taking, many_of, guided, rule_at, guided-continues, wrong, too_far}
use Rattle.parse_laws.proofs.Sound.{vacant, or_left}
use Rattle.parse_laws.proofs.Walk.{ahead, rule, told, built, Sim, none-at_end, by-first, at_kind, if-alike, language-fits}

-- ---- where none of its first kinds comes

pub chosen-false : {A : Type 0} (b : Bool) (x y : A) → b ≡ false → (if b then x else y) ≡ y
chosen-false true x y e = absurd (cc (e))
chosen-false false x y e = refl

pub chosen-true : {A : Type 0} (b : Bool) (x y : A) → b ≡ true → (if b then x else y) ≡ x
chosen-true true x y e = refl
chosen-true false x y e = absurd (cc (e))

-- Nothing is read, or nothing is there, where it may be empty.
abbrev pub Stays : Bool → List Token → Was Token → Type 0
Stays none ts w = (w ≡ Err (wrong ts)) ⊎ ((none ≡ true) × (a : Tree Token) × (w ≡ Ok (a, ts)))

pub stays-then : {C : Type 0} (none : Bool) (ts : List Token) (w : Was Token) (k : Goes Token C) → Stays none ts w
    → (called w k ≡ Err (wrong ts)) ⊎ ((none ≡ true) × (a : Tree Token) × (called w k ≡ k a ts))
stays-then none ts w k e = elim e [ inl h ↦ inl (ap (λ w. called w k) h) | inr h ↦ inr (h.0, h.1, ap (λ w. called w k) h.2) ]

pub stays-if : (b none : Bool) (ts : List Token) (x y : Was Token) → (b ≡ true → Stays none ts x) → (b ≡ false → Stays none ts y) → Stays none ts (if b then x else y)
stays-if true none ts x y v w = v refl
stays-if false none ts x y v w = w refl

module _ (r : ℕ → List Token → Was Token) (ts : List Token) (h : (n : ℕ) → starts language (among (language.heads n)) ts ≡ false → r n ts ≡ Err (wrong ts)) where
  -- The second of a pair, behind what took nothing.
  pub second-stays : (none : Bool) (a : Tree Token) (y : Grammar Token) → Stays none ts (guided language ahead r y ts done) → Stays none ts (guided language ahead r y ts (λ b rest. done (pair a b) rest))
  second-stays none a y w = elim (stays-then none ts (guided language ahead r y ts done) (λ b rest. done (pair a b) rest) w) [
    | inl f ↦ inl (guided-continues language ahead r (Tree Token × List Token) y ts _ ∙ f)
    | inr f ↦ inr (f.0, pair a f.1, guided-continues language ahead r (Tree Token × List Token) y ts _ ∙ f.2)
  ]

  pub last-off : (b : Bool) (xs ys : List ℕ) → starts language (among (xs ++ (if b then ys else []))) ts ≡ false → b ≡ true → starts language (among ys) ts ≡ false
  last-off true xs ys o n = off-right language xs ys ts o
  last-off false xs ys o n = absurd (cc (n))

  pub taken-stays : (kinds : List ℕ) (us : List Token) → starts language (among kinds) us ≡ false → taking language kinds us done ≡ Err (wrong us)
  taken-stays kinds [] o = refl
  taken-stays kinds (u ∷ us) o = chosen-false (among kinds (language.kind u)) _ _ o

  pub many-stays : (test : ℕ → Bool) (more : Tree Token → Bool) (g : List Token → Goes Token (Tree Token × List Token) → Was Token) (n : ℕ) → starts language test ts ≡ false
      → many_of language test more g n ts done ≡ Ok (tip, ts)
  unfolding many_of
  many-stays test more g zero o = refl
  many-stays test more g (suc n) o = chosen-false (starts language test ts) _ _ o

  pub guided-stays : (x : Grammar Token) → InPlace language.rules x → starts language (among (firsts language.heads x)) ts ≡ false → Stays (nullable x) ts (guided language ahead r x ts done)
  unfolding guided firsts nullable InPlace
  guided-stays empty i o = inr (refl, tip, refl)
  guided-stays (token kinds) i o = inl (taken-stays kinds ts o)
  guided-stays (call name) i o = inl (ap (λ w. called w done) (h name o))
  guided-stays (line name x) i o =
      let t = in-place language (entry [] tails) language-fits name x i in
      elim (guided-stays x t.4 (off-covered language (language.heads name) (firsts language.heads x) ts t.1 o)) [
        | inl e ↦ inl e
        | inr e ↦ absurd (let yes = e.0 in let no = t.0 in cc (yes, no))
      ]
  guided-stays (both x y) i o =
      elim (stays-then (nullable x) ts (guided language ahead r x ts done) (λ a mid. guided language ahead r y mid (λ b rest. done (pair a b) rest)) (guided-stays x i.0 (off-left language (firsts language.heads x) _ ts o))) [
        | inl e ↦ inl (guided-continues language ahead r (Tree Token × List Token) x ts _ ∙ e)
        | inr e ↦ elim (second-stays (nullable y) e.1 y (guided-stays y i.1 (last-off (nullable x) (firsts language.heads x) (firsts language.heads y) o e.0))) [
          | inl f ↦ inl (guided-continues language ahead r (Tree Token × List Token) x ts _ ∙ e.2 ∙ f)
          | inr f ↦ inr (chosen-true (nullable x) (nullable y) false e.0 ∙ f.0, f.1, guided-continues language ahead r (Tree Token × List Token) x ts _ ∙ e.2 ∙ f.2)
        ]
      ]
  guided-stays (either x y) i o =
      elim (guided-stays y i.1 (off-right language (firsts language.heads x) (firsts language.heads y) ts o)) [
        | inl e ↦ inl (chosen-false (starts language (among (firsts language.heads x)) ts) _ _ (off-left language (firsts language.heads x) (firsts language.heads y) ts o) ∙ e)
        | inr e ↦ inr (or_right (nullable x) (nullable y) e.0, e.1, chosen-false (starts language (among (firsts language.heads x)) ts) _ _ (off-left language (firsts language.heads x) (firsts language.heads y) ts o) ∙ e.2)
      ]
  guided-stays (fork stop x y) i o =
      let off = off-left language (firsts language.heads x) (firsts language.heads y) ts o in
      elim (guided-stays x i.0 off) [
        | inl e ↦ inl (chosen-false (starts language (among (firsts language.heads x)) ts) _ _ off ∙ e)
        | inr e ↦ inr (or_left (nullable x) (nullable y) e.0, e.1, chosen-false (starts language (among (firsts language.heads x)) ts) _ _ off ∙ e.2)
      ]
  guided-stays (many more x) i o = inr (refl, tip, many-stays (among (firsts language.heads x)) more (guided language ahead r x) (length ts) o)
  guided-stays (named name x) i o =
      elim (stays-then (nullable x) ts (guided language ahead r x ts done) (λ a rest. done (node name a) rest) (guided-stays x i o)) [
        | inl e ↦ inl (guided-continues language ahead r (Tree Token × List Token) x ts _ ∙ e)
        | inr e ↦ inr (e.0, node name e.1, guided-continues language ahead r (Tree Token × List Token) x ts _ ∙ e.2)
      ]
  guided-stays (prefer kinds x) i o =
      stays-if (starts language (among kinds) ts) true ts (guided language ahead r x ts done) (done tip ts)
      (λ e. elim (guided-stays x i o) [ inl f ↦ inl f | inr f ↦ inr (refl, f.1, f.2) ]) (λ e. inr (refl, tip, refl))
  guided-stays (starting test x) i o =
      stays-if (starts language test ts) (nullable x) ts (guided language ahead r x ts done) (Err (wrong ts))
      (λ e. guided-stays x i (off-kept language test (firsts language.heads x) ts o e)) (λ e. inl refl)
  guided-stays (on test x y z) i o =
      elim (stays-then (nullable x) ts (guided language ahead r x ts done)
      (λ a mid. if test a then guided language ahead r y mid (λ b rest. done (pair a b) rest) else guided language ahead r z mid (λ b rest. done (pair a b) rest))
      (guided-stays x i.0 (off-left language (firsts language.heads x) _ ts o))) [
        | inl e ↦ inl (guided-continues language ahead r (Tree Token × List Token) x ts _ ∙ e)
        | inr e ↦
            let off = last-off (nullable x) (firsts language.heads x) (firsts language.heads y ++ firsts language.heads z) o e.0 in
            let one = second-stays (nullable y) e.1 y (guided-stays y i.1 (off-left language (firsts language.heads y) (firsts language.heads z) ts off)) in
            let two = second-stays (nullable z) e.1 z (guided-stays z i.2 (off-right language (firsts language.heads y) (firsts language.heads z) ts off)) in
            elim (stays-if (test e.1) true ts _ _ (λ w. any-stays (nullable y) one) (λ w. any-stays (nullable z) two)) [
              | inl f ↦ inl (guided-continues language ahead r (Tree Token × List Token) x ts _ ∙ e.2 ∙ f)
              | inr f ↦ inr (e.0, f.1, guided-continues language ahead r (Tree Token × List Token) x ts _ ∙ e.2 ∙ f.2)
            ]
      ]
    where
      any-stays : (none : Bool) {w : Was Token} → Stays none ts w → Stays true ts w
      any-stays none e = elim e [ inl h ↦ inl h | inr h ↦ inr (refl, h.1, h.2) ]

pub rule-stays : (depth n : ℕ) (ts : List Token) → starts language (among (language.heads n)) ts ≡ false → rule depth n ts ≡ Err (wrong ts)
unfolding rule_at
rule-stays zero n ts o = ap (λ b. Err (too_far b ts)) o
rule-stays (suc depth) n ts o =
    let t = in-place language (entry [] tails) language-fits n (language.rules n) refl in
    elim (guided-stays (rule depth) ts (λ n. rule-stays depth n ts) (language.rules n) t.4 (off-covered language (language.heads n) (firsts language.heads (language.rules n)) ts t.1 o)) [
      | inl e ↦ e
      | inr e ↦ absurd (let yes = e.0 in let no = t.0 in cc (yes, no))
    ]

-- Where none of its first kinds comes, nothing is read of a part that isn't empty.
pub not-begun : {C : Type 0} (depth : ℕ) (x : Grammar Token) → InPlace language.rules x → nullable x ≡ false → (ts : List Token) (k : Goes Token C)
    → starts language (among (firsts language.heads x)) ts ≡ false → guided language ahead (rule depth) x ts k ≡ Err (wrong ts)
not-begun {C} depth x i v ts k o = guided-continues language ahead (rule depth) C x ts k ∙ elim (guided-stays (rule depth) ts (λ n. rule-stays depth n ts) x i o) [
  | inl e ↦ ap (λ w. called w k) e
  | inr e ↦ absurd (let yes = e.0 in cc (yes, v))
]

-- A rule begins with one of its heads.
pub begun-call : {C : Type 0} (depth name : ℕ) (t : Token) (ts : List Token) (k : Goes Token C)
    → guided language ahead (rule depth) (call name) (t ∷ ts) k ≡ (if among (language.heads name) (token_kind t) then guided language ahead (rule depth) (call name) (t ∷ ts) k else Err (wrong (t ∷ ts)))
unfolding guided
begun-call {C} depth name t ts k = by (among (language.heads name) (token_kind t)) refl
  where
    by : (b : Bool) → among (language.heads name) (token_kind t) ≡ b → called (rule depth name (t ∷ ts)) k ≡ (if b then called (rule depth name (t ∷ ts)) k else Err (wrong (t ∷ ts)))
    by true e = refl
    by false e = ap (λ w. called w k) (rule-stays depth name (t ∷ ts) e)

pub at-kind : (C : Type 0) (depth : ℕ) (x : Grammar Token) (t : Token) (ts : List Token) (k : Goes Token C)
    → at_kind depth (token_kind t) x (t ∷ ts) k ≡ guided language ahead (rule depth) x (t ∷ ts) k
unfolding at_kind guided
at-kind C depth empty t ts k = refl
at-kind C depth (token kinds) t ts k = refl
at-kind C depth (both x y) t ts k = at-kind C depth x t ts _
at-kind C depth (either x y) t ts k = if-alike _ _ _ _ _ (at-kind C depth x t ts k) (at-kind C depth y t ts k)
at-kind C depth (named name x) t ts k = at-kind C depth x t ts _
at-kind C depth (prefer kinds x) t ts k = if-alike (among kinds (token_kind t)) _ (k tip (t ∷ ts)) _ (k tip (t ∷ ts)) (at-kind C depth x t ts k) refl
at-kind C depth (starting test x) t ts k = if-alike (test (token_kind t)) _ (Err (wrong (t ∷ ts))) _ (Err (wrong (t ∷ ts))) (at-kind C depth x t ts k) refl
at-kind C depth (call name) t ts k = sym (begun-call depth name t ts k)
at-kind C depth (line name x) t ts k = refl
at-kind C depth (fork stop x y) t ts k = refl
at-kind C depth (many more x) t ts k = refl
at-kind C depth (on test x y z) t ts k = refl

pub kind-at : {C : Type 0} (depth : ℕ) (symbol : Symbol) (broken : Bool) (x : Grammar Token) (t : Token) (ts : List Token) (k : Goes Token C)
    → of_kind t.kind ≡ symbol → t.broken ≡ broken
    → guided language ahead (rule depth) x (t ∷ ts) k ≡ at_kind depth (numbered symbol broken) x (t ∷ ts) k
unfolding token_kind
kind-at {C} depth symbol broken x t ts k e f =
    sym (at-kind C depth x t ts k) ∙ ap (λ s. at_kind depth (numbered s t.broken) x (t ∷ ts) k) e ∙ ap (λ b. at_kind depth (numbered symbol b) x (t ∷ ts) k) f

pub dispatch : {A : Type 0} (depth : ℕ) (js : Symbol → Parser A) (by : Symbol → Tree Token → Build A) (x : Grammar Token) → vacant x ≡ false → (t : Token) (ts : List Token) (ns : Nodes)
    → ((symbol : Symbol) (broken : Bool) → of_kind t.kind ≡ symbol → t.broken ≡ broken → told (js symbol (t ∷ ts, ns)) ≡ at_kind depth (numbered symbol broken) x (t ∷ ts) (built (by symbol) ns))
    → told (js (of_kind t.kind) (t ∷ ts, ns)) ≡ guided language ahead (rule depth) x (t ∷ ts) (built (λ tree. by (symbol_in tree) tree) ns)
unfolding token_kind
dispatch {A} depth js by x v t ts ns h =
    h (of_kind t.kind) t.broken refl refl ∙ at-kind (A × Input) depth x t ts (built (by (of_kind t.kind)) ns) ∙ by-first depth by x v t ts ns

-- by the symbol of the next token
pub sim-by : {A : Type 0} (depth : ℕ) (js : Symbol → Parser A) (by : Symbol → Tree Token → Build A) (x : Grammar Token) → vacant x ≡ false
    → ((ns : Nodes) → told (js s.End ([], ns)) ≡ Err (wrong []))
    → ((t : Token) (ts : List Token) (ns : Nodes) (symbol : Symbol) (broken : Bool) → of_kind t.kind ≡ symbol → t.broken ≡ broken
    → told (js symbol (t ∷ ts, ns)) ≡ at_kind depth (numbered symbol broken) x (t ∷ ts) (built (by symbol) ns))
    → Sim depth (peek >>= js) x (λ tree. by (symbol_in tree) tree)
unfolding symbol
sim-by {A} depth js by x v o h = record { holds = holds }
  where
    holds : (ts : List Token) (ns : Nodes) → told ((peek >>= js) (ts, ns)) ≡ guided language ahead (rule depth) x ts (built (λ tree. by (symbol_in tree) tree) ns)
    holds [] ns = o ns ∙ sym (none-at_end depth x v (built (λ tree. by (symbol_in tree) tree) ns))
    holds (t ∷ ts) ns = dispatch depth js by x v t ts ns (h t ts ns)

-- what tells the kinds of tokens apart, and whether a part may be empty
unfoldable pub tables : Unit {0}
unfolding firsts nullable vacant among kept alike heads entry kinds unbroken_kinds names reserved kind_place marks words contextual refusal place
tables = tt

-- where the parser refuses
unfoldable pub refusals : Unit {0}
unfolding refusal place
refusals = tt
