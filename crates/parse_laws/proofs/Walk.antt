-- Steps by which what the parser reads is compared with what is read by the grammar.
use Rattle.std.proofs.Common.{inl, inr, true, false, Bool, ◌⊎◌, ◌≡◌, ℕ, zero, suc, List, [], ◌∷◌, refl, ap, sym, ◌∙◌}
use Rattle.std.proofs.lemmas.List.{append-nil}
use Rattle.std.specs.Prelude.{if◌then◌else◌, Some, Ok, Err}
use Rattle.grammar.specs.Kinds.{among}
use Rattle.grammar.specs.Grammar.{Tree, tip, leaf, pair, node, Grammar, empty, token, call, line, both, either, fork, many, named, prefer, starting, on, entry, starts}
use Rattle.grammar.specs.Reading.{firsts, nullable}
use Rattle.grammar.specs.Tests.{Fits}
use Rattle.js_token.specs.declared.token.Token.{Token}
use Rattle.js_tree.specs.Nodes.{Nodes}
use Rattle.js_grammar.specs.Kinds.{kinds}
use Rattle.js_grammar.specs.Script.{rules, script_language, pattern_rule, primary_rule, member_rule, left_rule, unary_rule, mul_rule, add_rule, shift_rule, rel_rule, equal_rule, bit_and_rule, bit_xor_rule, bit_or_rule, and_rule, or_rule, short_rule, cond_rule, assign_rule, expr_rule, arrow_rule, prefixed_rule, new_rule, group_rule, index_rule, computed_rule, array_rule, arguments_rule, template_rule, object_rule, function_rule, declared_rule, parameters_rule, no_parameters_rule, one_parameter_rule, stmt_rule, item_rule, block_rule, for_rule, script_rule}
use Rattle.js_grammar.proofs.Tables.{tails}
use Rattle.js_grammar.proofs.Passes.{script-fits}
use Rattle.js_parse.specs.declared.symbol.Symbol.{Symbol}
use Rattle.js_parse.specs.declared.symbol.Symbol.TheVariants as s
use Rattle.js_parse.specs.Symbols.{same, of_kind, is_name}
use Rattle.js_parse.specs.Input.{Input, Outcome, Parser, and_then, expect, sees, after, next, refusal, place, symbol, is_arrow_ahead, is_arrow_next, place_at}
use Rattle.parse_laws.specs.Kinds.{token_kind, numbered}
pub use Rattle.parse_laws.specs.Agreement.{language}
use Rattle.parse_laws.specs.Trees.{Build, symbol_in, symbol_of_first, place_in, place_of_first}
use Rattle.parse_laws.proofs.Guided.{Was, Goes, done, called, taking, many_of, guided, rule_at, ok_same, guided-continues, Told, wrong}
use Rattle.parse_laws.proofs.Sound.{vacant, read-front}

-- whether an arrow comes, rather than another expression
unfoldable pub ahead : List Token → Bool
ahead ts = if sees s.OpenParen (ts, []) then is_arrow_ahead (ts, []) else (if is_name (symbol (ts, [])) then is_arrow_next (ts, []) else false)

abbrev pub rule : ℕ → ℕ → List Token → Was Token
rule depth = rule_at language ahead depth

-- what the parser tells
abbrev pub told : {A : Type 0} → Outcome A → Told (A × Input)
told o = o

-- the nodes of what was read
abbrev pub built : {A : Type 0} → (Tree Token → Build A) → Nodes → Goes Token (A × Input)
built b ns tree rest = Ok ((b tree ns).0, (rest, (b tree ns).1))

-- The parser reads by the right side, and builds so.
pub record Sim (depth : ℕ) {A : Type 0} (p : Parser A) (x : Grammar Token) (b : Tree Token → Build A) : Type 0 where
  pub holds : (ts : List Token) (ns : Nodes) → told (p (ts, ns)) ≡ guided language ahead (rule depth) x ts (built b ns)

pub step-at : {A B : Type 0} (o : Outcome A) (w : Was Token) (b : Tree Token → Build A) (ns : Nodes) (f : A → Parser B) (k : Goes Token (B × Input))
    → told o ≡ called w (built b ns)
    → ((tree : Tree Token) (rest : List Token) → w ≡ Ok (tree, rest) → told (f (b tree ns).0 (rest, (b tree ns).1)) ≡ k tree rest)
    → told (and_then o f) ≡ called w k
step-at (Ok p) (Err d) b ns f k e h = absurd (cc (e))
step-at (Ok p) (Ok q) b ns f k e h = ap (λ p. told (f p.0 p.1)) (ok_same _ _ e) ∙ h q.0 q.1 refl
step-at (Err c) (Err d) b ns f k e h = let same : c ≡ d = cc (e) in ap (λ d. Err d) same
step-at (Err c) (Ok q) b ns f k e h = absurd (cc (e))

-- and then goes on
pub step+ : {depth : ℕ} {A B : Type 0} {p : Parser A} {x : Grammar Token} {b : Tree Token → Build A} → Sim depth p x b → (ts : List Token) (ns : Nodes)
    → (f : A → Parser B) (k : Goes Token (B × Input))
    → ((tree : Tree Token) (rest : List Token) → guided language ahead (rule depth) x ts done ≡ Ok (tree, rest)
    → told (f (b tree ns).0 (rest, (b tree ns).1)) ≡ k tree rest)
    → told (and_then (p (ts, ns)) f) ≡ guided language ahead (rule depth) x ts k
step+ {depth} {A} {B} {p} {x} {b} sim ts ns f k h =
    step-at (p (ts, ns)) (guided language ahead (rule depth) x ts done) b ns f k
    (sim.holds ts ns ∙ guided-continues language ahead (rule depth) (A × Input) x ts (built b ns)) h
    ∙ sym (guided-continues language ahead (rule depth) (B × Input) x ts k)

pub step : {depth : ℕ} {A B : Type 0} {p : Parser A} {x : Grammar Token} {b : Tree Token → Build A} → Sim depth p x b → (ts : List Token) (ns : Nodes)
    → (f : A → Parser B) (k : Goes Token (B × Input))
    → ((tree : Tree Token) (rest : List Token) → told (f (b tree ns).0 (rest, (b tree ns).1)) ≡ k tree rest)
    → told (and_then (p (ts, ns)) f) ≡ guided language ahead (rule depth) x ts k
step sim ts ns f k h = step+ sim ts ns f k (λ tree rest e. h tree rest)

-- the same, where it is known of these tokens alone
pub step-so : {A B : Type 0} (depth : ℕ) (o : Outcome A) (x : Grammar Token) (b : Tree Token → Build A) (ts : List Token) (ns : Nodes) (f : A → Parser B) (k : Goes Token (B × Input))
    → told o ≡ guided language ahead (rule depth) x ts (built b ns)
    → ((tree : Tree Token) (rest : List Token) → told (f (b tree ns).0 (rest, (b tree ns).1)) ≡ k tree rest)
    → told (and_then o f) ≡ guided language ahead (rule depth) x ts k
step-so {A} {B} depth o x b ts ns f k e h =
    step-at o (guided language ahead (rule depth) x ts done) b ns f k (e ∙ guided-continues language ahead (rule depth) (A × Input) x ts (built b ns)) (λ tree rest w. h tree rest)
    ∙ sym (guided-continues language ahead (rule depth) (B × Input) x ts k)

-- ---- tokens

-- Of the symbols just that one is of the kinds.
pub record Only (x : Symbol) (kinds : List ℕ) : Type 0 where
  pub agrees : (symbol : Symbol) (broken : Bool) → same symbol x ≡ among kinds (numbered symbol broken)
  pub no_end : same s.End x ≡ false

pub on-true : {A : Type 0} {b : Bool} {m x : A} (y : A) → b ≡ true → m ≡ x → m ≡ (if b then x else y)
on-true {A} {b} {m} {x} y e h = h ∙ sym (pick b x y e)
  where
    pick : (b : Bool) (x y : A) → b ≡ true → (if b then x else y) ≡ x
    pick true x y e = refl
    pick false x y e = absurd (cc (e))

pub on-false : {A : Type 0} {b : Bool} {m y : A} (x : A) → b ≡ false → m ≡ y → m ≡ (if b then x else y)
on-false {A} {b} {m} {y} x e h = h ∙ sym (pick b x y e)
  where
    pick : (b : Bool) (x y : A) → b ≡ false → (if b then x else y) ≡ y
    pick false x y e = refl
    pick true x y e = absurd (cc (e))

abbrev pub expected : {B : Type 0} → Bool → Input → (Unit {0} → Parser B) → Outcome B
expected b i f = and_then (if b then Ok (tt, next i) else Err (refusal i)) f

pub step-expect : {B : Type 0} {x : Symbol} {kinds : List ℕ} → Only x kinds → (ts : List Token) (ns : Nodes) (f : Unit {0} → Parser B) (k : Goes Token (B × Input))
    → ((t : Token) (rest : List Token) → told (f tt (rest, ns)) ≡ k (leaf t) rest)
    → told (and_then (expect x (ts, ns)) f) ≡ taking language kinds ts k
unfolding expect sees symbol next token_kind refusal place
step-expect {B} {x} {kinds} only [] ns f k h = ap (λ b. told (expected b ([], ns) f)) only.no_end
step-expect {B} {x} {kinds} only (t ∷ ts) ns f k h =
    ap (λ b. told (expected b (t ∷ ts, ns) f)) (only.agrees (of_kind t.kind) t.broken) ∙ by (among kinds (token_kind t))
  where
    by : (b : Bool) → told (expected b (t ∷ ts, ns) f) ≡ (if b then k (leaf t) ts else Err (wrong (t ∷ ts)))
    by true = h t ts
    by false = refl

-- ---- a token that may come

pub eat-or : {A : Type 0} {x : Symbol} {kinds : List ℕ} (depth : ℕ) → Only x kinds → (ts : List Token) (ns : Nodes) (g : Bool → Input → Outcome A) (y : Grammar Token)
    (k : Goes Token (A × Input)) (m : Told (A × Input))
    → ((t : Token) (rest : List Token) → ts ≡ t ∷ rest → same (of_kind t.kind) x ≡ true → told (g true (rest, ns)) ≡ guided language ahead (rule depth) y rest (λ b end. k (pair (leaf t) b) end))
    → told (g false (ts, ns)) ≡ m
    → told (g (sees x (ts, ns)) (after x (ts, ns)))
    ≡ (if starts language (among (firsts language.heads (both (token kinds) y))) ts then guided language ahead (rule depth) (both (token kinds) y) ts k else m)
unfolding guided sees symbol after next token_kind firsts nullable
eat-or {A} {x} {kinds} depth only [] ns g y k m h o =
    ap (λ b. told (g b (if b then ([], ns) else ([], ns)))) only.no_end ∙ o
eat-or {A} {x} {kinds} depth only (t ∷ ts) ns g y k m h o =
    ap (λ b. told (g b (if b then (ts, ns) else (t ∷ ts, ns)))) (only.agrees (of_kind t.kind) t.broken)
    ∙ by (among kinds (token_kind t)) refl
    ∙ ap (λ f. if among f (token_kind t) then (if among kinds (token_kind t) then guided language ahead (rule depth) y ts (λ b end. k (pair (leaf t) b) end) else Err (wrong (t ∷ ts)))
    else m) (sym (append-nil kinds))
  where
    by : (b : Bool) → among kinds (token_kind t) ≡ b → told (g b (if b then (ts, ns) else (t ∷ ts, ns)))
        ≡ (if b then (if b then guided language ahead (rule depth) y ts (λ b end. k (pair (leaf t) b) end) else Err (wrong (t ∷ ts))) else m)
    by true e = h t ts refl (only.agrees (of_kind t.kind) t.broken ∙ e)
    by false e = o

pub eat-step : {A : Type 0} {x : Symbol} {kinds : List ℕ} (depth : ℕ) → Only x kinds → (ts : List Token) (ns : Nodes) (g : Bool → Input → Outcome A) (y z : Grammar Token)
    (k : Goes Token (A × Input))
    → ((t : Token) (rest : List Token) → told (g true (rest, ns)) ≡ guided language ahead (rule depth) y rest (λ b end. k (pair (leaf t) b) end))
    → told (g false (ts, ns)) ≡ guided language ahead (rule depth) z ts k
    → told (g (sees x (ts, ns)) (after x (ts, ns))) ≡ guided language ahead (rule depth) (either (both (token kinds) y) z) ts k
unfolding guided
eat-step depth only ts ns g y z k h o = eat-or depth only ts ns g y k (guided language ahead (rule depth) z ts k) (λ t rest e m. h t rest) o

-- the same, where that token is told
pub eat-step+ : {A : Type 0} {x : Symbol} {kinds : List ℕ} (depth : ℕ) → Only x kinds → (ts : List Token) (ns : Nodes) (g : Bool → Input → Outcome A) (y z : Grammar Token)
    (k : Goes Token (A × Input))
    → ((t : Token) (rest : List Token) → same (of_kind t.kind) x ≡ true → told (g true (rest, ns)) ≡ guided language ahead (rule depth) y rest (λ b end. k (pair (leaf t) b) end))
    → told (g false (ts, ns)) ≡ guided language ahead (rule depth) z ts k
    → told (g (sees x (ts, ns)) (after x (ts, ns))) ≡ guided language ahead (rule depth) (either (both (token kinds) y) z) ts k
unfolding guided
eat-step+ depth only ts ns g y z k h o = eat-or depth only ts ns g y k (guided language ahead (rule depth) z ts k) (λ t rest e m. h t rest m) o

-- ---- the first token of a tree

-- Each rule takes a token.
unfoldable pub AllTake : List (Grammar Token) → Type 0
AllTake [] = Unit {0}
AllTake (x ∷ xs) = (vacant x ≡ false) × AllTake xs

pub take-at : (xs : List (Grammar Token)) (n : ℕ) → AllTake xs → vacant (entry (token []) xs n) ≡ false
unfolding AllTake entry vacant
take-at [] n a = refl
take-at (x ∷ xs) zero a = a.0
take-at (x ∷ xs) (suc n) a = take-at xs n a.1

pub rules-take : AllTake rules
unfolding AllTake vacant rules pattern_rule primary_rule member_rule left_rule unary_rule mul_rule add_rule shift_rule rel_rule equal_rule bit_and_rule bit_xor_rule bit_or_rule and_rule or_rule short_rule cond_rule assign_rule expr_rule arrow_rule prefixed_rule new_rule group_rule index_rule computed_rule array_rule arguments_rule template_rule object_rule function_rule declared_rule parameters_rule no_parameters_rule one_parameter_rule stmt_rule item_rule block_rule for_rule script_rule
rules-take = (refl, (refl, (refl, (refl, (refl, (refl, (refl, (refl, (refl, (refl, (refl, (refl, (refl, (refl, (refl, (refl, (refl, (refl, (refl, (refl, (refl, (refl, (refl, (refl, (refl, (refl, (refl, (refl, (refl, (refl, (refl, (refl, (refl, (refl, (refl, (refl, (refl, (refl, (refl, (refl, (refl, (refl, (refl, (refl, (refl, (refl, (refl, (refl, (refl, (refl, (refl, (refl, (refl, (refl, (refl, (refl, (refl, (refl, tt))))))))))))))))))))))))))))))))))))))))))))))))))))))))))

pub each-takes : (n : ℕ) → vacant (language.rules n) ≡ false
each-takes n = take-at rules n rules-take

-- At the end of the tokens nothing is read, or nothing is there.
abbrev pub Ends : Was Token → Type 0
Ends w = (w ≡ Err (wrong [])) ⊎ ((a : Tree Token) × (w ≡ Ok (a, [])))

pub ends-then : {C : Type 0} (w : Was Token) (k : Goes Token C) → Ends w → (called w k ≡ Err (wrong [])) ⊎ ((a : Tree Token) × (called w k ≡ k a []))
ends-then w k e = elim e [ inl h ↦ inl (ap (λ w. called w k) h) | inr h ↦ inr (h.0, ap (λ w. called w k) h.1) ]

pub ends-if : (b : Bool) (x y : Was Token) → Ends x → Ends y → Ends (if b then x else y)
ends-if true x y v w = v
ends-if false x y v w = w

module _ (depth : ℕ) (r : ℕ → List Token → Was Token) (h : (n : ℕ) → Ends (r n [])) where
  pub guided-ends : (x : Grammar Token) → Ends (guided language ahead r x [] done)
  unfolding guided many_of ahead sees symbol same
  guided-ends empty = inr (tip, refl)
  guided-ends (token kinds) = inl refl
  guided-ends (call name) = ends-then (r name []) done (h name)
  guided-ends (line name x) = guided-ends x
  guided-ends (both x y) =
      elim (ends-then (guided language ahead r x [] done) (λ a mid. guided language ahead r y mid (λ b rest. done (pair a b) rest)) (guided-ends x)) [
        | inl e ↦ inl (guided-continues language ahead r (Tree Token × List Token) x [] _ ∙ e)
        | inr e ↦ elim (ends-then (guided language ahead r y [] done) (λ b rest. done (pair e.0 b) rest) (guided-ends y)) [
          | inl f ↦ inl (guided-continues language ahead r (Tree Token × List Token) x [] _ ∙ e.1 ∙ guided-continues language ahead r (Tree Token × List Token) y [] _ ∙ f)
          | inr f ↦ inr (pair e.0 f.0, guided-continues language ahead r (Tree Token × List Token) x [] _ ∙ e.1 ∙ guided-continues language ahead r (Tree Token × List Token) y [] _ ∙ f.1)
        ]
      ]
  guided-ends (either x y) = guided-ends y
  guided-ends (fork stop x y) = guided-ends x
  guided-ends (many more x) = inr (tip, refl)
  guided-ends (named name x) = elim (ends-then (guided language ahead r x [] done) (λ a rest. done (node name a) rest) (guided-ends x)) [
    | inl e ↦ inl (guided-continues language ahead r (Tree Token × List Token) x [] _ ∙ e)
    | inr e ↦ inr (node name e.0, guided-continues language ahead r (Tree Token × List Token) x [] _ ∙ e.1)
  ]
  guided-ends (prefer kinds x) = inr (tip, refl)
  guided-ends (starting test x) = inl refl
  guided-ends (on test x y z) =
      elim (ends-then (guided language ahead r x [] done) (λ a mid. if test a then guided language ahead r y mid (λ b rest. done (pair a b) rest) else guided language ahead r z mid (λ b rest. done (pair a b) rest)) (guided-ends x)) [
        | inl e ↦ inl (guided-continues language ahead r (Tree Token × List Token) x [] _ ∙ e)
        | inr e ↦ elim (ends-if (test e.0) _ _ (part e.0 y (guided-ends y)) (part e.0 z (guided-ends z))) [
          | inl f ↦ inl (guided-continues language ahead r (Tree Token × List Token) x [] _ ∙ e.1 ∙ f)
          | inr f ↦ inr (f.0, guided-continues language ahead r (Tree Token × List Token) x [] _ ∙ e.1 ∙ f.1)
        ]
      ]
    where
      part : (a : Tree Token) (y : Grammar Token) → Ends (guided language ahead r y [] done) → Ends (guided language ahead r y [] (λ b rest. done (pair a b) rest))
      part a y w = elim (ends-then (guided language ahead r y [] done) (λ b rest. done (pair a b) rest) w) [
        | inl f ↦ inl (guided-continues language ahead r (Tree Token × List Token) y [] _ ∙ f)
        | inr f ↦ inr (pair a f.0, guided-continues language ahead r (Tree Token × List Token) y [] _ ∙ f.1)
      ]

pub rule-ends : (depth n : ℕ) → Ends (rule depth n [])
unfolding rule_at
rule-ends zero n = inl refl
rule-ends (suc depth) n = guided-ends depth (rule depth) (rule-ends depth) (language.rules n)

pub none-at_end : {C : Type 0} (depth : ℕ) (x : Grammar Token) → vacant x ≡ false → (k : Goes Token C) → guided language ahead (rule depth) x [] k ≡ Err (wrong [])
none-at_end {C} depth x v k = guided-continues language ahead (rule depth) C x [] k ∙ elim (guided-ends depth (rule depth) (rule-ends depth) x) [
  | inl e ↦ ap (λ w. called w k) e
  | inr e ↦ let f = read-front language ahead depth each-takes x v [] [] e.0 e.1 in absurd (let w = f.2 in cc (w))
]

pub called-agree : {C : Type 0} (w : Was Token) (k k' : Goes Token C) → ((tree : Tree Token) (rest : List Token) → w ≡ Ok (tree, rest) → k tree rest ≡ k' tree rest) → called w k ≡ called w k'
called-agree (Err e) k k' h = refl
called-agree (Ok p) k k' h = h p.0 p.1 refl

-- what goes on may be told another way
pub goes-so : {C : Type 0} (depth : ℕ) (x : Grammar Token) (ts : List Token) (k k' : Goes Token C)
    → ((tree : Tree Token) (rest : List Token) → guided language ahead (rule depth) x ts done ≡ Ok (tree, rest) → k tree rest ≡ k' tree rest)
    → guided language ahead (rule depth) x ts k ≡ guided language ahead (rule depth) x ts k'
goes-so {C} depth x ts k k' h =
    guided-continues language ahead (rule depth) C x ts k ∙ called-agree (guided language ahead (rule depth) x ts done) k k' h
    ∙ sym (guided-continues language ahead (rule depth) C x ts k')

pub by-first : {A : Type 0} (depth : ℕ) (by : Symbol → Tree Token → Build A) (x : Grammar Token) → vacant x ≡ false → (t : Token) (ts : List Token) (ns : Nodes)
    → guided language ahead (rule depth) x (t ∷ ts) (built (by (of_kind t.kind)) ns) ≡ guided language ahead (rule depth) x (t ∷ ts) (built (λ tree. by (symbol_in tree) tree) ns)
by-first depth by x v t ts ns = goes-so depth x (t ∷ ts) _ _ (λ tree rest e.
    let f = read-front language ahead depth each-takes x v (t ∷ ts) rest tree e in
    let same : t ≡ f.0 = let e' = f.2 in cc (e') in
    ap (λ o. built (by (symbol_of_first o)) ns tree rest) (ap (λ t. Some t) same ∙ sym f.3))

pub at-first : {A : Type 0} (depth : ℕ) (b : ℕ → Tree Token → Build A) (x : Grammar Token) → vacant x ≡ false → (ts : List Token) (ns : Nodes)
    → guided language ahead (rule depth) x ts (built (b (place_at ts)) ns) ≡ guided language ahead (rule depth) x ts (built (λ tree. b (place_in tree) tree) ns)
at-first depth b x v ts ns = goes-so depth x ts _ _ (λ tree rest e.
    let f = read-front language ahead depth each-takes x v ts rest tree e in
    ap (λ at. built (b at) ns tree rest) (ap (λ ts. place_at ts) f.2 ∙ ap (λ o. place_of_first o) (sym f.3)))

-- ---- by the next token

abbrev pub took : {C : Type 0} → List Token → Goes Token C → Told C
took [] k = Err (wrong [])
took (t ∷ ts) k = k (leaf t) ts

module _ (depth n : ℕ) where
  -- where the next token is of the kind n
  unfoldable pub at_kind : {C : Type 0} → Grammar Token → List Token → Goes Token C → Told C
  at_kind empty ts k = k tip ts
  at_kind (token kinds) ts k = if among kinds n then took ts k else Err (wrong ts)
  at_kind (both x y) ts k = at_kind x ts (λ a mid. guided language ahead (rule depth) y mid (λ b rest. k (pair a b) rest))
  at_kind (either x y) ts k = if among (firsts language.heads x) n then at_kind x ts k else at_kind y ts k
  at_kind (named name x) ts k = at_kind x ts (λ a rest. k (node name a) rest)
  at_kind (prefer kinds x) ts k = if among kinds n then at_kind x ts k else k tip ts
  at_kind (starting test x) ts k = if test n then at_kind x ts k else Err (wrong ts)
  at_kind (call name) ts k = if among (language.heads name) n then guided language ahead (rule depth) (call name) ts k else Err (wrong ts)
  at_kind (line name x) ts k = guided language ahead (rule depth) x ts k
  at_kind (fork stop x y) ts k = guided language ahead (rule depth) (fork stop x y) ts k
  at_kind (many more x) ts k = guided language ahead (rule depth) (many more x) ts k
  at_kind (on test x y z) ts k = guided language ahead (rule depth) (on test x y z) ts k

pub if-alike : {A : Type 0} (b : Bool) (x y x' y' : A) → x ≡ x' → y ≡ y' → (if b then x else y) ≡ (if b then x' else y')
if-alike true x y x' y' e f = e
if-alike false x y x' y' e f = f

pub language-fits : Fits language (entry [] tails)
unfolding script_language
language-fits = script-fits
