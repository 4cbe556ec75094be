-- More steps: names, tokens that may come or must, and what stands ahead.
use Rattle.std.proofs.Common.{inl, inr, true, false, Bool, ◌≡◌, ℕ, zero, suc, ◌≤◌, List, [], ◌∷◌, ◌++◌, length, refl, ap, sym, ◌∙◌, arith, codes}
use Rattle.std.specs.Prelude.{if◌then◌else◌, ◌==◌, ◌%◌, Some, Ok, Err}
use Rattle.grammar.specs.Kinds.{among}
use Rattle.grammar.specs.Grammar.{Tree, tip, leaf, pair, Grammar, token, call, both, many, prefer, entry, starts, Derives, Spells, Chain}
use Rattle.grammar.specs.Reading.{firsts}
use Rattle.grammar.proofs.Sets.{test_was}
use Rattle.js_token.specs.declared.token.Token.{Token}
use Rattle.js_tree.specs.Nodes.{Nodes}
use Rattle.js_grammar.specs.Kinds.{kinds, names, reserved, mark, word}
use Rattle.js_grammar.specs.Script.{rules, arrow_kinds, any, member_suffix, primary_rule, member_rule, new_rule}
use Rattle.js_parse.specs.declared.symbol.Symbol.{Symbol}
use Rattle.js_parse.specs.declared.symbol.Symbol.TheVariants as s
use Rattle.js_parse.specs.Symbols.{same, of_kind, is_name, is_any_name}
use Rattle.js_parse.specs.Input.{Input, Outcome, Parser, and_then, expect, sees, after, next, refusal, place, symbol, symbol as symbol_named, arrow, is_arrow, ◌>>=◌, peek, place_at, name as a_name, any_name, text_of, text, take_text, refuse}
use Rattle.parse_laws.specs.Kinds.{token_kind, numbered}
use Rattle.parse_laws.specs.Agreement.{language}
use Rattle.parse_laws.specs.Trees.{Build, first_token, symbol_in, symbol_of_first, place_in, place_of_first, one_of}
use Rattle.parse_laws.proofs.Guided.{Goes, done, taking, many_of, guided, rule_at, ok_same, called_ok, was, many-continues, guided-continues, Told, wrong}
use Rattle.parse_laws.proofs.Sound.{vacant, guided-finds, rule-finds, read-front}
use Rattle.parse_laws.proofs.Walk.{ahead, rule, told, built, Sim, step, Only, expected, each-takes, none-at_end, goes-so, at-first, at_kind, if-alike}
use Rattle.parse_laws.proofs.Begun.{at-kind, dispatch, tables}

-- ---- more steps

pub assoc : {A B C : Type 0} (o : Outcome A) (f : A → Parser B) (g : B → Parser C) → told (and_then (and_then o f) g) ≡ told (and_then o (λ a i. and_then (f a i) g))
assoc (Ok p) f g = refl
assoc (Err e) f g = refl

-- an identifier or a reserved word
pub any_name-at : {A : Type 0} (symbol : Symbol) (t : Token) (ts : List Token) (ns : Nodes) (f : List ℕ → Parser A) → of_kind t.kind ≡ symbol
    → told (and_then (any_name (t ∷ ts, ns)) f) ≡ (if is_any_name symbol then told (f (text_of t.kind) (ts, ns)) else Err (wrong (t ∷ ts)))
unfolding any_name symbol_named text next refusal place
any_name-at {A} symbol t ts ns f e =
    by (is_any_name (of_kind t.kind)) ∙ ap (λ s. if is_any_name s then told (f (text_of t.kind) (ts, ns)) else Err (wrong (t ∷ ts))) e
  where
    by : (b : Bool) → told (and_then (if b then take_text (t ∷ ts, ns) else refuse (t ∷ ts, ns)) f) ≡ (if b then told (f (text_of t.kind) (ts, ns)) else Err (wrong (t ∷ ts)))
    by true = refl
    by false = refl

-- the same, where nothing goes on
pub step-same : {depth : ℕ} {A : Type 0} {p : Parser A} {x : Grammar Token} {b : Tree Token → Build A} → Sim depth p x b → (ts : List Token) (ns : Nodes) (k : Goes Token (A × Input))
    → ((tree : Tree Token) (rest : List Token) → built b ns tree rest ≡ k tree rest)
    → told (p (ts, ns)) ≡ guided language ahead (rule depth) x ts k
step-same {depth} {A} {p} {x} {b} sim ts ns k h = sim.holds ts ns ∙ goes-so depth x ts (built b ns) k (λ tree rest e. h tree rest)

-- by the next token, where there may be none of it
pub dispatch-or : {C : Type 0} (depth : ℕ) (x : Grammar Token) → vacant x ≡ false → (t : Token) (ts : List Token) (k : Symbol → Goes Token C) (m : Told C) (js : Symbol → Told C)
    → ((symbol : Symbol) (broken : Bool) → of_kind t.kind ≡ symbol → t.broken ≡ broken
    → js symbol ≡ (if among (firsts language.heads x) (numbered symbol broken) then at_kind depth (numbered symbol broken) x (t ∷ ts) (k symbol) else m))
    → js (of_kind t.kind) ≡ (if starts language (among (firsts language.heads x)) (t ∷ ts) then guided language ahead (rule depth) x (t ∷ ts) (λ tree rest. k (symbol_in tree) tree rest) else m)
unfolding token_kind
dispatch-or {C} depth x v t ts k m js h =
    h (of_kind t.kind) t.broken refl refl ∙ if-alike (among (firsts language.heads x) (token_kind t)) _ m _ m
    (at-kind C depth x t ts (k (of_kind t.kind)) ∙ goes-so depth x (t ∷ ts) _ _ (λ tree rest e.
    let f = read-front language ahead depth each-takes x v (t ∷ ts) rest tree e in
    let same : t ≡ f.0 = let e' = f.2 in cc (e') in
    ap (λ o. k (symbol_of_first o) tree rest) (ap (λ t. Some t) same ∙ sym f.3))) refl

pub any_name-agrees : (symbol : Symbol) (broken : Bool) → is_any_name symbol ≡ among (kinds (names ++ reserved)) (numbered symbol broken)
unfolding tables
any_name-agrees s.Name false = refl
any_name-agrees s.Name true = refl
any_name-agrees _ false = refl
any_name-agrees _ true = refl

pub name-agrees : (symbol : Symbol) (broken : Bool) → is_name symbol ≡ among (kinds names) (numbered symbol broken)
unfolding tables
name-agrees s.Name false = refl
name-agrees s.Name true = refl
name-agrees _ false = refl
name-agrees _ true = refl

pub step-any_name : {A : Type 0} (ts : List Token) (ns : Nodes) (f : List ℕ → Parser A) (k : Goes Token (A × Input))
    → ((t : Token) (rest : List Token) → told (f (text_of t.kind) (rest, ns)) ≡ k (leaf t) rest)
    → told (and_then (any_name (ts, ns)) f) ≡ taking language (kinds (names ++ reserved)) ts k
unfolding any_name symbol text next token_kind refusal place
step-any_name [] ns f k h = refl
step-any_name {A} (t ∷ ts) ns f k h = by (is_any_name (of_kind t.kind)) ∙ ap (λ b. if b then k (leaf t) ts else Err (wrong (t ∷ ts))) (any_name-agrees (of_kind t.kind) t.broken)
  where
    by : (b : Bool) → told (and_then (if b then take_text (t ∷ ts, ns) else refuse (t ∷ ts, ns)) f) ≡ (if b then k (leaf t) ts else Err (wrong (t ∷ ts)))
    by true = h t ts
    by false = refl

pub step-name : {A : Type 0} (ts : List Token) (ns : Nodes) (f : List ℕ → Parser A) (k : Goes Token (A × Input))
    → ((t : Token) (rest : List Token) → told (f (text_of t.kind) (rest, ns)) ≡ k (leaf t) rest)
    → told (and_then (a_name (ts, ns)) f) ≡ taking language (kinds names) ts k
unfolding a_name symbol text next token_kind refusal place
step-name [] ns f k h = refl
step-name {A} (t ∷ ts) ns f k h = by (is_name (of_kind t.kind)) ∙ ap (λ b. if b then k (leaf t) ts else Err (wrong (t ∷ ts))) (name-agrees (of_kind t.kind) t.broken)
  where
    by : (b : Bool) → told (and_then (if b then take_text (t ∷ ts, ns) else refuse (t ∷ ts, ns)) f) ≡ (if b then k (leaf t) ts else Err (wrong (t ∷ ts)))
    by true = h t ts
    by false = refl

-- the same by the symbol of the next token
pub step-shown : {depth : ℕ} {A B : Type 0} (js : Symbol → Parser A) {x : Grammar Token} {b : Tree Token → Build A} → Sim depth (peek >>= js) x b
    → (t : Token) (ts : List Token) (ns : Nodes) (f : A → Parser B) (k : Goes Token (B × Input))
    → ((tree : Tree Token) (rest : List Token) → told (f (b tree ns).0 (rest, (b tree ns).1)) ≡ k tree rest)
    → told (and_then (js (of_kind t.kind) (t ∷ ts, ns)) f) ≡ guided language ahead (rule depth) x (t ∷ ts) k
unfolding symbol
step-shown js sim t ts ns f k h = step sim (t ∷ ts) ns f k h

-- by the symbol of the next token, with its place
pub sim-by-at : {A : Type 0} (depth : ℕ) (js : Symbol → Parser A) (by : ℕ → Symbol → Tree Token → Build A) (x : Grammar Token) → vacant x ≡ false
    → ((ns : Nodes) → told (js s.End ([], ns)) ≡ Err (wrong []))
    → ((t : Token) (ts : List Token) (ns : Nodes) (symbol : Symbol) (broken : Bool) → of_kind t.kind ≡ symbol → t.broken ≡ broken
    → told (js symbol (t ∷ ts, ns)) ≡ at_kind depth (numbered symbol broken) x (t ∷ ts) (built (by t.place symbol) ns))
    → Sim depth (peek >>= js) x (λ tree. by (place_in tree) (symbol_in tree) tree)
unfolding symbol
sim-by-at {A} depth js by x v o h = record { holds = holds }
  where
    holds : (ts : List Token) (ns : Nodes) → told ((peek >>= js) (ts, ns)) ≡ guided language ahead (rule depth) x ts (built (λ tree. by (place_in tree) (symbol_in tree) tree) ns)
    holds [] ns = o ns ∙ sym (none-at_end depth x v (built (λ tree. by (place_in tree) (symbol_in tree) tree) ns))
    holds (t ∷ ts) ns = dispatch depth js (by t.place) x v t ts ns (h t ts ns) ∙ at-first depth (λ at tree. by at (symbol_in tree) tree) x v (t ∷ ts) ns

pub step-same+ : {depth : ℕ} {A : Type 0} {p : Parser A} {x : Grammar Token} {b : Tree Token → Build A} → Sim depth p x b → (ts : List Token) (ns : Nodes) (k : Goes Token (A × Input))
    → ((tree : Tree Token) (rest : List Token) → guided language ahead (rule depth) x ts done ≡ Ok (tree, rest) → built b ns tree rest ≡ k tree rest)
    → told (p (ts, ns)) ≡ guided language ahead (rule depth) x ts k
step-same+ {depth} {A} {p} {x} {b} sim ts ns k h = sim.holds ts ns ∙ goes-so depth x ts (built b ns) k h

pub sees-starts : {x : Symbol} {kinds : List ℕ} → Only x kinds → (ts : List Token) (ns : Nodes) → sees x (ts, ns) ≡ starts language (among kinds) ts
unfolding sees symbol token_kind
sees-starts only [] ns = only.no_end
sees-starts only (t ∷ ts) ns = only.agrees (of_kind t.kind) t.broken

-- Where nothing of a list was read, nothing was taken.
pub tip-took : (depth : ℕ) (more : Tree Token → Bool) (x : Grammar Token) (ts rest : List Token) → guided language ahead (rule depth) (many more x) ts done ≡ Ok (tip, rest) → ts ≡ rest
unfolding Spells Chain
tip-took depth more x ts rest e = guided-finds language ahead (rule depth) (Derives language depth) (rule-finds language ahead depth) (many more x) ts (tip, rest) e

pub among-neither : (xs ys : List ℕ) (t : ℕ) → among xs t ≡ false → among ys t ≡ false → among (xs ++ ys) t ≡ false
unfolding among
among-neither [] ys t e f = f
among-neither (x ∷ xs) ys t e f = elim (test_was (x == t) true (among xs t) false e) [
  | inl h ↦ absurd (cc (h.1))
  | inr h ↦ rw (h.0) (among-neither xs ys t h.1 f)
]

pub starts-neither : (xs ys : List ℕ) (ts : List Token) → starts language (among xs) ts ≡ false → starts language (among ys) ts ≡ false → starts language (among (xs ++ ys)) ts ≡ false
starts-neither xs ys [] e f = refl
starts-neither xs ys (t ∷ ts) e f = among-neither xs ys (token_kind t) e f

-- Behind a list no further one comes.
pub many-off : (depth : ℕ) (test : ℕ → Bool) (x : Grammar Token) → vacant x ≡ false → (n : ℕ) (ts rest : List Token) (c : Tree Token) → length ts ≤ n
    → many_of language test (λ tree. true) (guided language ahead (rule depth) x) n ts done ≡ Ok (c, rest) → starts language test rest ≡ false
unfolding many_of
many-off depth test x v zero [] rest c few e = ap (λ q. starts language test q.1) (sym (ok_same _ _ e))
many-off depth test x v zero (t ∷ ts) rest c few e = absurd (omega (arith, few))
many-off depth test x v (suc n) ts rest c few e = elim (was (starts language test ts) _ _ (c, rest) e) [
  | inl h ↦
      let g = guided language ahead (rule depth) x in
      let con = guided-continues language ahead (rule depth) (Tree Token × List Token) x in
      let k = called_ok (g ts done) _ (c, rest) (sym (con ts _) ∙ h.1) in
      let f = called_ok (many_of language test (λ tree. true) g n (k.0).1 done) _ (c, rest) (sym (many-continues language (Tree Token × List Token) test (λ tree. true) g g con con n (k.0).1 _) ∙ k.2) in
      let front = read-front language ahead depth each-takes x v ts (k.0).1 (k.0).0 k.1 in
      let size : length ts ≡ suc (length (front.1)) = ap (λ l. length l) (front.2) in
      let short = front.4 in
      let same = ok_same _ _ f.2 in
      ap (λ q. starts language test q.1) (sym same) ∙ many-off depth test x v n (k.0).1 (f.0).1 (f.0).0 (omega (arith, few, size, short)) f.1
  | inr h ↦ ap (λ q. starts language test q.1) (sym (ok_same _ _ h.1)) ∙ h.0
]

pub any-off : (depth : ℕ) (x : Grammar Token) → vacant x ≡ false → (ts : List Token) (f : Tree Token → Tree Token) (q : Tree Token × List Token)
    → guided language ahead (rule depth) (many (λ tree. true) x) ts (λ c end. Ok (f c, end)) ≡ Ok q → starts language (among (firsts language.heads x)) q.1 ≡ false
unfolding guided
any-off depth x v ts f q e =
    let k = called_ok (guided language ahead (rule depth) (many (λ tree. true) x) ts done) _ q (sym (guided-continues language ahead (rule depth) (Tree Token × List Token) (many (λ tree. true) x) ts _) ∙ e) in
    ap (λ q. starts language (among (firsts language.heads x)) q.1) (sym (ok_same _ _ k.2)) ∙ many-off depth (among (firsts language.heads x)) x v (length ts) ts (k.0).1 (k.0).0 (omega arith) k.1

-- Behind `new` and its Member no further part of it comes, but arguments.
abbrev pub open_kinds : List ℕ
open_kinds = kinds (mark (codes "(") ∷ [])

pub member-off : (depth : ℕ) → ((ts rest : List Token) (a : Tree Token) → rule depth 13 ts ≡ Ok (a, rest) → starts language (among open_kinds) rest ≡ false
    → starts language (among (firsts language.heads member_suffix)) rest ≡ false)
    → (ts : List Token) (q : Tree Token × List Token) → guided language ahead (rule depth) member_rule ts done ≡ Ok q → starts language (among open_kinds) q.1 ≡ false
    → starts language (among (firsts language.heads member_suffix)) q.1 ≡ false
unfolding guided member_rule vacant
member-off depth ih ts q e o = elim (was (starts language (among (firsts language.heads (both (call 13) (prefer open_kinds (both (call 14) (any member_suffix)))))) ts) _ _ q e) [
  | inl h ↦
      let k = called_ok (rule depth 13 ts) _ q h.1 in
      elim (was (starts language (among open_kinds) (k.0).1) _ _ q k.2) [
        | inl m ↦ let f = called_ok (rule depth 14 (k.0).1) _ q m.1 in any-off depth member_suffix refl (f.0).1 (λ c. pair (k.0).0 (pair (f.0).0 c)) q f.2
        | inr m ↦
            let same = ok_same _ _ m.1 in
            ap (λ q. starts language (among (firsts language.heads member_suffix)) q.1) (sym same) ∙ ih ts (k.0).1 (k.0).0 k.1 m.0
      ]
  | inr h ↦
      let k = called_ok (guided language ahead (rule depth) primary_rule ts done) _ q (sym (guided-continues language ahead (rule depth) (Tree Token × List Token) primary_rule ts _) ∙ h.1) in
      any-off depth member_suffix refl (k.0).1 (λ c. pair (k.0).0 c) q k.2
]

pub behind-new : (depth : ℕ) (ts rest : List Token) (a : Tree Token) → rule depth 13 ts ≡ Ok (a, rest) → starts language (among open_kinds) rest ≡ false
    → starts language (among (firsts language.heads member_suffix)) rest ≡ false
unfolding rule_at guided rules entry new_rule
behind-new zero ts rest a e o = absurd (cc (e))
behind-new (suc depth) [] rest a e o = absurd (cc (e))
behind-new (suc depth) (t ∷ ts) rest a e o = elim (was (among (kinds (word (codes "new") ∷ [])) (token_kind t)) _ _ (a, rest) e) [
  | inl h ↦
      let k = called_ok (guided language ahead (rule depth) member_rule ts done) _ (a, rest) (sym (guided-continues language ahead (rule depth) (Tree Token × List Token) member_rule ts _) ∙ h.1) in
      let same = ok_same _ _ k.2 in
      let off : starts language (among open_kinds) (k.0).1 ≡ false = ap (λ q. starts language (among open_kinds) q.1) same ∙ o in
      ap (λ q. starts language (among (firsts language.heads member_suffix)) q.1) (sym same) ∙ member-off depth (behind-new depth) ts k.0 k.1 off
  | inr h ↦ absurd (cc (h.1))
]

-- the first token of a pair
pub pair-front : (depth : ℕ) (x : Grammar Token) → vacant x ≡ false → (t : Token) (ts rest : List Token) (a b : Tree Token)
    → guided language ahead (rule depth) x (t ∷ ts) done ≡ Ok (a, rest) → (symbol_in (pair a b) ≡ of_kind t.kind) × (place_in (pair a b) ≡ t.place)
unfolding first_token
pair-front depth x v t ts rest a b e =
    let f = read-front language ahead depth each-takes x v (t ∷ ts) rest a e in
    let same : f.0 ≡ t = let e' = f.2 in cc (e') in
    (ap (λ o. symbol_of_first (one_of o (first_token b))) f.3 ∙ ap (λ t. of_kind t.kind) same, ap (λ o. place_of_first (one_of o (first_token b))) f.3 ∙ ap (λ t. t.place) same)

pub step-expect+ : {B : Type 0} {x : Symbol} {kinds : List ℕ} → Only x kinds → (t : Token) (ts : List Token) (ns : Nodes) (f : Unit {0} → Parser B) (k : Goes Token (B × Input))
    → told (f tt (ts, ns)) ≡ k (leaf t) ts
    → told (and_then (expect x (t ∷ ts, ns)) f) ≡ taking language kinds (t ∷ ts) k
unfolding expect sees symbol next token_kind refusal place
step-expect+ {B} {x} {kinds} only t ts ns f k h =
    ap (λ b. told (expected b (t ∷ ts, ns) f)) (only.agrees (of_kind t.kind) t.broken) ∙ by (among kinds (token_kind t))
  where
    by : (b : Bool) → told (expected b (t ∷ ts, ns) f) ≡ (if b then k (leaf t) ts else Err (wrong (t ∷ ts)))
    by true = h
    by false = refl

pub expect-end : {B : Type 0} {x : Symbol} {kinds : List ℕ} → Only x kinds → (ns : Nodes) (f : Unit {0} → Parser B) → told (and_then (expect x ([], ns)) f) ≡ Err (wrong [])
unfolding expect sees symbol refusal place
expect-end only ns f = ap (λ b. told (expected b ([], ns) f)) only.no_end

-- a token that has to come
pub eat-need : {A : Type 0} {x : Symbol} {kinds : List ℕ} (depth : ℕ) → Only x kinds → (ts : List Token) (ns : Nodes) (g : Bool → Input → Outcome A) (y : Grammar Token)
    (k : Goes Token (A × Input))
    → ((t : Token) (rest : List Token) → told (g true (rest, ns)) ≡ guided language ahead (rule depth) y rest (λ b end. k (pair (leaf t) b) end))
    → told (g false (ts, ns)) ≡ Err (wrong ts)
    → told (g (sees x (ts, ns)) (after x (ts, ns))) ≡ guided language ahead (rule depth) (both (token kinds) y) ts k
unfolding guided sees symbol after next token_kind
eat-need {A} {x} {kinds} depth only [] ns g y k h o = ap (λ b. told (g b (if b then ([], ns) else ([], ns)))) only.no_end ∙ o
eat-need {A} {x} {kinds} depth only (t ∷ ts) ns g y k h o =
    ap (λ b. told (g b (if b then (ts, ns) else (t ∷ ts, ns)))) (only.agrees (of_kind t.kind) t.broken) ∙ by (among kinds (token_kind t))
  where
    by : (b : Bool) → told (g b (if b then (ts, ns) else (t ∷ ts, ns)))
        ≡ (if b then guided language ahead (rule depth) y ts (λ b end. k (pair (leaf t) b) end) else Err (wrong (t ∷ ts)))
    by true = h t ts
    by false = o

-- with the place of the first token
pub sim-at : {A : Type 0} (depth : ℕ) (p : Parser A) (b : ℕ → Tree Token → Build A) (x : Grammar Token) → vacant x ≡ false
    → ((ts : List Token) (ns : Nodes) → told (p (ts, ns)) ≡ guided language ahead (rule depth) x ts (built (b (place_at ts)) ns)) → Sim depth p x (λ tree. b (place_in tree) tree)
sim-at depth p b x v h = record { holds = λ ts ns. h ts ns ∙ at-first depth b x v ts ns }

pub arrow-agrees : (symbol : Symbol) (broken : Bool) → (if broken then false else same symbol s.Arrow) ≡ among arrow_kinds (numbered symbol broken)
unfolding same tables
arrow-agrees s.Arrow false = refl
arrow-agrees s.Arrow true = refl
arrow-agrees _ false = refl
arrow-agrees _ true = refl

pub step-arrow : {B : Type 0} (ts : List Token) (ns : Nodes) (f : Unit {0} → Parser B) (k : Goes Token (B × Input))
    → ((t : Token) (rest : List Token) → told (f tt (rest, ns)) ≡ k (leaf t) rest)
    → told (and_then (arrow (ts, ns)) f) ≡ taking language arrow_kinds ts k
unfolding arrow is_arrow next token_kind refusal place
step-arrow [] ns f k h = refl
step-arrow {B} (t ∷ ts) ns f k h =
    ap (λ b. told (expected b (t ∷ ts, ns) f)) (arrow-agrees (of_kind t.kind) t.broken) ∙ by (among arrow_kinds (token_kind t))
  where
    by : (b : Bool) → told (expected b (t ∷ ts, ns) f) ≡ (if b then k (leaf t) ts else Err (wrong (t ∷ ts)))
    by true = h t ts
    by false = refl

-- where it comes, the token and what follows it
pub eat-prefer : {A : Type 0} {x : Symbol} {kinds : List ℕ} (depth : ℕ) → Only x kinds → (ts : List Token) (ns : Nodes) (g : Bool → Input → Outcome A) (y : Grammar Token)
    (k : Goes Token (A × Input))
    → ((t : Token) (rest : List Token) → told (g true (rest, ns)) ≡ guided language ahead (rule depth) y rest (λ b end. k (pair (leaf t) b) end))
    → told (g false (ts, ns)) ≡ k tip ts
    → told (g (sees x (ts, ns)) (after x (ts, ns))) ≡ guided language ahead (rule depth) (prefer kinds (both (token kinds) y)) ts k
unfolding guided sees symbol after next token_kind
eat-prefer {A} {x} {kinds} depth only [] ns g y k h o = ap (λ b. told (g b (if b then ([], ns) else ([], ns)))) only.no_end ∙ o
eat-prefer {A} {x} {kinds} depth only (t ∷ ts) ns g y k h o =
    ap (λ b. told (g b (if b then (ts, ns) else (t ∷ ts, ns)))) (only.agrees (of_kind t.kind) t.broken) ∙ by (among kinds (token_kind t))
  where
    by : (b : Bool) → told (g b (if b then (ts, ns) else (t ∷ ts, ns)))
        ≡ (if b then (if b then guided language ahead (rule depth) y ts (λ b end. k (pair (leaf t) b) end) else Err (wrong (t ∷ ts))) else k tip (t ∷ ts))
    by true = h t ts
    by false = o

-- a token that has to come, and is told
pub eat-need+ : {A : Type 0} {x : Symbol} {kinds : List ℕ} (depth : ℕ) → Only x kinds → (ts : List Token) (ns : Nodes) (g : Bool → Input → Outcome A) (y : Grammar Token)
    (k : Goes Token (A × Input))
    → ((t : Token) (rest : List Token) → same (of_kind t.kind) x ≡ true → told (g true (rest, ns)) ≡ guided language ahead (rule depth) y rest (λ b end. k (pair (leaf t) b) end))
    → told (g false (ts, ns)) ≡ Err (wrong ts)
    → told (g (sees x (ts, ns)) (after x (ts, ns))) ≡ guided language ahead (rule depth) (both (token kinds) y) ts k
unfolding guided sees symbol after next token_kind
eat-need+ {A} {x} {kinds} depth only [] ns g y k h o = ap (λ b. told (g b (if b then ([], ns) else ([], ns)))) only.no_end ∙ o
eat-need+ {A} {x} {kinds} depth only (t ∷ ts) ns g y k h o =
    ap (λ b. told (g b (if b then (ts, ns) else (t ∷ ts, ns)))) (only.agrees (of_kind t.kind) t.broken) ∙ by (among kinds (token_kind t)) refl
  where
    by : (b : Bool) → among kinds (token_kind t) ≡ b → told (g b (if b then (ts, ns) else (t ∷ ts, ns)))
        ≡ (if b then guided language ahead (rule depth) y ts (λ b end. k (pair (leaf t) b) end) else Err (wrong (t ∷ ts)))
    by true e = h t ts (only.agrees (of_kind t.kind) t.broken ∙ e)
    by false e = o

pub even-kind : (symbol : Symbol) (broken : Bool) → (numbered symbol broken % 2 == 0) ≡ (if broken then false else true)
even-kind s.Arrow false = refl
even-kind s.Arrow true = refl
even-kind _ false = refl
even-kind _ true = refl
