-- The heads of loops.
use Rattle.std.proofs.Common.{true, false, Bool, ◌≡◌, ℕ, List, [], ◌∷◌, refl, ap, sym, ◌∙◌, codes}
use Rattle.std.specs.Prelude.{Option, Some, None, if◌then◌else◌, not, ◌||◌, is_none, Ok, Err}
use Rattle.grammar.specs.Kinds.{among, apart}
use Rattle.grammar.proofs.Sets.{off-apart}
use Rattle.grammar.specs.Reading.{firsts, nullable}
use Rattle.grammar.specs.Tests.{InPlace}
use Rattle.grammar.specs.Grammar.{Tree, tip, leaf, pair, both, either, token, starts, entry}
use Rattle.js_token.specs.declared.token.Token.{Token}
use Rattle.js_tree.specs.Nodes.{Nodes}
use Rattle.js_tree.specs.declared.node.NodeId.{NodeId}
use Rattle.js_grammar.specs.Kinds.{kinds, mark, word, end}
use Rattle.js_grammar.specs.Script.{Rule, rules, heads, any, always, optional, commas, identifier, pattern, bind, let_binding, const_binding, declaration, assign, assign_rule, expr, expr_rule, stmt_rule, item_rule, block_rule, stmt, item, unbroken, loop_rest}
use Rattle.js_grammar.specs.Script as rule_of
use Rattle.js_parse.specs.declared.symbol.Symbol.{Symbol}
use Rattle.js_parse.specs.declared.symbol.Symbol.TheVariants as s
use Rattle.js_parse.specs.declared.part.Head.{Head}
use Rattle.js_parse.specs.Symbols.{of_kind, same, is_name}
use Rattle.js_parse.specs.Input.{Parser, Input, and_then, symbol, place, next, add, pure, expect, sees, after, peek, ◌>>=◌, ◌<$>◌}
use Rattle.js_parse.specs.Grammar as g
use Rattle.js_parse.specs.Statements as st
use Rattle.js_parse.specs.Nesting.{part_at}
use Rattle.parse_laws.specs.Kinds.{numbered, token_kind}
use Rattle.parse_laws.specs.Trees as mk
use Rattle.parse_laws.specs.Trees.{Parts, parts_at, place_in, symbol_in, first_token, first, second, under, Build}
use Rattle.parse_laws.proofs.Guided.{taking, guided, Goes, done, wrong}
use Rattle.parse_laws.proofs.Sound.{vacant, read-front}
use Rattle.parse_laws.proofs.Walk.{Only, language, ahead, rule, told, built, Sim, step, step+, step-expect, eat-or, at_kind, goes-so, none-at_end, each-takes}
use Rattle.parse_laws.proofs.Begun.{not-begun, at-kind, kind-at, tables}
use Rattle.parse_laws.proofs.Steps.{step-same, sim-by-at, sees-starts, assoc}
use Rattle.parse_laws.proofs.Symbols
use Rattle.parse_laws.proofs.Loops.{none-first}
use Rattle.parse_laws.proofs.Parted.{Parted}
use Rattle.parse_laws.proofs.Bindings.{bind-sim}
use Rattle.parse_laws.proofs.Declared
use Rattle.parse_laws.proofs.Declared.{declarator-sim, declarators-sim, binding, comma_binding, initial_x, initial-sim}
use Rattle.parse_laws.proofs.Arrows.{assign-sim, expression-sim, expr-takes}

pub true-by : (b : Bool) → (b ≡ false → ⊥) → b ≡ true
true-by true f = refl
true-by false f = absurd (f refl)

pub taking-none : {C : Type 0} (kinds : List ℕ) (ts : List Token) (k : Goes Token C) → starts language (among kinds) ts ≡ false → taking language kinds ts k ≡ Err (wrong ts)
taking-none kinds [] k e = refl
taking-none kinds (t ∷ ts) k e = rw e refl

module _ (depth : ℕ) (h : Parted depth) where
  pub expression-off : (ts : List Token) (ns : Nodes) → starts language (among (firsts language.heads (expr true))) ts ≡ false
      → guided language ahead (rule depth) (expr_rule true) ts (built (mk.expression (parts_at depth)) ns) ≡ Err (wrong ts)
  unfolding guided InPlace rules entry nullable
  expression-off ts ns i = not-begun depth (expr true) refl refl ts (built (mk.expression (parts_at depth)) ns) i

  abbrev pub optional_by : Bool → Parser (Option NodeId)
  optional_by true = pure None
  optional_by false = Some <$> g.expression (part_at depth) true

  -- an expression, if it comes, up to the token that closes
  pub optional-step : {A : Type 0} {close : Symbol} {kinds : List ℕ} → Only close kinds → apart kinds (firsts language.heads (expr true)) ≡ true
      → (ts : List Token) (ns : Nodes) (f : Option NodeId → Parser A) (k : Tree Token → Goes Token (A × Input))
      → ((b : Tree Token) (t : Token) (rest : List Token) → (let w = mk.maybe (mk.expression (parts_at depth)) b ns in told (f w.0 (rest, w.1))) ≡ k b (leaf t) rest)
      → told (and_then (st.optional (part_at depth) close (ts, ns)) (λ value i. and_then (expect close i) (λ _. f value)))
      ≡ guided language ahead (rule depth) (optional (expr true)) ts (λ b m. taking language kinds m (k b))
  unfolding st.optional guided first_token
  optional-step {A} {close} {kinds} only parted ts ns f k o =
      ap (λ b. told (and_then (optional_by b (ts, ns)) (λ value i. and_then (expect close i) (λ _. f value)))) (sees-starts only ts ns)
      ∙ by (starts language (among kinds) ts) (starts language (among (firsts language.heads (expr true))) ts) refl refl
    where
      by : (w z : Bool) → starts language (among kinds) ts ≡ w → starts language (among (firsts language.heads (expr true))) ts ≡ z
          → told (and_then (optional_by w (ts, ns)) (λ value i. and_then (expect close i) (λ _. f value)))
          ≡ (if z then guided language ahead (rule depth) (expr_rule true) ts (λ b m. taking language kinds m (k b)) else taking language kinds ts (k tip))
      by true true p q = absurd (let off = off-apart language kinds (firsts language.heads (expr true)) ts parted q in cc (off, p))
      by true false p q = step-expect only ts ns _ _ (λ t rest. o tip t rest)
      by false true p q = assoc (g.expression (part_at depth) true (ts, ns)) _ _ ∙ step+ (expression-sim depth h true) ts ns _ _ (λ a m e. step-expect only m _ _ _ (λ t rest.
          let x = read-front language ahead depth each-takes (expr_rule true) (expr-takes depth h true) ts m a e in
          ap (λ p. let w = (if is_none p then mk.pure None else (λ ns. mk.after (mk.expression (parts_at depth) a ns) (λ x. mk.pure (Some x)))) ns in told (f w.0 (rest, w.1))) (sym x.3) ∙ o a t rest))
      by false false p q = assoc (g.expression (part_at depth) true (ts, ns)) _ _
          ∙ none-first (g.expression (part_at depth) true (ts, ns)) _ ((expression-sim depth h true).holds ts ns ∙ expression-off ts ns q) ∙ sym (taking-none kinds ts (k tip) p)

  pub heads-parted : (apart (kinds (mark (codes ";") ∷ [])) (firsts language.heads (expr true)) ≡ true) × (apart (kinds (mark (codes ")") ∷ [])) (firsts language.heads (expr true)) ≡ true)
  unfolding tables apart
  heads-parted = (refl, refl)

  abbrev pub shut : List ℕ
  shut = kinds (mark (codes ")") ∷ [])

  -- ";" [Expr] ";" [Expr] ")"
  pub loop-step : (start : Option NodeId) → Sim depth (st.loop_head (part_at depth) start) (both loop_rest (token shut)) (λ tree. mk.loop_head (parts_at depth) start (first tree))
  unfolding st.loop_head mk.loop_head guided
  loop-step start = record {
    holds = λ ts ns. step-expect Symbols.only-semicolon ts ns _ _ (λ t m. optional-step Symbols.only-semicolon heads-parted.0 m _ _ _ (λ a u n.
        optional-step Symbols.only-close_paren heads-parted.1 n _ _ _ (λ b v rest. refl)));
  }

  abbrev pub of_x : Rule
  of_x = both (token (kinds (Rattle.js_grammar.specs.Kinds.name (codes "of") ∷ []))) (assign true)

  abbrev pub rest_x : Bool → Bool → Rule
  rest_x constant required = both (initial_x depth h false required) (both (any (comma_binding depth h constant false)) loop_rest)

  abbrev pub declared_k : Bool → ℕ → NodeId → Nodes → Goes Token (Head × Input)
  declared_k constant at bound ns tree rest = built (λ tree. mk.declared_by (parts_at depth) (symbol_in tree) constant at bound tree) ns tree rest

  abbrev pub rest_built : Bool → ℕ → NodeId → Tree Token → Build Head
  rest_built constant at bound tree ns = mk.after (mk.initial (parts_at depth) (first tree) ns) (λ value ns. mk.after (mk.declarators (parts_at depth) (record { bind = bound; value = value } ∷ []) (first (second tree)) ns) (λ pairs ns.
      mk.after (mk.added (st.declaration_node constant pairs) at ns) (λ id. mk.loop_head (parts_at depth) (Some id) (second (second tree)))))

  abbrev pub rest_k : Bool → ℕ → NodeId → Nodes → Goes Token (Head × Input)
  rest_k constant at bound ns tree rest = built (rest_built constant at bound) ns tree rest

  pub declared_rest : (constant : Bool) (at : ℕ) (named_ : Bool) (bound : NodeId) (ts : List Token) (ns : Nodes)
      → told (st.declared_head (part_at depth) constant at named_ bound (ts, ns))
      ≡ guided language ahead (rule depth) (rest_x constant (constant || not named_)) ts (λ b m. taking language shut m (λ c rest. rest_k constant at bound ns b rest))
  unfolding st.declared_head guided add
  declared_rest constant at named_ bound ts ns = step (initial-sim depth h false (constant || not named_)) ts ns _ _ (λ a m. step (declarators-sim depth h constant false _) m _ _ _ (λ d n.
      step-same (loop-step _) n _ _ (λ e rest. refl)))

  pub not-of : (symbol : Symbol) (constant : Bool) (at : ℕ) (bound : NodeId) (tree : Tree Token) → same symbol s.Of ≡ false
      → rest_built constant at bound tree ≡ mk.declared_by (parts_at depth) symbol constant at bound tree
  unfolding same
  not-of s.Of constant at bound tree e = absurd (cc (e))
  not-of _ constant at bound tree e = refl

  abbrev pub each_by : Bool → ℕ → Bool → NodeId → Bool → Parser Head
  each_by constant at named_ bound each = if each then st.of_head (part_at depth) constant bound else st.declared_head (part_at depth) constant at named_ bound

  pub of-step : (constant : Bool) (at : ℕ) (bound : NodeId) (ns : Nodes) (t : Token) (rest : List Token) → of_kind t.kind ≡ s.Of
      → told (st.of_head (part_at depth) constant bound (rest, ns)) ≡ guided language ahead (rule depth) (assign true) rest (λ b m. taking language shut m (λ c end. declared_k constant at bound ns (pair (leaf t) b) end))
  unfolding st.of_head guided first_token
  of-step constant at bound ns t rest e = step (assign-sim depth h true) rest ns _ _ (λ a m. step-expect Symbols.only-close_paren m _ _ _ (λ u end.
      ap (λ q. let w = mk.declared_by (parts_at depth) q constant at bound (pair (leaf t) a) ns in Ok (w.0, (end, w.1))) (sym e)))

  pub no-of : (constant required : Bool) (symbol : Symbol) (broken : Bool) → among (firsts language.heads (rest_x constant required)) (numbered symbol broken) ≡ true → same symbol s.Of ≡ false
  unfolding tables same
  no-of true true s.Of true e = absurd (cc (e))
  no-of true true s.Of false e = absurd (cc (e))
  no-of true true _ true e = refl
  no-of true true _ false e = refl
  no-of true false s.Of true e = absurd (cc (e))
  no-of true false s.Of false e = absurd (cc (e))
  no-of true false _ true e = refl
  no-of true false _ false e = refl
  no-of false true s.Of true e = absurd (cc (e))
  no-of false true s.Of false e = absurd (cc (e))
  no-of false true _ true e = refl
  no-of false true _ false e = refl
  no-of false false s.Of true e = absurd (cc (e))
  no-of false false s.Of false e = absurd (cc (e))
  no-of false false _ true e = refl
  no-of false false _ false e = refl

  pub rest-placed : (constant required : Bool) → InPlace language.rules (rest_x constant required)
  unfolding InPlace rules entry
  rest-placed true true = ((tt, refl), ((tt, ((tt, tt), (tt, refl))), (tt, ((refl, tt), (tt, (refl, tt))))))
  rest-placed true false = (((tt, refl), tt), ((tt, ((tt, tt), (tt, refl))), (tt, ((refl, tt), (tt, (refl, tt))))))
  rest-placed false true = ((tt, refl), ((tt, ((tt, ((tt, refl), tt)), (tt, (tt, refl)))), (tt, ((refl, tt), (tt, (refl, tt))))))
  rest-placed false false = (((tt, refl), tt), ((tt, ((tt, ((tt, refl), tt)), (tt, (tt, refl)))), (tt, ((refl, tt), (tt, (refl, tt))))))

  pub rest-full : (constant required : Bool) → (nullable (rest_x constant required) ≡ false) × (vacant (rest_x constant required) ≡ false)
  unfolding nullable vacant
  rest-full true true = (refl, refl)
  rest-full true false = (refl, refl)
  rest-full false true = (refl, refl)
  rest-full false false = (refl, refl)

  pub rest-other : (constant required : Bool) (ts rest : List Token) (tree : Tree Token) → guided language ahead (rule depth) (rest_x constant required) ts done ≡ Ok (tree, rest)
      → same (symbol_in tree) s.Of ≡ false
  unfolding token_kind
  rest-other constant required ts rest tree e =
      let f = read-front language ahead depth each-takes (rest_x constant required) (rest-full constant required).1 ts rest tree e in
      let x : starts language (among (firsts language.heads (rest_x constant required))) ts ≡ true = true-by _ (λ o. let z = not-begun depth (rest_x constant required) (rest-placed constant required) (rest-full constant required).0 ts done o in cc (z, e)) in
      let y : among (firsts language.heads (rest_x constant required)) (token_kind f.0) ≡ true = ap (λ ts. starts language (among (firsts language.heads (rest_x constant required))) ts) (sym f.2) ∙ x in
      ap (λ o. same (mk.symbol_of_first o) s.Of) f.3 ∙ no-of constant required (of_kind f.0.kind) f.0.broken y

  pub rest-step : (constant : Bool) (at : ℕ) (named_ : Bool) (bound : NodeId) (ts : List Token) (ns : Nodes)
      → told (st.declared_head (part_at depth) constant at named_ bound (ts, ns))
      ≡ guided language ahead (rule depth) (rest_x constant (constant || not named_)) ts (λ b m. taking language shut m (λ c rest. declared_k constant at bound ns b rest))
  rest-step constant at named_ bound ts ns = declared_rest constant at named_ bound ts ns ∙ goes-so depth (rest_x constant (constant || not named_)) ts _ _ (λ tree m e.
      ap (λ f. taking language shut m (λ c rest. let w = f ns in Ok (w.0, (rest, w.1)))) (not-of (symbol_in tree) constant at bound tree (rest-other constant (constant || not named_) ts m tree e)))

  -- behind a binding: `of`, or the rest of a declaration
  pub behind-binding : (constant : Bool) (at : ℕ) (named_ : Bool) (bound : NodeId) (ts : List Token) (ns : Nodes)
      → told (each_by constant at named_ bound (sees s.Of (ts, ns)) (after s.Of (ts, ns)))
      ≡ guided language ahead (rule depth) (either of_x (rest_x constant (constant || not named_))) ts (λ b m. taking language shut m (λ c rest. declared_k constant at bound ns b rest))
  unfolding guided
  behind-binding constant at named_ bound ts ns = eat-or depth Symbols.only-of ts ns (each_by constant at named_ bound) (assign true)
      (λ b m. taking language shut m (λ c rest. declared_k constant at bound ns b rest)) _
      (λ t rest e w. of-step constant at bound ns t rest (Symbols.is-of (of_kind t.kind) w)) (rest-step constant at named_ bound ts ns)

  -- ---- `let` and `const`

  abbrev pub declared_in : Bool → ℕ → Symbol → Parser Head
  declared_in constant at symbol i = and_then (g.bind (part_at depth) i) (λ bound i. each_by constant at (is_name symbol) bound (sees s.Of i) (after s.Of i))

  abbrev pub declared_built : Bool → ℕ → Tree Token → Build Head
  declared_built constant at tree ns = mk.after (mk.bind (parts_at depth) (first tree) ns) (λ bound. mk.declared_by (parts_at depth) (symbol_in (second tree)) constant at bound (second tree))

  abbrev pub let_x : Rule
  let_x = either (both identifier (either of_x (rest_x false false))) (both pattern (either of_x (rest_x false true)))

  abbrev pub behind_x : Bool → Rule
  behind_x constant = if constant then both bind (either of_x (rest_x true true)) else let_x

  pub const-step : (at : ℕ) (ts : List Token) (ns : Nodes) → told (declared_in true at (symbol (ts, ns)) (ts, ns))
      ≡ guided language ahead (rule depth) (both (both bind (either of_x (rest_x true true))) (token shut)) ts (λ tree rest. built (declared_built true at) ns (first tree) rest)
  unfolding guided
  const-step at ts ns = step (bind-sim depth h) ts ns _ _ (λ a m. behind-binding true at (is_name (symbol (ts, ns))) _ m _)

  abbrev pub let_k : ℕ → Nodes → Bool → Goes Token (Head × Input)
  let_k at ns named_ a m = guided language ahead (rule depth) (either of_x (rest_x false (not named_))) m (λ b n. taking language shut n (λ c rest. built (declared_built false at) ns (pair a b) rest))

  pub bound-step : (at : ℕ) (t : Token) (ts : List Token) (ns : Nodes) (named_ : Bool)
      → told (and_then (g.bind (part_at depth) (t ∷ ts, ns)) (λ bound i. each_by false at named_ bound (sees s.Of i) (after s.Of i))) ≡ guided language ahead (rule depth) bind (t ∷ ts) (let_k at ns named_)
  bound-step at t ts ns named_ = step (bind-sim depth h) (t ∷ ts) ns _ (let_k at ns named_) (λ a m. behind-binding false at named_ _ m _)

  pub let-at : (at : ℕ) (t : Token) (ts : List Token) (ns : Nodes) (symbol : Symbol) (broken : Bool) → of_kind t.kind ≡ symbol → t.broken ≡ broken
      → told (declared_in false at symbol (t ∷ ts, ns)) ≡ at_kind depth (numbered symbol broken) (both let_x (token shut)) (t ∷ ts) (λ tree rest. built (declared_built false at) ns (first tree) rest)
  unfolding at_kind tables guided
  let-at at t ts ns s.Name false e f = bound-step at t ts ns true ∙ kind-at depth s.Name false bind t ts (let_k at ns true) e f
  let-at at t ts ns s.Name true e f = bound-step at t ts ns true ∙ kind-at depth s.Name true bind t ts (let_k at ns true) e f
  let-at at t ts ns x false e f = bound-step at t ts ns (is_name x) ∙ kind-at depth x false bind t ts (let_k at ns (is_name x)) e f
  let-at at t ts ns x true e f = bound-step at t ts ns (is_name x) ∙ kind-at depth x true bind t ts (let_k at ns (is_name x)) e f

  pub let-step : (at : ℕ) (ts : List Token) (ns : Nodes) → told (declared_in false at (symbol (ts, ns)) (ts, ns))
      ≡ guided language ahead (rule depth) (both let_x (token shut)) ts (λ tree rest. built (declared_built false at) ns (first tree) rest)
  unfolding symbol vacant token_kind
  let-step at [] ns = none-first (g.bind (part_at depth) ([], ns)) _ (Declared.bind-end depth h ns) ∙ sym (none-at_end depth (both let_x (token shut)) refl _)
  let-step at (t ∷ ts) ns = let-at at t ts ns (of_kind t.kind) t.broken refl refl ∙ at-kind (Head × Input) depth (both let_x (token shut)) t ts _

  -- ---- the head

  abbrev pub head_by : Symbol → Parser Head
  head_by s.Let = st.declared (part_at depth) false
  head_by s.Const = st.declared (part_at depth) true
  head_by s.Semicolon = st.loop_head (part_at depth) None
  head_by _ = g.expression (part_at depth) false >>= λ start. st.loop_head (part_at depth) (Some start)

  abbrev pub head_x : Rule
  head_x = either (both (token (kinds (word (codes "let") ∷ []))) let_x) (either (both (token (kinds (word (codes "const") ∷ []))) (both bind (either of_x (rest_x true true)))) (either (both (expr false) loop_rest) loop_rest))

  pub expression-gone : {C : Type 0} (t : Token) (ts : List Token) (k : Goes Token C) → among (firsts language.heads (expr false)) (token_kind t) ≡ false
      → guided language ahead (rule depth) (expr_rule false) (t ∷ ts) k ≡ Err (wrong (t ∷ ts))
  unfolding guided InPlace rules entry nullable
  expression-gone t ts k e = not-begun depth (expr false) refl refl (t ∷ ts) k e

  pub expression-head : (t : Token) (ts : List Token) (ns : Nodes) → told (and_then (g.expression (part_at depth) false (t ∷ ts, ns)) (λ start. st.loop_head (part_at depth) (Some start)))
      ≡ guided language ahead (rule depth) (expr_rule false) (t ∷ ts) (λ a m. guided language ahead (rule depth) (both loop_rest (token shut)) m
      (λ b rest. let w = mk.after (mk.expression (parts_at depth) a ns) (λ start. mk.loop_head (parts_at depth) (Some start) (first b)) in Ok (w.0, (rest, w.1))))
  expression-head t ts ns = step (expression-sim depth h false) (t ∷ ts) ns _ _ (λ a m. step-same (loop-step _) m _ _ (λ b rest. refl))

  pub expression-or : {C : Type 0} (t : Token) (ts : List Token) (symbol : Symbol) (broken : Bool) → of_kind t.kind ≡ symbol → t.broken ≡ broken → (k : Goes Token C)
      → guided language ahead (rule depth) (expr_rule false) (t ∷ ts) k
      ≡ (if among (firsts language.heads (expr false)) (numbered symbol broken) then guided language ahead (rule depth) (expr_rule false) (t ∷ ts) k else Err (wrong (t ∷ ts)))
  unfolding guided token_kind
  expression-or t ts symbol broken e f k =
      by (among (firsts language.heads (expr false)) (token_kind t)) refl
      ∙ ap (λ s. if among (firsts language.heads (expr false)) (numbered s t.broken) then guided language ahead (rule depth) (expr_rule false) (t ∷ ts) k else Err (wrong (t ∷ ts))) e
      ∙ ap (λ b. if among (firsts language.heads (expr false)) (numbered symbol b) then guided language ahead (rule depth) (expr_rule false) (t ∷ ts) k else Err (wrong (t ∷ ts))) f
    where
      by : (b : Bool) → among (firsts language.heads (expr false)) (token_kind t) ≡ b → guided language ahead (rule depth) (expr_rule false) (t ∷ ts) k
          ≡ (if b then guided language ahead (rule depth) (expr_rule false) (t ∷ ts) k else Err (wrong (t ∷ ts)))
      by true e = refl
      by false e = expression-gone t ts k e

  pub head-at : (t : Token) (ts : List Token) (ns : Nodes) (symbol : Symbol) (broken : Bool) → of_kind t.kind ≡ symbol → t.broken ≡ broken
      → told (head_by symbol (t ∷ ts, ns)) ≡ at_kind depth (numbered symbol broken) (both head_x (token shut)) (t ∷ ts) (built (λ tree. mk.head_by (parts_at depth) symbol t.place (first tree)) ns)
  unfolding at_kind tables st.declared place next guided mk.declared
  head-at t ts ns s.Let false e f = let-step t.place ts ns
  head-at t ts ns s.Let true e f = let-step t.place ts ns
  head-at t ts ns s.Const false e f = const-step t.place ts ns
  head-at t ts ns s.Const true e f = const-step t.place ts ns
  head-at t ts ns s.Semicolon false e f = step-same (loop-step None) (t ∷ ts) ns _ (λ a rest. refl) ∙ kind-at depth s.Semicolon false (both loop_rest (token shut)) t ts (built (λ tree. mk.loop_head (parts_at depth) None (first tree)) ns) e f
  head-at t ts ns s.Semicolon true e f = step-same (loop-step None) (t ∷ ts) ns _ (λ a rest. refl) ∙ kind-at depth s.Semicolon true (both loop_rest (token shut)) t ts (built (λ tree. mk.loop_head (parts_at depth) None (first tree)) ns) e f
  head-at t ts ns x false e f = expression-head t ts ns ∙ expression-or t ts x false e f _
  head-at t ts ns x true e f = expression-head t ts ns ∙ expression-or t ts x true e f _

  pub head-takes : vacant (both head_x (token shut)) ≡ false
  unfolding vacant
  head-takes = ap (λ b. if ((if b then false else false) || false) then false else false) (expr-takes depth h false)

  pub head-end : (ns : Nodes) → told (head_by s.End ([], ns)) ≡ Err (wrong [])
  head-end ns = none-first (g.expression (part_at depth) false ([], ns)) _ ((expression-sim depth h false).holds [] ns ∙ none-at_end depth (expr_rule false) (expr-takes depth h false) _)

  pub head-sim : Sim depth (peek >>= head_by) (both head_x (token shut)) (λ tree. mk.head_by (parts_at depth) (symbol_in tree) (place_in tree) (first tree))
  head-sim = sim-by-at depth head_by (λ at symbol tree. mk.head_by (parts_at depth) symbol at (first tree)) (both head_x (token shut)) head-takes head-end head-at

  pub for_head-sim : Sim depth (st.for_head (part_at depth)) rule_of.for_rule (mk.for_head (parts_at depth))
  unfolding st.for_head rule_of.for_rule mk.for_head guided
  for_head-sim = record { holds = λ ts ns. step-expect Symbols.only-open_paren ts ns _ _ (λ t m. step-same head-sim m ns _ (λ a rest. refl)) }
