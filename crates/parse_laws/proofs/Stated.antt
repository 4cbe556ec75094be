-- Statements.
use Rattle.std.proofs.Common.{true, false, Bool, ◌≡◌, ℕ, suc, List, [], ◌∷◌, ◌++◌, length, refl, ap, sym, ◌∙◌, codes, arith}
use Rattle.std.specs.Prelude.{Option, Some, None, if◌then◌else◌, ◌||◌, ◌%◌, ◌==◌, is_none, Ok, Err}
use Rattle.grammar.specs.Kinds.{among, apart, kept}
use Rattle.grammar.proofs.Sets.{kept-among, among-kept, apart-tells}
use Rattle.grammar.specs.Reading.{firsts, nullable}
use Rattle.grammar.specs.Tests.{InPlace}
use Rattle.grammar.specs.Grammar.{Tree, tip, leaf, pair, both, either, call, empty, token, prefer, starts, entry}
use Rattle.js_token.specs.declared.token.Token.{Token}
use Rattle.js_tree.specs.Nodes.{Nodes}
use Rattle.js_tree.specs.declared.node.NodeId.{NodeId}
use Rattle.js_tree.specs.declared.node.Node.{Node}
use Rattle.js_tree.specs.declared.node.Node.TheVariants as made
use Rattle.js_grammar.specs.Kinds.{kinds, mark, word, end}
use Rattle.js_grammar.specs.Script.{Rule, rules, heads, optional, commas, expr, expr_rule, stmt_rule, item_rule, block_rule, item, unbroken}
use Rattle.js_parse.specs.declared.symbol.Symbol.{Symbol}
use Rattle.js_parse.specs.declared.symbol.Symbol.TheVariants as s
use Rattle.js_parse.specs.declared.part.Part.TheVariants as parts
use Rattle.js_parse.specs.Symbols.{of_kind}
use Rattle.js_parse.specs.Input.{Parser, Input, and_then, place, place_at, next, add, pure, refuse, expect, sees, take_token, leaf as leaf_of, is_broken, ◌>>=◌, ◌>>◌, ◌<$>◌}
use Rattle.js_parse.specs.Grammar as g
use Rattle.js_parse.specs.Statements as st
use Rattle.js_parse.specs.Nesting.{part_at}
use Rattle.parse_laws.specs.Kinds.{numbered, token_kind}
use Rattle.parse_laws.specs.Trees as mk
use Rattle.parse_laws.specs.Trees.{Parts, parts_at, place_in, symbol_in, first_token, first, second, under, Build}
use Rattle.parse_laws.proofs.Guided.{guided, Goes, wrong}
use Rattle.parse_laws.proofs.Sound.{vacant, read-front}
use Rattle.parse_laws.proofs.Walk.{language, ahead, rule, told, built, Sim, step, step+, step-expect, eat-step, eat-step+, at_kind, on-true, on-false, none-at_end, each-takes}
use Rattle.parse_laws.proofs.Begun.{refusals, not-begun, tables}
use Rattle.parse_laws.proofs.Steps.{eat-need+, eat-prefer, even-kind, sim-by-at, sim-at, sees-starts, assoc}
use Rattle.parse_laws.proofs.Symbols
use Rattle.parse_laws.proofs.Loops.{items-loop, none-first}
use Rattle.parse_laws.proofs.Parted.{Parted}
use Rattle.parse_laws.proofs.Declared.{declarator-sim, declarators-sim, binding}
use Rattle.parse_laws.proofs.Arrows.{expression-sim, expr-takes}

module _ (depth : ℕ) (h : Parted depth) where
  -- ---- declarations

  pub declaration-step : (constant : Bool) (t : Token) (ts : List Token) (ns : Nodes) → told (st.declaration_statement (part_at depth) constant (t ∷ ts, ns))
      ≡ guided language ahead (rule depth) (commas (binding depth h constant true)) ts (λ b m. guided language ahead (rule depth) (token (kinds (mark (codes ";") ∷ []))) m
      (λ c rest. built (λ tree. mk.declaration (parts_at depth) constant t.place (first tree)) ns (pair (pair (leaf t) b) c) rest))
  unfolding st.declaration_statement st.declaration mk.declaration place next add guided
  declaration-step constant t ts ns =
      assoc (st.declarator (part_at depth) constant true (ts, ns)) _ _ ∙ step (declarator-sim depth h constant true) ts ns _ _ (λ a m.
      assoc (st.declarators (part_at depth) constant true _ (m, _)) _ _ ∙ step (declarators-sim depth h constant true _) m _ _ _ (λ d n. step-expect Symbols.only-semicolon n _ _ _ (λ u rest. refl)))

  -- ---- statements by their first words

  abbrev pub else_by : Bool → Parser (Option NodeId)
  else_by other = if other then Some <$> g.node_of (part_at depth) parts.Body else pure None

  abbrev pub else_built : Tree Token → Build (Option NodeId)
  else_built = mk.maybe (λ t. (parts_at depth).node_of parts.Body (second t))

  pub else-sim : Sim depth (st.else_clause (part_at depth)) (prefer (kinds (word (codes "else") ∷ [])) (both (token (kinds (word (codes "else") ∷ []))) (call 4))) else_built
  unfolding st.else_clause first_token
  else-sim = record { holds = λ ts ns. eat-prefer depth Symbols.only-else ts ns else_by (call 4) (built else_built ns) (λ t rest. step h.body_part rest ns _ _ (λ a end. refl)) refl }

  pub if-step : (t : Token) (ts : List Token) (ns : Nodes) → told (st.if_statement (part_at depth) (t ∷ ts, ns))
      ≡ guided language ahead (rule depth) (both (both (call 5) (call 4)) (prefer (kinds (word (codes "else") ∷ [])) (both (token (kinds (word (codes "else") ∷ []))) (call 4)))) ts
      (λ b rest. built (mk.if_statement (parts_at depth)) ns (pair (leaf t) b) rest)
  unfolding st.if_statement mk.if_statement place next add guided first_token
  if-step t ts ns = step h.group_part ts ns _ _ (λ a m. step h.body_part m _ _ _ (λ b n. step else-sim n _ _ _ (λ c rest. refl)))

  pub while-step : (t : Token) (ts : List Token) (ns : Nodes) → told (st.while_statement (part_at depth) (t ∷ ts, ns))
      ≡ guided language ahead (rule depth) (both (call 5) (call 4)) ts (λ b rest. built (mk.while_statement (parts_at depth)) ns (pair (leaf t) b) rest)
  unfolding st.while_statement mk.while_statement place next add guided first_token
  while-step t ts ns = step h.group_part ts ns _ _ (λ a m. step h.body_part m _ _ _ (λ b rest. refl))

  pub do-step : (t : Token) (ts : List Token) (ns : Nodes) → told (st.do_statement (part_at depth) (t ∷ ts, ns))
      ≡ guided language ahead (rule depth) (both (call 4) (both (token (kinds (word (codes "while") ∷ []))) (both (call 5) (token (kinds (mark (codes ";") ∷ [])))))) ts (λ b rest. built (mk.do_statement (parts_at depth)) ns (pair (leaf t) b) rest)
  unfolding st.do_statement mk.do_statement place next add guided first_token
  do-step t ts ns = step h.body_part ts ns _ _ (λ a m. step-expect Symbols.only-while m _ _ _ (λ u n. step h.group_part n _ _ _ (λ b o. step-expect Symbols.only-semicolon o _ _ _ (λ v rest. refl))))

  pub for-step : (t : Token) (ts : List Token) (ns : Nodes) → told (st.for_statement (part_at depth) (t ∷ ts, ns))
      ≡ guided language ahead (rule depth) (both (call 26) (call 4)) ts (λ b rest. built (mk.for_statement (parts_at depth)) ns (pair (leaf t) b) rest)
  unfolding st.for_statement mk.for_statement place next add guided first_token
  for-step t ts ns = step h.head_part ts ns _ _ (λ a m. step h.body_part m _ _ _ (λ b rest. refl))

  pub jump-step : (statement : Node) (t : Token) (ts : List Token) (ns : Nodes) → told (st.jump statement (t ∷ ts, ns))
      ≡ guided language ahead (rule depth) (token (kinds (mark (codes ";") ∷ []))) ts (λ b rest. built (λ tree. mk.added statement (place_in tree)) ns (pair (leaf t) b) rest)
  unfolding st.jump place next add guided first_token
  jump-step statement t ts ns = step-expect Symbols.only-semicolon ts ns _ _ (λ u rest. refl)

  pub expression-step : (ts : List Token) (ns : Nodes) → told (st.expression_statement (part_at depth) (ts, ns))
      ≡ guided language ahead (rule depth) (both (expr true) (token (kinds (mark (codes ";") ∷ [])))) ts (built (mk.expression_statement (parts_at depth) (place_at ts)) ns)
  unfolding st.expression_statement mk.expression_statement place add guided
  expression-step ts ns = step (expression-sim depth h true) ts ns _ _ (λ a m. step-expect Symbols.only-semicolon m _ _ _ (λ u rest. refl))

  pub throw-step : (t : Token) (ts : List Token) (ns : Nodes) → told (st.throw_statement (part_at depth) (t ∷ ts, ns))
      ≡ guided language ahead (rule depth) (both (unbroken (expr true)) (token (kinds (mark (codes ";") ∷ [])))) ts (λ b rest. built (mk.throw_statement (parts_at depth)) ns (pair (leaf t) b) rest)
  unfolding st.throw_statement mk.throw_statement place next add guided first_token is_broken token_kind refusals
  throw-step t [] ns = none-first (g.expression (part_at depth) true ([], ns)) _ ((expression-sim depth h true).holds [] ns ∙ none-at_end depth (expr_rule true) (expr-takes depth h true) _)
  throw-step t (u ∷ ts) ns = by u.broken ∙ ap (λ b. if b then guided language ahead (rule depth) (both (expr true) (token (kinds (mark (codes ";") ∷ [])))) (u ∷ ts) (λ b rest. built (mk.throw_statement (parts_at depth)) ns (pair (leaf t) b) rest) else Err (wrong (u ∷ ts)))
      (sym (even-kind (of_kind u.kind) u.broken))
    where
      by : (b : Bool) → told ((if b then refuse else (g.expression (part_at depth) true >>= λ value. expect s.Semicolon >> add (made.Throw value) (place (t ∷ u ∷ ts, ns)))) (u ∷ ts, ns))
          ≡ (if (if b then false else true) then guided language ahead (rule depth) (both (expr true) (token (kinds (mark (codes ";") ∷ [])))) (u ∷ ts) (λ b rest. built (mk.throw_statement (parts_at depth)) ns (pair (leaf t) b) rest) else Err (wrong (u ∷ ts)))
      by true = refl
      by false = step (expression-sim depth h true) (u ∷ ts) ns _ _ (λ a m. step-expect Symbols.only-semicolon m _ _ _ (λ v rest. refl))

  -- ---- return

  abbrev pub semi : List ℕ
  semi = kinds (mark (codes ";") ∷ [])

  abbrev pub returned : ℕ → Bool → Parser NodeId
  returned at none i = and_then ((if none then pure None else Some <$> g.expression (part_at depth) true) i) (λ value i. and_then (expect s.Semicolon i) (λ _. add (made.Return value) at))

  abbrev pub return_k : ℕ → Nodes → Goes Token (NodeId × Input)
  return_k at ns b rest = built (λ tree ns. mk.after (mk.maybe (mk.expression (parts_at depth)) (first tree) ns) (λ value. mk.added (made.Return value) at)) ns b rest

  pub semi-parted : apart semi (firsts language.heads (expr true)) ≡ true
  unfolding tables apart
  semi-parted = refl

  pub nothing-returned : (at : ℕ) (ts : List Token) (ns : Nodes) → told (returned at true (ts, ns)) ≡ guided language ahead (rule depth) (token semi) ts (λ c rest. return_k at ns (pair tip c) rest)
  unfolding guided first_token add
  nothing-returned at ts ns = step-expect Symbols.only-semicolon ts ns _ _ (λ u rest. refl)

  pub value-returned : (at : ℕ) (ts : List Token) (ns : Nodes) → told (returned at false (ts, ns)) ≡ guided language ahead (rule depth) (both (expr true) (token semi)) ts (return_k at ns)
  unfolding guided add
  value-returned at ts ns = assoc (g.expression (part_at depth) true (ts, ns)) _ _ ∙ step+ (expression-sim depth h true) ts ns _ _ (λ a m e.
      step-expect Symbols.only-semicolon m _ _ _ (λ u rest.
      let f = read-front language ahead depth each-takes (expr_rule true) (expr-takes depth h true) ts m a e in
      ap (λ o. let w = mk.after ((if is_none o then mk.pure None else (λ ns. mk.after (mk.expression (parts_at depth) a ns) (λ x. mk.pure (Some x)))) ns) (λ value. mk.added (made.Return value) at) in Ok (w.0, (rest, w.1))) (sym f.3)))

  pub expression-none : (u : Token) (ts : List Token) (ns : Nodes) → among (firsts language.heads (expr true)) (token_kind u) ≡ false
      → guided language ahead (rule depth) (expr_rule true) (u ∷ ts) (built (mk.expression (parts_at depth)) ns) ≡ Err (wrong (u ∷ ts))
  unfolding guided InPlace rules entry nullable
  expression-none u ts ns i = not-begun depth (expr true) refl refl (u ∷ ts) (built (mk.expression (parts_at depth)) ns) i

  -- what may follow `return`, by whether a line break and a semicolon come
  pub return-at : (at : ℕ) (u : Token) (ts : List Token) (ns : Nodes) → told (returned at (u.broken || sees s.Semicolon (u ∷ ts, ns)) (u ∷ ts, ns))
      ≡ guided language ahead (rule depth) (both (optional (unbroken (expr true))) (token semi)) (u ∷ ts) (return_k at ns)
  unfolding guided firsts nullable token_kind
  return-at at u ts ns =
      ap (λ w. told (returned at (u.broken || w) (u ∷ ts, ns))) (sees-starts Symbols.only-semicolon (u ∷ ts) ns)
      ∙ by u.broken (among semi (token_kind u)) (among (kept (λ kind. kind % 2 == 0) (firsts language.heads (expr true))) (token_kind u)) (among (firsts language.heads (expr true)) (token_kind u)) refl refl refl refl
    where
      by : (b w z x : Bool) → u.broken ≡ b → among semi (token_kind u) ≡ w → among (kept (λ kind. kind % 2 == 0) (firsts language.heads (expr true))) (token_kind u) ≡ z
          → among (firsts language.heads (expr true)) (token_kind u) ≡ x
          → told (returned at (b || w) (u ∷ ts, ns))
          ≡ (if z then (if token_kind u % 2 == 0 then guided language ahead (rule depth) (both (expr true) (token semi)) (u ∷ ts) (return_k at ns) else Err (wrong (u ∷ ts)))
          else guided language ahead (rule depth) (token semi) (u ∷ ts) (λ c rest. return_k at ns (pair tip c) rest))
      by true w true x e f g' i = absurd (let k = kept-among (λ kind. kind % 2 == 0) (firsts language.heads (expr true)) (token_kind u) g' in let odd : (token_kind u % 2 == 0) ≡ false = even-kind (of_kind u.kind) u.broken ∙ ap (λ b. if b then false else true) e in let v = k.1 in cc (v, odd))
      by true w false x e f g' i = nothing-returned at (u ∷ ts) ns
      by false true true x e f g' i = absurd (let k = kept-among (λ kind. kind % 2 == 0) (firsts language.heads (expr true)) (token_kind u) g' in apart-tells semi (firsts language.heads (expr true)) (token_kind u) semi-parted f k.0)
      by false true false x e f g' i = nothing-returned at (u ∷ ts) ns
      by false false true x e f g' i =
          let k = kept-among (λ kind. kind % 2 == 0) (firsts language.heads (expr true)) (token_kind u) g' in
          value-returned at (u ∷ ts) ns ∙ on-true (Err (wrong (u ∷ ts))) k.1 refl
      by false false false true e f g' i =
          let even : (token_kind u % 2 == 0) ≡ true = even-kind (of_kind u.kind) u.broken ∙ ap (λ b. if b then false else true) e in
          absurd (let w = among-kept (λ kind. kind % 2 == 0) (firsts language.heads (expr true)) (token_kind u) i even in cc (w, g'))
      by false false false false e f g' i =
          assoc (g.expression (part_at depth) true (u ∷ ts, ns)) _ _
          ∙ none-first (g.expression (part_at depth) true (u ∷ ts, ns)) _ ((expression-sim depth h true).holds (u ∷ ts) ns ∙ expression-none u ts ns i)
          ∙ on-false _ f refl

  pub return-step : (t : Token) (ts : List Token) (ns : Nodes) → told (st.return_statement (part_at depth) (t ∷ ts, ns))
      ≡ guided language ahead (rule depth) (both (optional (unbroken (expr true))) (token semi)) ts (λ b rest. built (mk.return_statement (parts_at depth)) ns (pair (leaf t) b) rest)
  unfolding st.return_statement st.return_value mk.return_statement place next first_token is_broken guided
  return-step t [] ns = ap (λ w. told (returned t.place w ([], ns))) (sees-starts Symbols.only-semicolon [] ns) ∙ assoc (g.expression (part_at depth) true ([], ns)) _ _ ∙ none-first (g.expression (part_at depth) true ([], ns)) _ ((expression-sim depth h true).holds [] ns ∙ none-at_end depth (expr_rule true) (expr-takes depth h true) _)
  return-step t (u ∷ ts) ns = return-at t.place u ts ns

  -- ---- try

  abbrev pub one_x : Rule
  one_x = optional (call 25)

  abbrev pub finally_x : Rule
  finally_x = both (token (kinds (word (codes "finally") ∷ []))) (call 1)

  abbrev pub catch_behind : Rule
  catch_behind = both one_x (both (call 1) (optional finally_x))

  abbrev pub bound_by : Bool → Parser (Option NodeId)
  bound_by bracket = if bracket then Some <$> g.node_of (part_at depth) parts.CatchBind else pure None

  pub bound-step : {A : Type 0} (ts : List Token) (ns : Nodes) (f : Option NodeId → Parser A) (k : Goes Token (A × Input))
      → ((b : Tree Token) (rest : List Token) → (let w = mk.maybe ((parts_at depth).node_of parts.CatchBind) b ns in told (f w.0 (rest, w.1))) ≡ k b rest)
      → told (and_then (st.catch_parameter (part_at depth) (ts, ns)) f) ≡ guided language ahead (rule depth) one_x ts k
  unfolding st.catch_parameter guided firsts entry heads vacant first_token
  bound-step {A} ts ns f k o = ap (λ b. told (and_then (bound_by b (ts, ns)) f)) (sees-starts Symbols.only-open_paren ts ns) ∙ by (starts language (among (kinds (mark (codes "(") ∷ []))) ts)
    where
      by : (b : Bool) → told (and_then (bound_by b (ts, ns)) f) ≡ (if b then guided language ahead (rule depth) (call 25) ts k else k tip ts)
      by true = assoc (g.node_of (part_at depth) parts.CatchBind (ts, ns)) _ _ ∙ step+ h.catch_part ts ns _ _ (λ c rest e.
          let w = read-front language ahead depth each-takes (call 25) refl ts rest c e in
          ap (λ o. let w = (if is_none o then mk.pure None else (λ ns. mk.after ((parts_at depth).node_of parts.CatchBind c ns) (λ x. mk.pure (Some x)))) ns in told (f w.0 (rest, w.1))) (sym w.3) ∙ o c rest)
      by false = o tip ts

  abbrev pub finally_by : Bool → Bool → Parser (Option NodeId)
  finally_by required last = if last then Some <$> g.node_of (part_at depth) parts.Block else (if required then refuse else pure None)

  abbrev pub finally_built : Tree Token → Build (Option NodeId)
  finally_built = mk.maybe (λ t. (parts_at depth).node_of parts.Block (second t))

  pub finally-none : (ts : List Token) (ns : Nodes) → told (finally_by false false (ts, ns)) ≡ guided language ahead (rule depth) empty ts (built finally_built ns)
  unfolding guided first_token
  finally-none ts ns = refl

  pub finally-sim : Sim depth (st.finally_clause (part_at depth) false) (optional finally_x) finally_built
  unfolding st.finally_clause first_token
  finally-sim = record { holds = λ ts ns. eat-step depth Symbols.only-finally ts ns (finally_by false) (call 1) empty (built finally_built ns) (λ t rest. step h.block_part rest ns _ _ (λ a end. refl)) (finally-none ts ns) }

  abbrev pub try_k : ℕ → Nodes → Tree Token → Goes Token (NodeId × Input)
  try_k at ns b c rest = built (λ tree ns. mk.after ((parts_at depth).node_of parts.Block b ns) (λ block ns. mk.after (mk.caught_by (parts_at depth) (symbol_in tree) tree ns) (λ d. mk.added (made.Try block d.0 d.1 d.2) at))) ns c rest

  abbrev pub try_rest : ℕ → NodeId → (Option NodeId × Option NodeId) → Parser NodeId
  try_rest at block handler i = and_then (st.finally_clause (part_at depth) (is_none handler.1) i) (λ last. add (made.Try block handler.0 handler.1 last) at)

  abbrev pub try_by : ℕ → NodeId → Bool → Parser NodeId
  try_by at block caught i = and_then ((if caught then (st.catch_parameter (part_at depth) >>= λ bound. g.node_of (part_at depth) parts.Block >>= λ handler. pure (bound, Some handler)) else pure (None, None)) i) (try_rest at block)

  pub caught-step : (at : ℕ) (ns : Nodes) (b : Tree Token) (u : Token) (rest : List Token) → of_kind u.kind ≡ s.Catch
      → told (let w = (parts_at depth).node_of parts.Block b ns in try_by at w.0 true (rest, w.1)) ≡ guided language ahead (rule depth) catch_behind rest (λ c end. try_k at ns b (pair (leaf u) c) end)
  unfolding guided first_token add
  caught-step at ns b u rest e =
      assoc (st.catch_parameter (part_at depth) (rest, _)) _ _ ∙ bound-step rest _ _ _ (λ c m. assoc (g.node_of (part_at depth) parts.Block (m, _)) _ _ ∙ step h.block_part m _ _ _ (λ d n.
      step finally-sim n _ _ _ (λ f end.
      ap (λ q. let w = mk.after ((parts_at depth).node_of parts.Block b ns) (λ block ns. mk.after (mk.caught_by (parts_at depth) q (pair (leaf u) (pair c (pair d f))) ns) (λ d. mk.added (made.Try block d.0 d.1 d.2) at)) in Ok (w.0, (end, w.1))) (sym e))))

  pub finally-step : (at : ℕ) (ns : Nodes) (b : Tree Token) (m : List Token)
      → told (let w = (parts_at depth).node_of parts.Block b ns in try_by at w.0 false (m, w.1)) ≡ guided language ahead (rule depth) finally_x m (try_k at ns b)
  unfolding st.finally_clause first_token add refusals
  finally-step at ns b m =
      eat-need+ depth Symbols.only-finally m _ (λ last i. and_then (finally_by true last i) (λ last. add (made.Try ((parts_at depth).node_of parts.Block b ns).0 None None last) at)) (call 1) (try_k at ns b)
      (λ u rest w. assoc (g.node_of (part_at depth) parts.Block (rest, _)) _ _ ∙ step h.block_part rest _ _ _ (λ a end.
      ap (λ q. let w = mk.after ((parts_at depth).node_of parts.Block b ns) (λ block ns. mk.after (mk.caught_by (parts_at depth) q (pair (leaf u) a) ns) (λ d. mk.added (made.Try block d.0 d.1 d.2) at)) in Ok (w.0, (end, w.1))) (sym (Symbols.is-finally (of_kind u.kind) w)))) refl

  pub try-step : (t : Token) (ts : List Token) (ns : Nodes) → told (st.try_statement (part_at depth) (t ∷ ts, ns))
      ≡ guided language ahead (rule depth) (both (call 1) (either (both (token (kinds (word (codes "catch") ∷ []))) catch_behind) finally_x)) ts (λ b rest. built (mk.try_statement (parts_at depth)) ns (pair (leaf t) b) rest)
  unfolding st.try_statement st.catch_clause mk.try_statement place next first_token guided
  try-step t ts ns = step h.block_part ts ns _ _ (λ b m.
      eat-step+ depth Symbols.only-catch m _ (try_by t.place _) catch_behind finally_x (try_k t.place ns b) (λ u rest w. caught-step t.place ns b u rest (Symbols.is-catch (of_kind u.kind) w)) (finally-step t.place ns b m))

  -- ---- Stmt

  abbrev pub statement_by : Symbol → Parser NodeId
  statement_by s.OpenBrace = g.node_of (part_at depth) parts.Block
  statement_by s.Semicolon = leaf_of made.Empty
  statement_by s.If = st.if_statement (part_at depth)
  statement_by s.While = st.while_statement (part_at depth)
  statement_by s.Do = st.do_statement (part_at depth)
  statement_by s.For = st.for_statement (part_at depth)
  statement_by s.Return = st.return_statement (part_at depth)
  statement_by s.Break = st.jump made.Break
  statement_by s.Continue = st.jump made.Continue
  statement_by s.Throw = st.throw_statement (part_at depth)
  statement_by s.Try = st.try_statement (part_at depth)
  statement_by s.Function = refuse
  statement_by _ = st.expression_statement (part_at depth)

  pub statement-at : (t : Token) (ts : List Token) (ns : Nodes) (symbol : Symbol) (broken : Bool) → of_kind t.kind ≡ symbol → t.broken ≡ broken
      → told (statement_by symbol (t ∷ ts, ns)) ≡ at_kind depth (numbered symbol broken) stmt_rule (t ∷ ts) (built (mk.statement_by (parts_at depth) symbol t.place) ns)
  unfolding at_kind tables stmt_rule leaf_of next place add first_token guided
  statement-at t ts ns s.OpenBrace false e f = h.block_part.holds (t ∷ ts) ns
  statement-at t ts ns s.OpenBrace true e f = h.block_part.holds (t ∷ ts) ns
  statement-at t ts ns s.If false e f = if-step t ts ns
  statement-at t ts ns s.If true e f = if-step t ts ns
  statement-at t ts ns s.While false e f = while-step t ts ns
  statement-at t ts ns s.While true e f = while-step t ts ns
  statement-at t ts ns s.Do false e f = do-step t ts ns
  statement-at t ts ns s.Do true e f = do-step t ts ns
  statement-at t ts ns s.For false e f = for-step t ts ns
  statement-at t ts ns s.For true e f = for-step t ts ns
  statement-at t ts ns s.Return false e f = return-step t ts ns
  statement-at t ts ns s.Return true e f = return-step t ts ns
  statement-at t ts ns s.Break false e f = jump-step made.Break t ts ns
  statement-at t ts ns s.Break true e f = jump-step made.Break t ts ns
  statement-at t ts ns s.Continue false e f = jump-step made.Continue t ts ns
  statement-at t ts ns s.Continue true e f = jump-step made.Continue t ts ns
  statement-at t ts ns s.Throw false e f = throw-step t ts ns
  statement-at t ts ns s.Throw true e f = throw-step t ts ns
  statement-at t ts ns s.Try false e f = try-step t ts ns
  statement-at t ts ns s.Try true e f = try-step t ts ns
  statement-at t ts ns s.Semicolon false e f = refl
  statement-at t ts ns s.Semicolon true e f = refl
  statement-at t ts ns s.Function false e f = refl
  statement-at t ts ns s.Function true e f = refl
  statement-at t ts ns _ false e f = expression-step (t ∷ ts) ns
  statement-at t ts ns _ true e f = expression-step (t ∷ ts) ns

  pub stmt-takes : vacant stmt_rule ≡ false
  unfolding vacant stmt_rule
  stmt-takes = ap (λ b. if b then false else false) (expr-takes depth h true)

  pub statement-end : (ns : Nodes) → told (st.expression_statement (part_at depth) ([], ns)) ≡ Err (wrong [])
  unfolding st.expression_statement
  statement-end ns = none-first (g.expression (part_at depth) true ([], ns)) _ ((expression-sim depth h true).holds [] ns ∙ none-at_end depth (expr_rule true) (expr-takes depth h true) _)

  pub statement-sim : Sim depth (st.statement (part_at depth)) stmt_rule (mk.statement (parts_at depth))
  unfolding st.statement mk.statement
  statement-sim = sim-by-at depth statement_by (λ at symbol. mk.statement_by (parts_at depth) symbol at) stmt_rule stmt-takes statement-end statement-at

  -- ---- Item

  abbrev pub item_by : Symbol → Parser NodeId
  item_by s.Let = st.declaration_statement (part_at depth) false
  item_by s.Const = st.declaration_statement (part_at depth) true
  item_by s.Function = g.node_of (part_at depth) parts.FunctionDeclaration
  item_by _ = st.statement (part_at depth)

  pub item-at : (t : Token) (ts : List Token) (ns : Nodes) (symbol : Symbol) (broken : Bool) → of_kind t.kind ≡ symbol → t.broken ≡ broken
      → told (item_by symbol (t ∷ ts, ns)) ≡ at_kind depth (numbered symbol broken) item_rule (t ∷ ts) (built (mk.item_by (parts_at depth) symbol t.place) ns)
  unfolding at_kind tables item_rule
  item-at t ts ns s.Let false e f = declaration-step false t ts ns
  item-at t ts ns s.Let true e f = declaration-step false t ts ns
  item-at t ts ns s.Const false e f = declaration-step true t ts ns
  item-at t ts ns s.Const true e f = declaration-step true t ts ns
  item-at t ts ns s.Function false e f = h.declaration_part.holds (t ∷ ts) ns
  item-at t ts ns s.Function true e f = h.declaration_part.holds (t ∷ ts) ns
  item-at t ts ns _ false e f = statement-sim.holds (t ∷ ts) ns
  item-at t ts ns _ true e f = statement-sim.holds (t ∷ ts) ns

  pub item-takes : vacant item_rule ≡ false
  unfolding vacant item_rule
  item-takes = stmt-takes

  pub item-sim : Sim depth (st.item (part_at depth)) item_rule (mk.item (parts_at depth))
  unfolding st.item mk.item
  item-sim = sim-by-at depth item_by (λ at symbol. mk.item_by (parts_at depth) symbol at) item_rule item-takes (λ ns. statement-sim.holds [] ns ∙ none-at_end depth stmt_rule stmt-takes _) item-at

  -- ---- blocks and scripts

  pub item-placed : InPlace language.rules item
  unfolding InPlace rules entry
  item-placed = refl

  pub item-line : Sim depth (st.item (part_at depth)) item (mk.item (parts_at depth))
  unfolding guided
  item-line = record { holds = item-sim.holds }

  pub line-takes : vacant item ≡ false
  unfolding vacant
  line-takes = item-takes

  pub items-parted : (apart (kinds (mark (codes "}") ∷ [])) (firsts language.heads item) ≡ true) × (apart (kinds (end ∷ [])) (firsts language.heads item) ≡ true)
  unfolding tables apart
  items-parted = (refl, refl)

  pub item-full : nullable item ≡ false
  unfolding nullable
  item-full = refl

  abbrev pub block_f : ℕ → List NodeId → Parser NodeId
  block_f at found = take_token >> add (made.Block found) at

  abbrev pub block_fin : ℕ → List NodeId → Nodes → Goes Token (NodeId × Input)
  block_fin at found ns c rest = let w = mk.added (made.Block found) at ns in Ok (w.0, (rest, w.1))

  abbrev pub items_by : {B : Type 0} → ℕ → List NodeId → (List NodeId → Parser B) → Symbol → Bool → Parser B
  items_by n found f close ended = if ended then f found else (λ i. and_then (st.item (part_at depth) i) (λ x i. and_then (st.items_from (part_at depth) close n (found ++ x ∷ []) i) f))

  pub more-items : {B : Type 0} (n : ℕ) (found : List NodeId) (f : List NodeId → Parser B) (close : Symbol) (ts : List Token) (ns : Nodes)
      → told (and_then (st.items_from (part_at depth) close (suc n) found (ts, ns)) f) ≡ told (items_by n found f close (sees close (ts, ns)) (ts, ns))
  unfolding st.items_from
  more-items n found f close ts ns = by (sees close (ts, ns))
    where
      by : (b : Bool) → told (and_then ((if b then pure found else (st.item (part_at depth) >>= λ x. st.items_from (part_at depth) close n (found ++ x ∷ []))) (ts, ns)) f)
          ≡ told (items_by n found f close b (ts, ns))
      by true = refl
      by false = assoc (st.item (part_at depth) (ts, ns)) _ f

  pub block-sim : Sim depth (st.block (part_at depth)) block_rule (mk.block (parts_at depth))
  unfolding st.block st.items st.items_from block_rule mk.block guided place vacant next add refusals
  block-sim = sim-at depth (st.block (part_at depth)) (λ at tree ns. mk.after (mk.all_behind (mk.item (parts_at depth)) [] (first (second tree)) ns) (λ items. mk.added (made.Block items) at)) block_rule refl
      (λ ts ns. step-expect Symbols.only-open_brace ts ns _ _ (λ t m.
      items-loop depth item-line line-takes item-placed item-full Symbols.only-close_brace items-parted.0 (st.items_from (part_at depth) s.CloseBrace) (λ found us ns. refl)
      (block_f (place_at ts)) (λ n found us ns. more-items n found (block_f (place_at ts)) s.CloseBrace us ns) (block_fin (place_at ts)) (λ found ns t us. refl) (length m) m ns [] (omega arith)))
