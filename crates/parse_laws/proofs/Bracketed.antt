-- What stands in brackets.
use Rattle.std.proofs.Common.{true, false, Bool, ◌≡◌, ℕ, List, [], ◌∷◌, refl, ap, sym, ◌∙◌, codes}
use Rattle.std.specs.Prelude.{Option, Some, None, is_none, if◌then◌else◌, Ok, Err}
use Rattle.grammar.specs.Kinds.{among, apart}
use Rattle.grammar.specs.Reading.{firsts, nullable}
use Rattle.grammar.specs.Tests.{InPlace}
use Rattle.grammar.specs.Grammar.{Tree, tip, both, either, call, prefer, line, starts, entry}
use Rattle.js_token.specs.declared.token.Token.{Token}
use Rattle.js_tree.specs.Nodes.{Nodes}
use Rattle.js_tree.specs.declared.node.NodeId.{NodeId}
use Rattle.js_tree.specs.declared.node.Node.{Node}
use Rattle.js_tree.specs.declared.node.Node.TheVariants as made
use Rattle.js_grammar.specs.Kinds.{kinds, mark}
use Rattle.js_grammar.specs.Script.{Rule, rules, element, assign_rule, group_rule, index_rule, computed_rule, array_rule, arguments_rule, arrow_rule, prefixed_rule, new_rule, member_rule, but_not, assign}
use Rattle.js_parse.specs.declared.symbol.Symbol.{Symbol}
use Rattle.js_parse.specs.declared.symbol.Symbol.TheVariants as s
use Rattle.js_parse.specs.declared.part.Part.TheVariants as parts
use Rattle.js_parse.specs.Symbols.{of_kind, same}
use Rattle.js_parse.specs.Operators.{prefix_node, is_prefix}
use Rattle.js_parse.specs.Input.{refuse, Parser, Input, and_then, symbol, place, place_at, next, add, pure, sees, after, peek, ◌>>=◌}
use Rattle.js_parse.specs.Grammar as g
use Rattle.js_parse.specs.Nesting.{part_at}
use Rattle.parse_laws.specs.Kinds.{numbered}
use Rattle.parse_laws.specs.Trees as mk
use Rattle.parse_laws.specs.Trees.{Parts, parts_at, place_in, symbol_in, first_token, first, second, under, Build}
use Rattle.parse_laws.proofs.Guided.{guided, Goes, wrong}
use Rattle.parse_laws.proofs.Sound.{vacant, read-front}
use Rattle.parse_laws.proofs.Walk.{language, ahead, rule, told, built, Sim, step, step+, step-expect, each-takes, at_kind, at-first, none-at_end}
use Rattle.parse_laws.proofs.Begun.{sim-by, dispatch, tables}
use Rattle.parse_laws.proofs.Steps.{step-same, sim-by-at, sim-at, step-arrow, sees-starts, assoc}
use Rattle.parse_laws.proofs.Symbols.{only-open_paren, only-close_paren, only-open_bracket, only-close_bracket, only-new}
use Rattle.parse_laws.proofs.Loops.{listed-sim}
use Rattle.parse_laws.proofs.Parted.{Parted}
use Rattle.parse_laws.proofs.Expressions
use Rattle.parse_laws.proofs.Arrows.{assign-sim, assign-takes, expression-sim}

module _ (depth : ℕ) (h : Parted depth) where
  pub group-sim : Sim depth (g.group (part_at depth)) group_rule (mk.group (parts_at depth))
  unfolding g.group group_rule mk.group guided
  group-sim = record { holds = λ ts ns. step-expect only-open_paren ts ns _ _ (λ t m. step (expression-sim depth h true) m _ _ _ (λ a n. step-expect only-close_paren n _ _ _ (λ u rest. refl))) }

  pub index-sim : Sim depth (g.index (part_at depth)) index_rule (mk.group (parts_at depth))
  unfolding g.index index_rule mk.group guided
  index-sim = record { holds = λ ts ns. step-expect only-open_bracket ts ns _ _ (λ t m. step (expression-sim depth h true) m _ _ _ (λ a n. step-expect only-close_bracket n _ _ _ (λ u rest. refl))) }

  pub computed-sim : Sim depth (g.computed_key (part_at depth)) computed_rule (mk.computed_key (parts_at depth))
  unfolding g.computed_key computed_rule mk.computed_key guided
  computed-sim = record { holds = λ ts ns. step-expect only-open_bracket ts ns _ _ (λ t m. step (assign-sim depth h true) m _ _ _ (λ a n. step-expect only-close_bracket n _ _ _ (λ u rest. refl))) }

  -- ---- elements

  abbrev pub element_by : Symbol → Parser NodeId
  element_by symbol i = (if same symbol s.Ellipsis then (g.assign (part_at depth) true >>= λ list. add (made.Spread list) (place i)) else g.assign (part_at depth) true)
      (if same symbol s.Ellipsis then next i else i)

  pub element-at : (t : Token) (ts : List Token) (ns : Nodes) (symbol : Symbol) (broken : Bool) → of_kind t.kind ≡ symbol → t.broken ≡ broken
      → told (element_by symbol (t ∷ ts, ns)) ≡ at_kind depth (numbered symbol broken) element (t ∷ ts) (built (mk.element_by (parts_at depth) symbol t.place) ns)
  unfolding at_kind tables same place next add guided
  element-at t ts ns s.Ellipsis false e f = step (assign-sim depth h true) ts ns _ _ (λ a rest. refl)
  element-at t ts ns s.Ellipsis true e f = step (assign-sim depth h true) ts ns _ _ (λ a rest. refl)
  element-at t ts ns _ false e f = (assign-sim depth h true).holds (t ∷ ts) ns
  element-at t ts ns _ true e f = (assign-sim depth h true).holds (t ∷ ts) ns

  pub element-takes : vacant element ≡ false
  unfolding vacant
  element-takes = assign-takes depth h true

  pub element-end : (ns : Nodes) → told (element_by s.End ([], ns)) ≡ Err (wrong [])
  unfolding same
  element-end ns = (assign-sim depth h true).holds [] ns ∙ none-at_end depth (assign_rule true) (assign-takes depth h true) _

  pub element-sim : Sim depth (g.element (part_at depth)) element (mk.element (parts_at depth))
  unfolding g.element mk.element sees symbol after
  element-sim = sim-by-at depth element_by (λ at symbol. mk.element_by (parts_at depth) symbol at) element element-takes element-end element-at

  pub element-placed : InPlace language.rules element
  unfolding InPlace rules entry
  element-placed = ((tt, refl), refl)

  pub element-full : nullable element ≡ false
  unfolding nullable
  element-full = refl

  pub elements-parted : (apart (kinds (mark (codes ")") ∷ [])) (firsts language.heads element) ≡ true) × (apart (kinds (mark (codes "]") ∷ [])) (firsts language.heads element) ≡ true)
  unfolding tables apart
  elements-parted = (refl, refl)

  pub arguments-sim : Sim depth (g.arguments (part_at depth)) arguments_rule (mk.arguments (parts_at depth))
  unfolding g.arguments g.elements arguments_rule mk.arguments guided
  arguments-sim = record {
    holds = λ ts ns. step-expect only-open_paren ts ns _ _ (λ t m.
        step-same (listed-sim depth element-sim element-takes element-placed element-full only-close_paren elements-parted.0) m _ _ (λ a rest. refl));
  }

  pub array-sim : Sim depth (g.array (part_at depth)) array_rule (mk.array (parts_at depth))
  unfolding g.array g.elements array_rule mk.array guided place add vacant
  array-sim = sim-at depth (g.array (part_at depth)) (λ at tree ns. mk.after (mk.listed (mk.element (parts_at depth)) (first (second tree)) ns) (λ items. mk.added (made.ArrayLit items) at)) array_rule refl
      (λ ts ns. step-expect only-open_bracket ts ns _ _ (λ t m.
      step (listed-sim depth element-sim element-takes element-placed element-full only-close_bracket elements-parted.1) m _ _ _ (λ a rest. refl)))

  -- ---- `new`

  abbrev pub new_args : Bool → Parser (List NodeId)
  new_args true = g.nodes_of (part_at depth) parts.Arguments
  new_args false = pure []

  pub args-step : {A : Type 0} (ts : List Token) (ns : Nodes) (f : List NodeId → Parser A) (k : Goes Token (A × Input))
      → ((c : Tree Token) (rest : List Token) → mk.absent c ≡ false → (let w = (parts_at depth).arguments_of c ns in told (f w.0 (rest, w.1))) ≡ k c rest) → told (f [] (ts, ns)) ≡ k tip ts
      → told (and_then (g.new_arguments (part_at depth) (ts, ns)) f) ≡ guided language ahead (rule depth) (prefer (kinds (mark (codes "(") ∷ [])) (call 10)) ts k
  unfolding g.new_arguments guided vacant
  args-step {A} ts ns f k h' o = ap (λ b. told (and_then (new_args b (ts, ns)) f)) (sees-starts only-open_paren ts ns) ∙ by (starts language (among (kinds (mark (codes "(") ∷ []))) ts)
    where
      by : (b : Bool) → told (and_then (new_args b (ts, ns)) f) ≡ (if b then guided language ahead (rule depth) (call 10) ts k else k tip ts)
      by true = step+ h.arguments_part ts ns _ _ (λ c rest e. h' c rest (let w = read-front language ahead depth each-takes (call 10) refl ts rest c e in ap (λ o. is_none o) w.3))
      by false = o

  abbrev pub new_built : ℕ → Tree Token → Build NodeId
  new_built at tree ns = mk.after (mk.sided (parts_at depth) (second (first tree)) ns) (λ callee ns. mk.after (mk.new_arguments (parts_at depth) (second tree) ns) (λ arguments. mk.added (made.New callee arguments) at))

  pub new-sim : Sim depth (g.new_call (part_at depth)) (both (line 13 new_rule) (prefer (kinds (mark (codes "(") ∷ [])) (call 10))) (mk.new_call (parts_at depth))
  unfolding g.new_call new_rule member_rule mk.new_call guided place add vacant first_token
  new-sim = sim-at depth (g.new_call (part_at depth)) new_built (both (line 13 new_rule) (prefer (kinds (mark (codes "(") ∷ [])) (call 10))) refl
      (λ ts ns. step-expect only-new ts ns _ _ (λ t m.
      sym (assoc (g.primary (part_at depth) (m, ns)) (g.suffixes (part_at depth) false (place_at m)) _)
      ∙ step (Expressions.sided-sim depth h false) m ns _ _ (λ a n. args-step n _ _ _
      (λ c rest z. ap (λ b. let w = mk.after ((if b then mk.pure [] else (parts_at depth).arguments_of c) (mk.sided (parts_at depth) a ns).1) (λ arguments. mk.added (made.New (mk.sided (parts_at depth) a ns).0 arguments) (place_at ts)) in Ok (w.0, (rest, w.1))) (sym z))
      refl)))

  -- ---- an operator before an operand

  abbrev pub operation_if : ℕ → Option Node → Parser NodeId
  operation_if at None = refuse
  operation_if at (Some operation) = add operation at

  abbrev pub prefix_by : Symbol → Parser NodeId
  prefix_by symbol i = and_then (g.unary (part_at depth) (next i)) (λ operand. operation_if (place i) (prefix_node symbol operand.0))

  abbrev pub prefix_built : ℕ → Symbol → Tree Token → Build NodeId
  prefix_built at symbol tree ns = mk.after (mk.unary (parts_at depth) (second tree) ns) (λ operand. mk.added_if operand (prefix_node symbol operand) at)

  pub prefix-at : (t : Token) (ts : List Token) (ns : Nodes) (symbol : Symbol) (broken : Bool) → is_prefix symbol ≡ true → of_kind t.kind ≡ symbol → t.broken ≡ broken
      → told (prefix_by symbol (t ∷ ts, ns)) ≡ at_kind depth (numbered symbol broken) prefixed_rule (t ∷ ts) (built (prefix_built t.place symbol) ns)
  unfolding at_kind tables prefixed_rule next place add guided mk.unary
  prefix-at t ts ns s.Not false p e f = step (Expressions.unary-sim depth h) ts ns _ _ (λ a rest. refl)
  prefix-at t ts ns s.Not true p e f = step (Expressions.unary-sim depth h) ts ns _ _ (λ a rest. refl)
  prefix-at t ts ns s.BitNot false p e f = step (Expressions.unary-sim depth h) ts ns _ _ (λ a rest. refl)
  prefix-at t ts ns s.BitNot true p e f = step (Expressions.unary-sim depth h) ts ns _ _ (λ a rest. refl)
  prefix-at t ts ns s.Plus false p e f = step (Expressions.unary-sim depth h) ts ns _ _ (λ a rest. refl)
  prefix-at t ts ns s.Plus true p e f = step (Expressions.unary-sim depth h) ts ns _ _ (λ a rest. refl)
  prefix-at t ts ns s.Minus false p e f = step (Expressions.unary-sim depth h) ts ns _ _ (λ a rest. refl)
  prefix-at t ts ns s.Minus true p e f = step (Expressions.unary-sim depth h) ts ns _ _ (λ a rest. refl)
  prefix-at t ts ns s.Typeof false p e f = step (Expressions.unary-sim depth h) ts ns _ _ (λ a rest. refl)
  prefix-at t ts ns s.Typeof true p e f = step (Expressions.unary-sim depth h) ts ns _ _ (λ a rest. refl)
  prefix-at t ts ns s.Void false p e f = step (Expressions.unary-sim depth h) ts ns _ _ (λ a rest. refl)
  prefix-at t ts ns s.Void true p e f = step (Expressions.unary-sim depth h) ts ns _ _ (λ a rest. refl)
  prefix-at t ts ns s.Delete false p e f = step (Expressions.unary-sim depth h) ts ns _ _ (λ a rest. refl)
  prefix-at t ts ns s.Delete true p e f = step (Expressions.unary-sim depth h) ts ns _ _ (λ a rest. refl)
  prefix-at t ts ns s.Increment false p e f = step (Expressions.unary-sim depth h) ts ns _ _ (λ a rest. refl)
  prefix-at t ts ns s.Increment true p e f = step (Expressions.unary-sim depth h) ts ns _ _ (λ a rest. refl)
  prefix-at t ts ns s.Decrement false p e f = step (Expressions.unary-sim depth h) ts ns _ _ (λ a rest. refl)
  prefix-at t ts ns s.Decrement true p e f = step (Expressions.unary-sim depth h) ts ns _ _ (λ a rest. refl)
  prefix-at t ts ns _ _ p e f = absurd (cc (p))

  pub prefix-so : (t : Token) (ts : List Token) (ns : Nodes) → is_prefix (of_kind t.kind) ≡ true
      → told (g.prefix (part_at depth) (t ∷ ts, ns)) ≡ guided language ahead (rule depth) prefixed_rule (t ∷ ts) (built (mk.prefix (parts_at depth)) ns)
  unfolding g.prefix mk.prefix prefixed_rule vacant symbol place
  prefix-so t ts ns p =
      dispatch depth prefix_by (prefix_built t.place) prefixed_rule refl t ts ns (λ symbol broken e f. prefix-at t ts ns symbol broken (ap (λ s. is_prefix s) (sym e) ∙ p) e f)
      ∙ at-first depth (λ at tree. prefix_built at (symbol_in tree) tree) prefixed_rule refl (t ∷ ts) ns

  -- ---- the body of an arrow

  abbrev pub body_by : Bool → Symbol → Parser NodeId
  body_by allow_in symbol i = (if same symbol s.OpenBrace then g.node_of (part_at depth) parts.Block else g.assign (part_at depth) allow_in) i

  abbrev pub body_x : Bool → Rule
  body_x allow_in = either (call 1) (but_not (mark (codes "{") ∷ []) (assign allow_in))

  pub body-at : (allow_in : Bool) (t : Token) (ts : List Token) (ns : Nodes) (symbol : Symbol) (broken : Bool) → of_kind t.kind ≡ symbol → t.broken ≡ broken
      → told (body_by allow_in symbol (t ∷ ts, ns)) ≡ at_kind depth (numbered symbol broken) (body_x allow_in) (t ∷ ts) (built (mk.arrow_body_by (parts_at depth) symbol) ns)
  unfolding at_kind tables same
  body-at allow_in t ts ns s.OpenBrace false e f = h.block_part.holds (t ∷ ts) ns
  body-at allow_in t ts ns s.OpenBrace true e f = h.block_part.holds (t ∷ ts) ns
  body-at allow_in t ts ns _ false e f = (assign-sim depth h allow_in).holds (t ∷ ts) ns
  body-at allow_in t ts ns _ true e f = (assign-sim depth h allow_in).holds (t ∷ ts) ns

  pub body-takes : (allow_in : Bool) → vacant (body_x allow_in) ≡ false
  unfolding vacant
  body-takes allow_in = assign-takes depth h allow_in

  pub body-end : (allow_in : Bool) (ns : Nodes) → told (body_by allow_in s.End ([], ns)) ≡ Err (wrong [])
  unfolding same
  body-end allow_in ns = (assign-sim depth h allow_in).holds [] ns ∙ none-at_end depth (assign_rule allow_in) (assign-takes depth h allow_in) _

  pub body-sim : (allow_in : Bool) → Sim depth (peek >>= body_by allow_in) (body_x allow_in) (λ tree. mk.arrow_body_by (parts_at depth) (symbol_in tree) tree)
  body-sim allow_in = sim-by depth (body_by allow_in) (mk.arrow_body_by (parts_at depth)) (body_x allow_in) (body-takes allow_in) (body-end allow_in) (body-at allow_in)

  pub arrow_body-sim : (allow_in : Bool) → Sim depth (g.arrow_body (part_at depth) allow_in) (arrow_rule allow_in) (mk.arrow_body (parts_at depth))
  unfolding g.arrow_body arrow_rule mk.arrow_body guided sees
  arrow_body-sim allow_in = record { holds = λ ts ns. step-arrow ts ns _ _ (λ t m. step-same (body-sim allow_in) m ns _ (λ a rest. refl)) }
