-- Patterns, parameters and functions.
use Rattle.std.proofs.Common.{true, false, Bool, ◌≡◌, ℕ, List, [], ◌∷◌, refl, ap, ◌∙◌, codes}
use Rattle.std.specs.Prelude.{Option, Some, None, if◌then◌else◌, Err}
use Rattle.grammar.specs.Kinds.{apart}
use Rattle.grammar.specs.Reading.{firsts, nullable}
use Rattle.grammar.specs.Tests.{InPlace}
use Rattle.grammar.specs.Grammar.{tip, leaf, pair, both, call, empty, token, entry}
use Rattle.js_token.specs.declared.token.Token.{Token}
use Rattle.js_tree.specs.Nodes.{Nodes}
use Rattle.js_tree.specs.declared.node.NodeId.{NodeId}
use Rattle.js_tree.specs.declared.node.Node.TheVariants as made
use Rattle.js_tree.specs.declared.node.BindProperty.{BindProperty}
use Rattle.js_grammar.specs.Kinds.{kinds, mark, text}
use Rattle.js_grammar.specs.Script.{Rule, rules, optional, listed, bind, default, identifier, parameter, pattern_member, pattern_rule, no_parameters_rule, one_parameter_rule, function_rule, declared_rule}
use Rattle.js_parse.specs.declared.symbol.Symbol.{Symbol}
use Rattle.js_parse.specs.declared.symbol.Symbol.TheVariants as s
use Rattle.js_parse.specs.declared.part.Part.{Part}
use Rattle.js_parse.specs.declared.part.Part.TheVariants as parts
use Rattle.js_parse.specs.Symbols.{of_kind, is_name, is_any_name}
use Rattle.js_parse.specs.Input.{Parser, Input, and_then, symbol, text as text_next, any_name as any_name_next, text_of, place, next, add, pure, refuse}
use Rattle.js_parse.specs.Grammar as g
use Rattle.js_parse.specs.Statements as st
use Rattle.js_parse.specs.Nesting.{part_at}
use Rattle.parse_laws.specs.Kinds.{numbered, token_kind}
use Rattle.parse_laws.specs.Trees as mk
use Rattle.parse_laws.specs.Trees.{Parts, parts_at, place_in, symbol_in, first_token, first, second, under, Build}
use Rattle.parse_laws.proofs.Guided.{guided, Goes, wrong}
use Rattle.parse_laws.proofs.Sound.{vacant}
use Rattle.parse_laws.proofs.Walk.{language, ahead, rule, told, built, Sim, step, step-expect, eat-step, at_kind, if-alike}
use Rattle.parse_laws.proofs.Begun.{refusals, sim-by, tables}
use Rattle.parse_laws.proofs.Steps.{step-same, eat-need, sim-at, any_name-at, step-name, name-agrees}
use Rattle.parse_laws.proofs.Symbols.{only-open_paren, only-close_paren, only-close_brace, only-close_bracket, only-colon, only-function}
use Rattle.parse_laws.proofs.Loops.{listed-sim}
use Rattle.parse_laws.proofs.Parted.{Parted}
use Rattle.parse_laws.proofs.Bindings.{bind-sim, default-sim, element-sim}

module _ (depth : ℕ) (h : Parted depth) where
  -- behind a key, which may stand alone where it is a name
  abbrev pub target : Bool → List ℕ → ℕ → Bool → Parser NodeId
  target named_ text at given = if given then g.bind (part_at depth) else (if named_ then add (made.BindName text) at else refuse)

  abbrev pub under_x : Bool → Rule
  under_x named_ = if named_ then optional (both (token (kinds (mark (codes ":") ∷ []))) bind) else both (token (kinds (mark (codes ":") ∷ []))) bind

  pub bind_under-sim : (named_ : Bool) (text : List ℕ) (at : ℕ) → Sim depth (g.bind_under (part_at depth) named_ text at) (under_x named_) (mk.bind_under (parts_at depth) text at)
  unfolding g.bind_under mk.bind_under guided first_token add refusals
  bind_under-sim true text at = record { holds = λ ts ns. eat-step depth only-colon ts ns (target true text at) bind empty (built (mk.bind_under (parts_at depth) text at) ns) (λ t rest. step-same (bind-sim depth h) rest ns _ (λ a end. refl)) refl }
  bind_under-sim false text at = record { holds = λ ts ns. eat-need depth only-colon ts ns (target false text at) bind (built (mk.bind_under (parts_at depth) text at) ns) (λ t rest. step-same (bind-sim depth h) rest ns (λ b end. built (mk.bind_under (parts_at depth) text at) ns (pair (leaf t) b) end) (λ a end. refl)) refl }

  -- a property
  abbrev pub property_by : Symbol → Parser BindProperty
  property_by symbol i = and_then (g.pattern_key symbol i) (λ text i'. and_then (g.bind_under (part_at depth) (is_name symbol) text (place i) i') (λ target i''. and_then (g.default_value (part_at depth) i'')
      (λ value. pure (record { key = text; bind = target; default = value }))))

  abbrev pub property_behind : Bool → List ℕ → ℕ → Parser BindProperty
  property_behind named_ text at i = and_then (g.bind_under (part_at depth) named_ text at i) (λ target i''. and_then (g.default_value (part_at depth) i'')
      (λ value. pure (record { key = text; bind = target; default = value })))

  pub property-behind : (named_ : Bool) (t : Token) (ts : List Token) (ns : Nodes) → told (property_behind named_ (text_of t.kind) t.place (ts, ns))
      ≡ guided language ahead (rule depth) (under_x named_) ts (λ b mid. guided language ahead (rule depth) default mid (λ d rest. built (mk.bind_property (parts_at depth)) ns (pair (pair (leaf t) b) d) rest))
  unfolding mk.bind_property first_token
  property-behind named_ t ts ns = step (bind_under-sim named_ (text_of t.kind) t.place) ts ns _ _ (λ b mid. step (default-sim depth h) mid _ _ _ (λ d rest. refl))

  pub property-at : (t : Token) (ts : List Token) (ns : Nodes) (symbol : Symbol) (broken : Bool) → of_kind t.kind ≡ symbol → t.broken ≡ broken
      → told (property_by symbol (t ∷ ts, ns)) ≡ at_kind depth (numbered symbol broken) pattern_member (t ∷ ts) (built (mk.bind_property (parts_at depth)) ns)
  unfolding at_kind tables place text_next next guided
  property-at t ts ns s.Text false e f = property-behind false t ts ns
  property-at t ts ns s.Text true e f = property-behind false t ts ns
  property-at t ts ns x false e f = any_name-at x t ts ns _ e ∙ if-alike (is_any_name x) _ (Err (wrong (t ∷ ts))) _ (Err (wrong (t ∷ ts))) (property-behind (is_name x) t ts ns) refl
  property-at t ts ns x true e f = any_name-at x t ts ns _ e ∙ if-alike (is_any_name x) _ (Err (wrong (t ∷ ts))) _ (Err (wrong (t ∷ ts))) (property-behind (is_name x) t ts ns) refl

  pub property-takes : vacant pattern_member ≡ false
  unfolding vacant
  property-takes = refl

  pub property-sim : Sim depth (g.bind_property (part_at depth)) pattern_member (mk.bind_property (parts_at depth))
  unfolding g.bind_property place symbol any_name_next refusals
  property-sim = sim-by depth property_by (λ symbol. mk.bind_property (parts_at depth)) pattern_member property-takes (λ ns. refl) property-at

  -- ---- patterns

  pub property-placed : InPlace language.rules pattern_member
  unfolding InPlace rules entry
  property-placed = (((tt, ((tt, (tt, tt)), tt)), (tt, (tt, (tt, tt)))), ((tt, tt), tt))

  pub element-placed : InPlace language.rules parameter
  unfolding InPlace rules entry
  element-placed = ((tt, tt), ((tt, tt), tt))

  pub pattern-full : (nullable pattern_member ≡ false) × (nullable parameter ≡ false)
  unfolding nullable
  pattern-full = (refl, refl)

  pub parameter-takes : vacant parameter ≡ false
  unfolding vacant
  parameter-takes = refl

  pub patterns-parted : (apart (kinds (mark (codes "}") ∷ [])) (firsts language.heads pattern_member) ≡ true) × (apart (kinds (mark (codes "]") ∷ [])) (firsts language.heads parameter) ≡ true)
  unfolding tables apart
  patterns-parted = (refl, refl)

  abbrev pub pattern_by : Symbol → Parser NodeId
  pattern_by s.OpenBrace = g.object_pattern (part_at depth)
  pattern_by s.OpenBracket = g.array_pattern (part_at depth)
  pattern_by _ = refuse

  pub object-step : (t : Token) (ts : List Token) (ns : Nodes) → told (g.object_pattern (part_at depth) (t ∷ ts, ns))
      ≡ guided language ahead (rule depth) (both (listed pattern_member) (token (kinds (mark (codes "}") ∷ [])))) ts (λ b rest. built (mk.pattern_by (parts_at depth) s.OpenBrace) ns (pair (leaf t) b) rest)
  unfolding g.object_pattern g.bind_properties next place add first_token
  object-step t ts ns = step (listed-sim depth property-sim property-takes property-placed pattern-full.0 only-close_brace patterns-parted.0) ts ns _ _ (λ a rest. refl)

  pub array-step : (t : Token) (ts : List Token) (ns : Nodes) → told (g.array_pattern (part_at depth) (t ∷ ts, ns))
      ≡ guided language ahead (rule depth) (both (listed parameter) (token (kinds (mark (codes "]") ∷ [])))) ts (λ b rest. built (mk.pattern_by (parts_at depth) s.OpenBracket) ns (pair (leaf t) b) rest)
  unfolding g.array_pattern g.bind_elements next place add first_token
  array-step t ts ns = step (listed-sim depth (element-sim depth h) parameter-takes element-placed pattern-full.1 only-close_bracket patterns-parted.1) ts ns _ _ (λ a rest. refl)

  pub pattern-at : (t : Token) (ts : List Token) (ns : Nodes) (symbol : Symbol) (broken : Bool) → of_kind t.kind ≡ symbol → t.broken ≡ broken
      → told (pattern_by symbol (t ∷ ts, ns)) ≡ at_kind depth (numbered symbol broken) pattern_rule (t ∷ ts) (built (mk.pattern_by (parts_at depth) symbol) ns)
  unfolding at_kind tables pattern_rule
  pattern-at t ts ns s.OpenBrace false e f = object-step t ts ns
  pattern-at t ts ns s.OpenBrace true e f = object-step t ts ns
  pattern-at t ts ns s.OpenBracket false e f = array-step t ts ns
  pattern-at t ts ns s.OpenBracket true e f = array-step t ts ns
  pattern-at t ts ns _ false e f = refl
  pattern-at t ts ns _ true e f = refl

  pub pattern-sim : Sim depth (g.pattern (part_at depth)) pattern_rule (mk.pattern (parts_at depth))
  unfolding g.pattern mk.pattern pattern_rule vacant refusals
  pattern-sim = sim-by depth pattern_by (mk.pattern_by (parts_at depth)) pattern_rule refl (λ ns. refl) pattern-at

  -- ---- one parameter, and none

  pub catch-sim : Sim depth (g.catch_bind (part_at depth)) one_parameter_rule (mk.catch_bind (parts_at depth))
  unfolding g.catch_bind one_parameter_rule mk.catch_bind guided
  catch-sim = record { holds = λ ts ns. step-expect only-open_paren ts ns _ _ (λ t m. step (bind-sim depth h) m _ _ _ (λ a n. step-expect only-close_paren n _ _ _ (λ u rest. refl))) }

  pub setter-sim : Sim depth (g.setter_parameter (part_at depth)) one_parameter_rule (mk.setter_parameter (parts_at depth))
  unfolding g.setter_parameter one_parameter_rule mk.setter_parameter mk.catch_bind guided
  setter-sim = record { holds = λ ts ns. step-expect only-open_paren ts ns _ _ (λ t m. step (bind-sim depth h) m _ _ _ (λ a n. step-expect only-close_paren n _ _ _ (λ u rest. refl))) }

  pub none-sim : Sim depth (g.no_parameters (part_at depth)) no_parameters_rule (λ tree. mk.pure (record { list = []; rest = None }))
  unfolding g.no_parameters no_parameters_rule guided
  none-sim = record { holds = λ ts ns. step-expect only-open_paren ts ns _ _ (λ t m. step-expect only-close_paren m _ _ _ (λ u rest. refl)) }

  -- ---- functions

  pub rest-sim : (how : Part) (x : Rule) → Sim depth (g.parameters_of (part_at depth) how) x ((parts_at depth).parameters_of how)
      → Sim depth (st.function_rest (part_at depth) how) (both x (call 1)) (mk.function_rest (parts_at depth) how)
  unfolding st.function_rest mk.function_rest guided
  rest-sim how x sim = record { holds = λ ts ns. step sim ts ns _ _ (λ a m. step h.block_part m _ _ _ (λ b rest. refl)) }

  pub declaration-sim : Sim depth (st.function_declaration (part_at depth)) declared_rule (mk.function_declaration (parts_at depth))
  unfolding st.function_declaration declared_rule mk.function_declaration guided place add vacant first_token
  declaration-sim = sim-at depth (st.function_declaration (part_at depth))
      (λ at tree ns. mk.after (mk.function_rest (parts_at depth) parts.Parameters (second (second tree)) ns) (λ function. mk.added (made.FunDecl (mk.text_in (first (second tree))) function) at)) declared_rule refl
      (λ ts ns. step-expect only-function ts ns _ _ (λ t m. step-name m _ _ _ (λ u n. step (rest-sim parts.Parameters (call 19) h.parameters_part) n _ _ _ (λ a rest. refl))))

  -- a name, if it comes
  pub name-step : {A : Type 0} (ts : List Token) (ns : Nodes) (f : Option (List ℕ) → Parser A) (k : Goes Token (A × Input))
      → ((t : Token) (rest : List Token) → told (f (Some (text_of t.kind)) (rest, ns)) ≡ k (leaf t) rest) → told (f None (ts, ns)) ≡ k tip ts
      → told (and_then (st.function_name (ts, ns)) f) ≡ guided language ahead (rule depth) (optional identifier) ts k
  unfolding st.function_name symbol text_next next guided token_kind firsts
  name-step [] ns f k h o = o
  name-step {A} (t ∷ ts) ns f k h o = by (is_name (of_kind t.kind)) ∙ ap (λ b. if b then (if b then k (leaf t) ts else Err (wrong (t ∷ ts))) else k tip (t ∷ ts)) (name-agrees (of_kind t.kind) t.broken)
    where
      by : (b : Bool) → told (and_then (st.name_if b (t ∷ ts, ns)) f) ≡ (if b then (if b then k (leaf t) ts else Err (wrong (t ∷ ts))) else k tip (t ∷ ts))
      by true = h t ts
      by false = o

  pub expression-sim : Sim depth (st.function_expression (part_at depth)) function_rule (mk.function_expression (parts_at depth))
  unfolding st.function_expression function_rule mk.function_expression guided place add vacant first_token
  expression-sim = sim-at depth (st.function_expression (part_at depth))
      (λ at tree ns. mk.after (mk.function_rest (parts_at depth) parts.Parameters (second (second tree)) ns) (λ function. mk.added (made.Fun (mk.name_if (parts_at depth) (first (second tree))) function) at)) function_rule refl
      (λ ts ns. step-expect only-function ts ns _ _ (λ t m. name-step m ns _ _
      (λ u n. step (rest-sim parts.Parameters (call 19) h.parameters_part) n _ _ _ (λ a rest. refl))
      (step (rest-sim parts.Parameters (call 19) h.parameters_part) m _ _ _ (λ a rest. refl))))
