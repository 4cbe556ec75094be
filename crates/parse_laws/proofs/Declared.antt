-- Declarations.
use Rattle.std.proofs.Common.{true, false, Bool, ◌≡◌, ℕ, List, [], ◌∷◌, length, refl, ◌∙◌, codes}
use Rattle.std.specs.Prelude.{Option, Some, None, if◌then◌else◌, not, Err}
use Rattle.grammar.specs.Reading.{nullable}
use Rattle.grammar.specs.Tests.{InPlace}
use Rattle.grammar.specs.Grammar.{leaf, pair, both, empty, token, entry}
use Rattle.js_token.specs.declared.token.Token.{Token}
use Rattle.js_tree.specs.Nodes.{Nodes}
use Rattle.js_tree.specs.declared.node.NodeId.{NodeId}
use Rattle.js_tree.specs.declared.node.Declarator.{Declarator}
use Rattle.js_grammar.specs.Kinds.{kinds, mark}
use Rattle.js_grammar.specs.Script.{Rule, rules, any, optional, bind, let_binding, const_binding, assign}
use Rattle.js_parse.specs.declared.symbol.Symbol.{Symbol}
use Rattle.js_parse.specs.declared.symbol.Symbol.TheVariants as s
use Rattle.js_parse.specs.Symbols.{of_kind, is_name}
use Rattle.js_parse.specs.Input.{Parser, and_then, symbol, pure, refuse, ◌<$>◌}
use Rattle.js_parse.specs.Grammar as g
use Rattle.js_parse.specs.Statements as st
use Rattle.js_parse.specs.Nesting.{part_at}
use Rattle.parse_laws.specs.Kinds.{numbered}
use Rattle.parse_laws.specs.Trees as mk
use Rattle.parse_laws.specs.Trees.{Parts, parts_at, place_in, symbol_in, first_token, first, second, under, Build}
use Rattle.parse_laws.proofs.Guided.{guided, wrong}
use Rattle.parse_laws.proofs.Sound.{vacant}
use Rattle.parse_laws.proofs.Walk.{language, ahead, rule, told, built, Sim, step, eat-step, at_kind, none-at_end}
use Rattle.parse_laws.proofs.Begun.{refusals, sim-by, kind-at, tables}
use Rattle.parse_laws.proofs.Steps.{eat-need}
use Rattle.parse_laws.proofs.Symbols
use Rattle.parse_laws.proofs.Loops.{commas-loop, none-first}
use Rattle.parse_laws.proofs.Parted.{Parted}
use Rattle.parse_laws.proofs.Bindings.{bind-sim}
use Rattle.parse_laws.proofs.Arrows.{assign-sim}

module _ (depth : ℕ) (h : Parted depth) where
  abbrev pub initial_x : Bool → Bool → Rule
  initial_x allow_in true = both (token (kinds (mark (codes "=") ∷ []))) (assign allow_in)
  initial_x allow_in false = optional (both (token (kinds (mark (codes "=") ∷ []))) (assign allow_in))

  abbrev pub initial_by : Bool → Bool → Bool → Parser (Option NodeId)
  initial_by allow_in required given = if given then Some <$> g.assign (part_at depth) allow_in else (if required then refuse else pure None)

  pub present-assign : (allow_in : Bool) (ns : Nodes) (t : Token) (rest : List Token) → told (and_then (g.assign (part_at depth) allow_in (rest, ns)) (λ id. pure (Some id)))
      ≡ guided language ahead (rule depth) (assign allow_in) rest (λ b end. built (mk.initial (parts_at depth)) ns (pair (leaf t) b) end)
  unfolding guided mk.initial first_token
  present-assign allow_in ns t rest = step (assign-sim depth h allow_in) rest ns _ _ (λ a end. refl)

  pub absent-initial : (allow_in : Bool) (ns : Nodes) (ts : List Token) → told (initial_by allow_in false false (ts, ns)) ≡ guided language ahead (rule depth) empty ts (built (mk.initial (parts_at depth)) ns)
  unfolding guided mk.initial first_token
  absent-initial allow_in ns ts = refl

  pub initial-sim : (allow_in required : Bool) → Sim depth (st.initial (part_at depth) allow_in required) (initial_x allow_in required) (mk.initial (parts_at depth))
  unfolding st.initial refusals
  initial-sim allow_in true = record {
    holds = λ ts ns. eat-need depth Symbols.only-assign ts ns (initial_by allow_in true) (assign allow_in) (built (mk.initial (parts_at depth)) ns)
        (λ t rest. present-assign allow_in ns t rest) refl;
  }
  initial-sim allow_in false = record {
    holds = λ ts ns. eat-step depth Symbols.only-assign ts ns (initial_by allow_in false) (assign allow_in) empty (built (mk.initial (parts_at depth)) ns)
        (λ t rest. present-assign allow_in ns t rest) (absent-initial allow_in ns ts);
  }

  abbrev pub binding : Bool → Bool → Rule
  binding true allow_in = const_binding allow_in
  binding false allow_in = let_binding allow_in

  abbrev pub declarator_by : Bool → Symbol → Parser Declarator
  declarator_by allow_in symbol i = and_then (g.bind (part_at depth) i) (λ target i. and_then (st.initial (part_at depth) allow_in (not (is_name symbol)) i) (λ value. pure (record { bind = target; value = value })))

  pub declarator-at : (allow_in : Bool) (t : Token) (ts : List Token) (ns : Nodes) (symbol : Symbol) (broken : Bool) → of_kind t.kind ≡ symbol → t.broken ≡ broken
      → told (declarator_by allow_in symbol (t ∷ ts, ns)) ≡ at_kind depth (numbered symbol broken) (let_binding allow_in) (t ∷ ts) (built (mk.declarator (parts_at depth)) ns)
  unfolding at_kind tables mk.declarator
  declarator-at allow_in t ts ns s.Name false e f = step (bind-sim depth h) (t ∷ ts) ns _ (λ a m. guided language ahead (rule depth) (initial_x allow_in false) m (λ b rest. built (mk.declarator (parts_at depth)) ns (pair a b) rest))
      (λ a m. step (initial-sim allow_in false) m _ _ _ (λ b rest. refl)) ∙ kind-at depth s.Name false bind t ts _ e f
  declarator-at allow_in t ts ns s.Name true e f = step (bind-sim depth h) (t ∷ ts) ns _ (λ a m. guided language ahead (rule depth) (initial_x allow_in false) m (λ b rest. built (mk.declarator (parts_at depth)) ns (pair a b) rest))
      (λ a m. step (initial-sim allow_in false) m _ _ _ (λ b rest. refl)) ∙ kind-at depth s.Name true bind t ts _ e f
  declarator-at allow_in t ts ns x false e f = step (bind-sim depth h) (t ∷ ts) ns _ (λ a m. guided language ahead (rule depth) (initial_x allow_in (not (is_name x))) m (λ b rest. built (mk.declarator (parts_at depth)) ns (pair a b) rest))
      (λ a m. step (initial-sim allow_in (not (is_name x))) m _ _ _ (λ b rest. refl)) ∙ kind-at depth x false bind t ts _ e f
  declarator-at allow_in t ts ns x true e f = step (bind-sim depth h) (t ∷ ts) ns _ (λ a m. guided language ahead (rule depth) (initial_x allow_in (not (is_name x))) m (λ b rest. built (mk.declarator (parts_at depth)) ns (pair a b) rest))
      (λ a m. step (initial-sim allow_in (not (is_name x))) m _ _ _ (λ b rest. refl)) ∙ kind-at depth x true bind t ts _ e f

  pub binding-takes : (constant allow_in : Bool) → vacant (binding constant allow_in) ≡ false
  unfolding vacant
  binding-takes true allow_in = refl
  binding-takes false allow_in = refl

  pub bind-end : (ns : Nodes) → told (g.bind (part_at depth) ([], ns)) ≡ Err (wrong [])
  unfolding vacant
  bind-end ns = (bind-sim depth h).holds [] ns ∙ none-at_end depth bind refl _

  pub declarator-sim : (constant allow_in : Bool) → Sim depth (st.declarator (part_at depth) constant allow_in) (binding constant allow_in) (mk.declarator (parts_at depth))
  unfolding st.declarator mk.declarator guided
  declarator-sim true allow_in = record { holds = λ ts ns. step (bind-sim depth h) ts ns _ _ (λ a m. step (initial-sim allow_in true) m _ _ _ (λ b rest. refl)) }
  declarator-sim false allow_in = sim-by depth (declarator_by allow_in) (λ symbol. mk.declarator (parts_at depth)) (let_binding allow_in) (binding-takes false allow_in)
      (λ ns. none-first (g.bind (part_at depth) ([], ns)) _ (bind-end ns)) (declarator-at allow_in)

  pub binding-placed : (constant allow_in : Bool) → InPlace language.rules (binding constant allow_in)
  unfolding InPlace rules entry
  binding-placed true true = ((tt, tt), (tt, refl))
  binding-placed true false = ((tt, tt), (tt, refl))
  binding-placed false true = ((tt, ((tt, refl), tt)), (tt, (tt, refl)))
  binding-placed false false = ((tt, ((tt, refl), tt)), (tt, (tt, refl)))

  pub binding-full : (constant allow_in : Bool) → nullable (binding constant allow_in) ≡ false
  unfolding nullable
  binding-full true allow_in = refl
  binding-full false allow_in = refl

  abbrev pub comma_binding : Bool → Bool → Rule
  comma_binding constant allow_in = both (token (kinds (mark (codes ",") ∷ []))) (binding constant allow_in)

  pub declarators-sim : (constant allow_in : Bool) (one : Declarator) → Sim depth (st.declarators (part_at depth) constant allow_in one) (any (comma_binding constant allow_in)) (mk.declarators (parts_at depth) (one ∷ []))
  unfolding st.declarators st.declarators_from mk.declarators guided
  declarators-sim constant allow_in one = record {
    holds = λ ts ns.
        commas-loop depth (declarator-sim constant allow_in) (binding-takes constant allow_in) (binding-placed constant allow_in) (binding-full constant allow_in)
        (st.declarators_from (part_at depth) constant allow_in) (λ found ts ns. refl) (λ n found ts ns. refl) (length ts) ts ns (one ∷ []);
  }
