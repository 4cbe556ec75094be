-- Bindings.
use Rattle.std.proofs.Common.{true, false, Bool, ◌≡◌, ℕ, List, ◌∷◌, refl, ◌∙◌}
use Rattle.std.specs.Prelude.{Some, None, if◌then◌else◌}
use Rattle.grammar.specs.Grammar.{empty}
use Rattle.js_token.specs.declared.token.Token.{Token}
use Rattle.js_tree.specs.Nodes.{Nodes}
use Rattle.js_tree.specs.declared.node.Node.TheVariants as made
use Rattle.js_tree.specs.declared.node.NodeId.{NodeId}
use Rattle.js_grammar.specs.Script.{identifier, bind, default, right, parameter}
use Rattle.js_parse.specs.declared.symbol.Symbol.{Symbol}
use Rattle.js_parse.specs.declared.symbol.Symbol.TheVariants as s
use Rattle.js_parse.specs.declared.part.Part.{Part}
use Rattle.js_parse.specs.declared.part.Part.TheVariants as parts
use Rattle.js_parse.specs.declared.part.Found.{Found}
use Rattle.js_parse.specs.Symbols.{is_name, of_kind}
use Rattle.js_parse.specs.Input.{Parser, and_then, symbol, text, place, next, add, name, refusal, take_text, refuse, pure, ◌<$>◌}
use Rattle.js_parse.specs.Grammar as g
use Rattle.js_parse.specs.Nesting.{part_at}
use Rattle.parse_laws.specs.Kinds.{numbered}
use Rattle.parse_laws.specs.Trees as mk
use Rattle.parse_laws.specs.Trees.{first_token, Parts, parts_at}
use Rattle.parse_laws.proofs.Guided.{guided}
use Rattle.parse_laws.proofs.Walk.{told, built, Sim, step, eat-step, at_kind}
use Rattle.parse_laws.proofs.Begun.{kind-at, sim-by, tables}
use Rattle.parse_laws.proofs.Symbols.{only-assign}
use Rattle.parse_laws.proofs.Parted.{Parted}

-- a name that binds
abbrev pub bind_named : Symbol → Parser NodeId
bind_named symbol = λ i. and_then (if is_name symbol then take_text i else refuse i) (λ text. add (made.BindName text) (place i))

pub bind_name-at : (depth : ℕ) (t : Token) (ts : List Token) (ns : Nodes) (symbol : Symbol) (broken : Bool) → of_kind t.kind ≡ symbol → t.broken ≡ broken
    → told (bind_named symbol (t ∷ ts, ns)) ≡ at_kind depth (numbered symbol broken) identifier (t ∷ ts) (built mk.bind_name ns)
unfolding at_kind tables text place next add refusal first_token mk.bind_name
bind_name-at depth t ts ns s.Name false e f = refl
bind_name-at depth t ts ns s.Name true e f = refl
bind_name-at depth t ts ns _ false e f = refl
bind_name-at depth t ts ns _ true e f = refl

pub bind_name-sim : (depth : ℕ) → Sim depth g.bind_name identifier mk.bind_name
unfolding g.bind_name name symbol tables
bind_name-sim depth = sim-by depth bind_named (λ _ tree. mk.bind_name tree) identifier refl (λ ns. refl) (bind_name-at depth)

abbrev pub bind_by : (Part → Parser Found) → Symbol → Parser NodeId
bind_by part s.OpenBrace = g.node_of part parts.Pattern
bind_by part s.OpenBracket = g.node_of part parts.Pattern
bind_by part _ = g.bind_name

module _ (depth : ℕ) (h : Parted depth) where
  pub bind-at : (t : Token) (ts : List Token) (ns : Nodes) (symbol : Symbol) (broken : Bool) → of_kind t.kind ≡ symbol → t.broken ≡ broken
      → told (bind_by (part_at depth) symbol (t ∷ ts, ns)) ≡ at_kind depth (numbered symbol broken) bind (t ∷ ts) (built (mk.bind_by (parts_at depth) symbol) ns)
  unfolding at_kind tables text place next add refusal first_token mk.bind_name
  bind-at t ts ns s.OpenBrace false e f = h.pattern_part.holds (t ∷ ts) ns
  bind-at t ts ns s.OpenBrace true e f = h.pattern_part.holds (t ∷ ts) ns
  bind-at t ts ns s.OpenBracket false e f = h.pattern_part.holds (t ∷ ts) ns
  bind-at t ts ns s.OpenBracket true e f = h.pattern_part.holds (t ∷ ts) ns
  bind-at t ts ns x false e f = (bind_name-sim depth).holds (t ∷ ts) ns ∙ kind-at depth x false identifier t ts _ e f
  bind-at t ts ns x true e f = (bind_name-sim depth).holds (t ∷ ts) ns ∙ kind-at depth x true identifier t ts _ e f

  pub bind-sim : Sim depth (g.bind (part_at depth)) bind (mk.bind (parts_at depth))
  unfolding g.bind mk.bind tables g.bind_name name symbol
  bind-sim = sim-by depth (bind_by (part_at depth)) (mk.bind_by (parts_at depth)) bind refl (λ ns. refl) bind-at

  pub default-sim : Sim depth (g.default_value (part_at depth)) default (mk.default_value (parts_at depth))
  unfolding g.default_value mk.default_value guided first_token
  default-sim = record {
    holds = λ ts ns.
        eat-step depth only-assign ts ns (λ given. if given then Some <$> g.node_of (part_at depth) (parts.Right true) else pure None) (right true) empty (built (mk.default_value (parts_at depth)) ns)
        (λ t rest. step (h.right_part true) rest ns _ _ (λ tree end. refl)) refl;
  }

  pub element-sim : Sim depth (g.bind_element (part_at depth)) parameter (mk.bind_element (parts_at depth))
  unfolding g.bind_element mk.bind_element guided
  element-sim = record { holds = λ ts ns. step bind-sim ts ns _ _ (λ a rest. step default-sim rest _ _ _ (λ b end. refl)) }
