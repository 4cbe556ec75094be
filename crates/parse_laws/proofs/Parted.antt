-- What is supposed of the parts of a depth.
use Rattle.std.proofs.Common.{true, Bool, ◌≡◌, ℕ, List, ◌∷◌, [], codes}
use Rattle.grammar.specs.Grammar.{call, both, prefer}
use Rattle.js_grammar.specs.Kinds.{kinds, mark}
use Rattle.js_grammar.specs.Script.{Rule, right, arrow_tail}
use Rattle.js_parse.specs.declared.part.Part.TheVariants as parts
use Rattle.js_token.specs.declared.token.Token.{Token}
use Rattle.js_tree.specs.Nodes.{Nodes}
use Rattle.js_parse.specs.declared.symbol.Symbol.TheVariants as s
use Rattle.js_parse.specs.Symbols.{of_kind}
use Rattle.js_parse.specs.Operators.{is_prefix}
use Rattle.js_parse.specs.Grammar as g
use Rattle.js_parse.specs.Nesting.{part_at}
use Rattle.parse_laws.specs.Trees.{parts_at}
use Rattle.parse_laws.proofs.Walk.{language, ahead, rule, told, built, Sim}
use Rattle.parse_laws.proofs.Guided.{guided}

-- `new` and its Member, and its arguments if they come
abbrev pub new_form : Rule
new_form = both (call 13) (prefer (kinds (mark (codes "(") ∷ [])) (call 14))

-- Each part is read by its rule, and built so.
pub record Parted (depth : ℕ) : Type 0 where
  pub right_part : (allow_in : Bool) → Sim depth (g.node_of (part_at depth) (parts.Right allow_in)) (right allow_in) ((parts_at depth).node_of (parts.Right true))
  pub group_part : Sim depth (g.node_of (part_at depth) parts.Group) (call 5) ((parts_at depth).node_of parts.Group)
  pub index_part : Sim depth (g.node_of (part_at depth) parts.Index) (call 6) ((parts_at depth).node_of parts.Index)
  pub computed_part : Sim depth (g.node_of (part_at depth) parts.ComputedKey) (call 7) ((parts_at depth).node_of parts.ComputedKey)
  pub array_part : Sim depth (g.node_of (part_at depth) parts.Array) (call 8) ((parts_at depth).node_of parts.Array)
  pub object_part : Sim depth (g.node_of (part_at depth) parts.Object) (call 9) ((parts_at depth).node_of parts.Object)
  pub template_part : (t : Token) (ts : List Token) (ns : Nodes) → of_kind t.kind ≡ s.TemplateHead
      → told (g.node_of (part_at depth) parts.Template (t ∷ ts, ns)) ≡ guided language ahead (rule depth) (call 11) (t ∷ ts) (built ((parts_at depth).node_of parts.Template) ns)
  pub expression_part : Sim depth (g.node_of (part_at depth) parts.FunctionExpression) (call 2) ((parts_at depth).node_of parts.FunctionExpression)
  pub declaration_part : Sim depth (g.node_of (part_at depth) parts.FunctionDeclaration) (call 3) ((parts_at depth).node_of parts.FunctionDeclaration)
  pub arrow_part : (allow_in : Bool) → Sim depth (g.node_of (part_at depth) (parts.ArrowBody allow_in)) (arrow_tail allow_in) ((parts_at depth).node_of (parts.ArrowBody true))
  pub block_part : Sim depth (g.node_of (part_at depth) parts.Block) (call 1) ((parts_at depth).node_of parts.Block)
  pub body_part : Sim depth (g.node_of (part_at depth) parts.Body) (call 4) ((parts_at depth).node_of parts.Body)
  pub unary_part : (t : Token) (ts : List Token) (ns : Nodes) → is_prefix (of_kind t.kind) ≡ true
      → told (g.node_of (part_at depth) parts.Unary (t ∷ ts, ns)) ≡ guided language ahead (rule depth) (call 12) (t ∷ ts) (built ((parts_at depth).node_of parts.Unary) ns)
  pub new_part : Sim depth (g.node_of (part_at depth) parts.New) new_form ((parts_at depth).node_of parts.New)
  pub pattern_part : Sim depth (g.node_of (part_at depth) parts.Pattern) (call 20) ((parts_at depth).node_of parts.Pattern)
  pub catch_part : Sim depth (g.node_of (part_at depth) parts.CatchBind) (call 25) ((parts_at depth).node_of parts.CatchBind)
  pub arguments_part : Sim depth (g.nodes_of (part_at depth) parts.Arguments) (call 10) ((parts_at depth).arguments_of)
  pub parameters_part : Sim depth (g.parameters_of (part_at depth) parts.Parameters) (call 19) ((parts_at depth).parameters_of parts.Parameters)
  pub none_part : Sim depth (g.parameters_of (part_at depth) parts.NoParameters) (call 24) ((parts_at depth).parameters_of parts.NoParameters)
  pub one_part : Sim depth (g.parameters_of (part_at depth) parts.OneParameter) (call 25) ((parts_at depth).parameters_of parts.OneParameter)
  pub method_part : Sim depth (g.body_of (part_at depth) parts.Method) (call 21) ((parts_at depth).function_in parts.Method)
  pub getter_part : Sim depth (g.body_of (part_at depth) parts.Getter) (call 22) ((parts_at depth).function_in parts.Getter)
  pub setter_part : Sim depth (g.body_of (part_at depth) parts.Setter) (call 23) ((parts_at depth).function_in parts.Setter)
  pub head_part : Sim depth (g.head_of (part_at depth) parts.ForHead) (call 26) ((parts_at depth).head_of)
