-- Each part of each depth agrees.
use Rattle.std.proofs.Common.{true, false, Bool, ◌≡◌, ℕ, zero, suc, List, [], ◌∷◌, refl, ap, sym, ◌∙◌, codes}
use Rattle.std.specs.Prelude.{Ok, Err, if◌then◌else◌}
use Rattle.grammar.specs.Kinds.{among}
use Rattle.grammar.specs.Grammar.{Tree, tip, pair, both, call, prefer, line, starts, entry}
use Rattle.js_token.specs.declared.token.Token.{Token}
use Rattle.js_tree.specs.Nodes.{Nodes}
use Rattle.js_tree.specs.declared.node.NodeId.{NodeId}
use Rattle.js_grammar.specs.Kinds.{kinds, mark}
use Rattle.js_grammar.specs.Script.{Rule, rules, heads, right, arrow_tail, new_rule}
use Rattle.js_parse.specs.declared.symbol.Symbol.TheVariants as s
use Rattle.js_parse.specs.declared.part.Part.TheVariants as parts
use Rattle.js_parse.specs.declared.part.Found.TheVariants as found
use Rattle.js_parse.specs.Symbols.{of_kind, same}
use Rattle.js_parse.specs.Input.{Parser, Outcome, Input, and_then, symbol, place, refusal, is_arrow}
use Rattle.js_parse.specs.Operators.{is_prefix}
use Rattle.js_parse.specs.Grammar as g
use Rattle.js_parse.specs.Statements as st
use Rattle.js_parse.specs.Nesting.{part_at, opens, too_deep, begins_assign, begins_statement, begins_pattern}
use Rattle.js_parse.specs.declared.symbol.Symbol.{Symbol}
use Rattle.js_parse.specs.declared.part.Part.{Part}
use Rattle.js_parse.specs.declared.part.Found.{Found}
use Rattle.js_parse.specs.declared.fault.Fault.TheVariants as fault
use Rattle.parse_laws.specs.Kinds.{token_kind, numbered}
use Rattle.parse_laws.proofs.Symbols
use Rattle.parse_laws.specs.Trees as mk
use Rattle.parse_laws.specs.Trees.{Build, Parts, parts_at}
use Rattle.parse_laws.proofs.Guided.{guided, Goes, done, called, rule_at, guided-continues, called-done, wrong}
use Rattle.parse_laws.proofs.Walk.{language, ahead, rule, told, built, Sim, called-agree, if-alike}
use Rattle.parse_laws.proofs.Begun.{tables}
use Rattle.parse_laws.proofs.Steps.{arrow-agrees}
use Rattle.parse_laws.proofs.Parted.{Parted, new_form}
use Rattle.parse_laws.proofs.Bracketed
use Rattle.parse_laws.proofs.Membered
use Rattle.parse_laws.proofs.Patterns
use Rattle.parse_laws.proofs.Parametered
use Rattle.parse_laws.proofs.Templated
use Rattle.parse_laws.proofs.Stated
use Rattle.parse_laws.proofs.Headed
use Rattle.parse_laws.proofs.Arrows

pub wrapped : {A B : Type 0} (o : Outcome A) (w : A → B) (u : B → Parser A) → ((a : A) (i : Input) → u (w a) i ≡ Ok (a, i)) → told (and_then (and_then o (λ x i. Ok (w x, i))) u) ≡ told o
wrapped (Ok p) w u h = ap (λ o. told o) (h p.0 p.1)
wrapped (Err e) w u h = refl

-- a part of the next depth
pub next-part : {A : Type 0} (depth n : ℕ) {p q : Parser A} {x : Rule} {b : Tree Token → Build A} → Sim depth q x b → language.rules n ≡ x
    → ((ts : List Token) (ns : Nodes) → told (p (ts, ns)) ≡ told (q (ts, ns))) → Sim (suc depth) p (call n) b
unfolding guided rule_at
next-part {A} depth n {p} {q} {x} {b} sim e h = record {
  holds = λ ts ns.
      h ts ns ∙ sim.holds ts ns ∙ guided-continues language ahead (rule depth) (A × Input) x ts (built b ns)
      ∙ ap (λ x. called (guided language ahead (rule depth) x ts done) (built b ns)) (sym e);
}

pub line-of : {A : Type 0} {depth : ℕ} {p : Parser A} {x : Rule} {b : Tree Token → Build A} (n : ℕ) → Sim depth p x b → Sim depth p (line n x) b
unfolding guided
line-of n sim = record { holds = sim.holds }

-- ---- where no part nests

-- The part begins where the rule does.
pub record Opens (p : Part) (n : ℕ) : Type 0 where
  pub at_end : (ns : Nodes) → opens p ([], ns) ≡ false
  pub agrees : (t : Token) (ts : List Token) (ns : Nodes) → opens p (t ∷ ts, ns) ≡ among (language.heads n) (token_kind t)

pub no-part : {A : Type 0} (p : Part) (n : ℕ) (f : Found → Parser A) (b : Tree Token → Build A) → Opens p n → (ts : List Token) (ns : Nodes)
    → told (and_then (part_at 0 p (ts, ns)) f) ≡ guided language ahead (rule 0) (call n) ts (built b ns)
unfolding part_at too_deep guided rule_at refusal place
no-part p n f b o [] ns = ap (λ b. Err (if b then fault.Deep 0 else wrong [])) (o.at_end ns)
no-part p n f b o (t ∷ ts) ns = ap (λ b. Err (if b then fault.Deep t.place else wrong (t ∷ ts))) (o.agrees t ts ns)

pub opens-group : Opens parts.Group 5
unfolding opens symbol token_kind entry heads same
opens-group = record { at_end = λ ns. refl; agrees = λ t ts ns. Symbols.open_paren-agrees (of_kind t.kind) t.broken }

pub opens-arguments : Opens parts.Arguments 10
unfolding opens symbol token_kind entry heads same
opens-arguments = record { at_end = λ ns. refl; agrees = λ t ts ns. Symbols.open_paren-agrees (of_kind t.kind) t.broken }

pub opens-index : Opens parts.Index 6
unfolding opens symbol token_kind entry heads same
opens-index = record { at_end = λ ns. refl; agrees = λ t ts ns. Symbols.open_bracket-agrees (of_kind t.kind) t.broken }

pub opens-computed : Opens parts.ComputedKey 7
unfolding opens symbol token_kind entry heads same
opens-computed = record { at_end = λ ns. refl; agrees = λ t ts ns. Symbols.open_bracket-agrees (of_kind t.kind) t.broken }

pub opens-array : Opens parts.Array 8
unfolding opens symbol token_kind entry heads same
opens-array = record { at_end = λ ns. refl; agrees = λ t ts ns. Symbols.open_bracket-agrees (of_kind t.kind) t.broken }

pub opens-object : Opens parts.Object 9
unfolding opens symbol token_kind entry heads same
opens-object = record { at_end = λ ns. refl; agrees = λ t ts ns. Symbols.open_brace-agrees (of_kind t.kind) t.broken }

pub opens-template : Opens parts.Template 11
unfolding opens symbol token_kind entry heads same
opens-template = record { at_end = λ ns. refl; agrees = λ t ts ns. Symbols.template_head-agrees (of_kind t.kind) t.broken }

pub opens-expression : Opens parts.FunctionExpression 2
unfolding opens symbol token_kind entry heads same
opens-expression = record { at_end = λ ns. refl; agrees = λ t ts ns. Symbols.function-agrees (of_kind t.kind) t.broken }

pub opens-declaration : Opens parts.FunctionDeclaration 3
unfolding opens symbol token_kind entry heads same
opens-declaration = record { at_end = λ ns. refl; agrees = λ t ts ns. Symbols.function-agrees (of_kind t.kind) t.broken }

pub opens-method : Opens parts.Method 21
unfolding opens symbol token_kind entry heads same
opens-method = record { at_end = λ ns. refl; agrees = λ t ts ns. Symbols.open_paren-agrees (of_kind t.kind) t.broken }

pub opens-getter : Opens parts.Getter 22
unfolding opens symbol token_kind entry heads same
opens-getter = record { at_end = λ ns. refl; agrees = λ t ts ns. Symbols.open_paren-agrees (of_kind t.kind) t.broken }

pub opens-setter : Opens parts.Setter 23
unfolding opens symbol token_kind entry heads same
opens-setter = record { at_end = λ ns. refl; agrees = λ t ts ns. Symbols.open_paren-agrees (of_kind t.kind) t.broken }

pub opens-parameters : Opens parts.Parameters 19
unfolding opens symbol token_kind entry heads same
opens-parameters = record { at_end = λ ns. refl; agrees = λ t ts ns. Symbols.open_paren-agrees (of_kind t.kind) t.broken }

pub opens-none : Opens parts.NoParameters 24
unfolding opens symbol token_kind entry heads same
opens-none = record { at_end = λ ns. refl; agrees = λ t ts ns. Symbols.open_paren-agrees (of_kind t.kind) t.broken }

pub opens-one : Opens parts.OneParameter 25
unfolding opens symbol token_kind entry heads same
opens-one = record { at_end = λ ns. refl; agrees = λ t ts ns. Symbols.open_paren-agrees (of_kind t.kind) t.broken }

pub opens-block : Opens parts.Block 1
unfolding opens symbol token_kind entry heads same
opens-block = record { at_end = λ ns. refl; agrees = λ t ts ns. Symbols.open_brace-agrees (of_kind t.kind) t.broken }

pub opens-new : Opens parts.New 13
unfolding opens symbol token_kind entry heads same
opens-new = record { at_end = λ ns. refl; agrees = λ t ts ns. Symbols.new-agrees (of_kind t.kind) t.broken }

pub opens-head : Opens parts.ForHead 26
unfolding opens symbol token_kind entry heads same
opens-head = record { at_end = λ ns. refl; agrees = λ t ts ns. Symbols.open_paren-agrees (of_kind t.kind) t.broken }

pub opens-catch : Opens parts.CatchBind 25
unfolding opens symbol token_kind entry heads same
opens-catch = record { at_end = λ ns. refl; agrees = λ t ts ns. Symbols.open_paren-agrees (of_kind t.kind) t.broken }

pub assign-begins : (symbol : Symbol) (broken : Bool) → begins_assign symbol ≡ among (language.heads 15) (numbered symbol broken)
unfolding begins_assign tables
assign-begins s.Name false = refl
assign-begins s.Name true = refl
assign-begins _ false = refl
assign-begins _ true = refl

pub statement-begins : (symbol : Symbol) (broken : Bool) → begins_statement symbol ≡ among (language.heads 4) (numbered symbol broken)
unfolding begins_assign tables
statement-begins s.Name false = refl
statement-begins s.Name true = refl
statement-begins _ false = refl
statement-begins _ true = refl

pub pattern-begins : (symbol : Symbol) (broken : Bool) → begins_pattern symbol ≡ among (language.heads 20) (numbered symbol broken)
unfolding tables
pattern-begins s.Name false = refl
pattern-begins s.Name true = refl
pattern-begins _ false = refl
pattern-begins _ true = refl

pub prefix-begins : (symbol : Symbol) (broken : Bool) → is_prefix symbol ≡ among (language.heads 12) (numbered symbol broken)
unfolding tables
prefix-begins s.Not false = refl
prefix-begins s.Not true = refl
prefix-begins _ false = refl
prefix-begins _ true = refl

pub opens-right : (allow_in : Bool) → Opens (parts.Right allow_in) 15
unfolding opens symbol token_kind begins_assign
opens-right allow_in = record { at_end = λ ns. refl; agrees = λ t ts ns. assign-begins (of_kind t.kind) t.broken }

pub opens-right_off : (allow_in : Bool) → Opens (parts.Right allow_in) 16
unfolding opens symbol token_kind begins_assign entry heads
opens-right_off allow_in = record { at_end = λ ns. refl; agrees = λ t ts ns. assign-begins (of_kind t.kind) t.broken }

pub opens-body : Opens parts.Body 4
unfolding opens symbol token_kind begins_assign
opens-body = record { at_end = λ ns. refl; agrees = λ t ts ns. statement-begins (of_kind t.kind) t.broken }

pub opens-pattern : Opens parts.Pattern 20
unfolding opens symbol token_kind
opens-pattern = record { at_end = λ ns. refl; agrees = λ t ts ns. pattern-begins (of_kind t.kind) t.broken }

pub opens-prefix : Opens parts.Unary 12
unfolding opens symbol token_kind
opens-prefix = record { at_end = λ ns. refl; agrees = λ t ts ns. prefix-begins (of_kind t.kind) t.broken }

pub opens-arrow : (allow_in : Bool) → Opens (parts.ArrowBody allow_in) 17
unfolding opens is_arrow token_kind entry heads
opens-arrow allow_in = record { at_end = λ ns. refl; agrees = λ t ts ns. arrow-agrees (of_kind t.kind) t.broken }

pub opens-arrow_off : (allow_in : Bool) → Opens (parts.ArrowBody allow_in) 18
unfolding opens is_arrow token_kind entry heads
opens-arrow_off allow_in = record { at_end = λ ns. refl; agrees = λ t ts ns. arrow-agrees (of_kind t.kind) t.broken }

pub no-right : (allow_in : Bool) → Sim 0 (g.node_of (part_at 0) (parts.Right allow_in)) (right allow_in) ((parts_at 0).node_of (parts.Right true))
unfolding g.node_of
no-right true = record { holds = no-part (parts.Right true) 15 _ _ (opens-right true) }
no-right false = record { holds = no-part (parts.Right false) 16 _ _ (opens-right_off false) }

pub no-arrow : (allow_in : Bool) → Sim 0 (g.node_of (part_at 0) (parts.ArrowBody allow_in)) (arrow_tail allow_in) ((parts_at 0).node_of (parts.ArrowBody true))
unfolding g.node_of
no-arrow true = record { holds = no-part (parts.ArrowBody true) 17 _ _ (opens-arrow true) }
no-arrow false = record { holds = no-part (parts.ArrowBody false) 18 _ _ (opens-arrow_off false) }

-- Behind what begins too deep no arguments are reached.
pub no-new : Sim 0 (g.node_of (part_at 0) parts.New) new_form ((parts_at 0).node_of parts.New)
unfolding guided g.node_of rule_at
no-new = record { holds = λ ts ns. no-part parts.New 13 _ ((parts_at 0).node_of parts.New) opens-new ts ns }

pub parted-0 : Parted 0
unfolding g.node_of g.nodes_of g.parameters_of g.body_of g.head_of
parted-0 = record {
  group_part = record { holds = no-part parts.Group 5 _ _ opens-group };
  index_part = record { holds = no-part parts.Index 6 _ _ opens-index };
  computed_part = record { holds = no-part parts.ComputedKey 7 _ _ opens-computed };
  array_part = record { holds = no-part parts.Array 8 _ _ opens-array };
  object_part = record { holds = no-part parts.Object 9 _ _ opens-object };
  expression_part = record { holds = no-part parts.FunctionExpression 2 _ _ opens-expression };
  declaration_part = record { holds = no-part parts.FunctionDeclaration 3 _ _ opens-declaration };
  block_part = record { holds = no-part parts.Block 1 _ _ opens-block };
  catch_part = record { holds = no-part parts.CatchBind 25 _ _ opens-catch };
  arguments_part = record { holds = no-part parts.Arguments 10 _ _ opens-arguments };
  parameters_part = record { holds = no-part parts.Parameters 19 _ _ opens-parameters };
  none_part = record { holds = no-part parts.NoParameters 24 _ _ opens-none };
  one_part = record { holds = no-part parts.OneParameter 25 _ _ opens-one };
  method_part = record { holds = no-part parts.Method 21 _ _ opens-method };
  getter_part = record { holds = no-part parts.Getter 22 _ _ opens-getter };
  setter_part = record { holds = no-part parts.Setter 23 _ _ opens-setter };
  head_part = record { holds = no-part parts.ForHead 26 _ _ opens-head };
  body_part = record { holds = no-part parts.Body 4 _ _ opens-body };
  pattern_part = record { holds = no-part parts.Pattern 20 _ _ opens-pattern };
  unary_part = λ t ts ns e. no-part parts.Unary 12 _ ((parts_at 0).node_of parts.Unary) opens-prefix (t ∷ ts) ns;
  right_part = λ allow_in. no-right allow_in;
  arrow_part = λ allow_in. no-arrow allow_in;
  template_part = λ t ts ns e. no-part parts.Template 11 _ ((parts_at 0).node_of parts.Template) opens-template (t ∷ ts) ns;
  new_part = no-new;
}

module _ (depth : ℕ) (h : Parted depth) where
  pub group_part-up : Sim (suc depth) (g.node_of (part_at (suc depth)) parts.Group) (call 5) ((parts_at (suc depth)).node_of parts.Group)
  unfolding part_at st.level g.node_of parts_at mk.level rules entry
  group_part-up = next-part depth 5 (Bracketed.group-sim depth h) refl (λ ts ns. wrapped _ (λ x. found.Node x) _ (λ a i. refl))

  pub index_part-up : Sim (suc depth) (g.node_of (part_at (suc depth)) parts.Index) (call 6) ((parts_at (suc depth)).node_of parts.Index)
  unfolding part_at st.level g.node_of parts_at mk.level rules entry
  index_part-up = next-part depth 6 (Bracketed.index-sim depth h) refl (λ ts ns. wrapped _ (λ x. found.Node x) _ (λ a i. refl))

  pub computed_part-up : Sim (suc depth) (g.node_of (part_at (suc depth)) parts.ComputedKey) (call 7) ((parts_at (suc depth)).node_of parts.ComputedKey)
  unfolding part_at st.level g.node_of parts_at mk.level rules entry
  computed_part-up = next-part depth 7 (Bracketed.computed-sim depth h) refl (λ ts ns. wrapped _ (λ x. found.Node x) _ (λ a i. refl))

  pub array_part-up : Sim (suc depth) (g.node_of (part_at (suc depth)) parts.Array) (call 8) ((parts_at (suc depth)).node_of parts.Array)
  unfolding part_at st.level g.node_of parts_at mk.level rules entry
  array_part-up = next-part depth 8 (Bracketed.array-sim depth h) refl (λ ts ns. wrapped _ (λ x. found.Node x) _ (λ a i. refl))

  pub object_part-up : Sim (suc depth) (g.node_of (part_at (suc depth)) parts.Object) (call 9) ((parts_at (suc depth)).node_of parts.Object)
  unfolding part_at st.level g.node_of parts_at mk.level rules entry
  object_part-up = next-part depth 9 (Membered.object-sim depth h) refl (λ ts ns. wrapped _ (λ x. found.Node x) _ (λ a i. refl))

  pub expression_part-up : Sim (suc depth) (g.node_of (part_at (suc depth)) parts.FunctionExpression) (call 2) ((parts_at (suc depth)).node_of parts.FunctionExpression)
  unfolding part_at st.level g.node_of parts_at mk.level rules entry
  expression_part-up = next-part depth 2 (Patterns.expression-sim depth h) refl (λ ts ns. wrapped _ (λ x. found.Node x) _ (λ a i. refl))

  pub declaration_part-up : Sim (suc depth) (g.node_of (part_at (suc depth)) parts.FunctionDeclaration) (call 3) ((parts_at (suc depth)).node_of parts.FunctionDeclaration)
  unfolding part_at st.level g.node_of parts_at mk.level rules entry
  declaration_part-up = next-part depth 3 (Patterns.declaration-sim depth h) refl (λ ts ns. wrapped _ (λ x. found.Node x) _ (λ a i. refl))

  pub block_part-up : Sim (suc depth) (g.node_of (part_at (suc depth)) parts.Block) (call 1) ((parts_at (suc depth)).node_of parts.Block)
  unfolding part_at st.level g.node_of parts_at mk.level rules entry
  block_part-up = next-part depth 1 (Stated.block-sim depth h) refl (λ ts ns. wrapped _ (λ x. found.Node x) _ (λ a i. refl))

  pub body_part-up : Sim (suc depth) (g.node_of (part_at (suc depth)) parts.Body) (call 4) ((parts_at (suc depth)).node_of parts.Body)
  unfolding part_at st.level g.node_of parts_at mk.level rules entry
  body_part-up = next-part depth 4 (line-of 57 (Stated.statement-sim depth h)) refl (λ ts ns. wrapped _ (λ x. found.Node x) _ (λ a i. refl))

  pub unary_part-up : (t : Token) (ts : List Token) (ns : Nodes) → is_prefix (of_kind t.kind) ≡ true
      → told (g.node_of (part_at (suc depth)) parts.Unary (t ∷ ts, ns)) ≡ guided language ahead (rule (suc depth)) (call 12) (t ∷ ts) (built ((parts_at (suc depth)).node_of parts.Unary) ns)
  unfolding part_at st.level g.node_of parts_at mk.level rules entry rule_at guided
  unary_part-up t ts ns e = wrapped _ (λ x. found.Node x) _ (λ a i. refl) ∙ Bracketed.prefix-so depth h t ts ns e
      ∙ guided-continues language ahead (rule depth) (NodeId × Input) (language.rules 12) (t ∷ ts) (built (mk.prefix (parts_at depth)) ns)

  pub pattern_part-up : Sim (suc depth) (g.node_of (part_at (suc depth)) parts.Pattern) (call 20) ((parts_at (suc depth)).node_of parts.Pattern)
  unfolding part_at st.level g.node_of parts_at mk.level rules entry
  pattern_part-up = next-part depth 20 (Patterns.pattern-sim depth h) refl (λ ts ns. wrapped _ (λ x. found.Node x) _ (λ a i. refl))

  pub catch_part-up : Sim (suc depth) (g.node_of (part_at (suc depth)) parts.CatchBind) (call 25) ((parts_at (suc depth)).node_of parts.CatchBind)
  unfolding part_at st.level g.node_of parts_at mk.level rules entry
  catch_part-up = next-part depth 25 (Patterns.catch-sim depth h) refl (λ ts ns. wrapped _ (λ x. found.Node x) _ (λ a i. refl))

  pub arguments_part-up : Sim (suc depth) (g.nodes_of (part_at (suc depth)) parts.Arguments) (call 10) ((parts_at (suc depth)).arguments_of)
  unfolding part_at st.level g.nodes_of parts_at mk.level rules entry
  arguments_part-up = next-part depth 10 (Bracketed.arguments-sim depth h) refl (λ ts ns. wrapped _ (λ x. found.Nodes x) _ (λ a i. refl))

  pub parameters_part-up : Sim (suc depth) (g.parameters_of (part_at (suc depth)) parts.Parameters) (call 19) ((parts_at (suc depth)).parameters_of parts.Parameters)
  unfolding part_at st.level g.parameters_of parts_at mk.level rules entry
  parameters_part-up = next-part depth 19 (Parametered.parameters-sim depth h) refl (λ ts ns. wrapped _ (λ x. found.Parameters x) _ (λ a i. refl))

  pub none_part-up : Sim (suc depth) (g.parameters_of (part_at (suc depth)) parts.NoParameters) (call 24) ((parts_at (suc depth)).parameters_of parts.NoParameters)
  unfolding part_at st.level g.parameters_of parts_at mk.level rules entry
  none_part-up = next-part depth 24 (Patterns.none-sim depth h) refl (λ ts ns. wrapped _ (λ x. found.Parameters x) _ (λ a i. refl))

  pub one_part-up : Sim (suc depth) (g.parameters_of (part_at (suc depth)) parts.OneParameter) (call 25) ((parts_at (suc depth)).parameters_of parts.OneParameter)
  unfolding part_at st.level g.parameters_of parts_at mk.level rules entry
  one_part-up = next-part depth 25 (Patterns.setter-sim depth h) refl (λ ts ns. wrapped _ (λ x. found.Parameters x) _ (λ a i. refl))

  pub method_part-up : Sim (suc depth) (g.body_of (part_at (suc depth)) parts.Method) (call 21) ((parts_at (suc depth)).function_in parts.Method)
  unfolding part_at st.level g.body_of parts_at mk.level rules entry
  method_part-up = next-part depth 21 (Patterns.rest-sim depth h parts.Parameters (call 19) h.parameters_part) refl (λ ts ns. wrapped _ (λ x. found.Function x) _ (λ a i. refl))

  pub getter_part-up : Sim (suc depth) (g.body_of (part_at (suc depth)) parts.Getter) (call 22) ((parts_at (suc depth)).function_in parts.Getter)
  unfolding part_at st.level g.body_of parts_at mk.level rules entry
  getter_part-up = next-part depth 22 (Patterns.rest-sim depth h parts.NoParameters (call 24) h.none_part) refl (λ ts ns. wrapped _ (λ x. found.Function x) _ (λ a i. refl))

  pub setter_part-up : Sim (suc depth) (g.body_of (part_at (suc depth)) parts.Setter) (call 23) ((parts_at (suc depth)).function_in parts.Setter)
  unfolding part_at st.level g.body_of parts_at mk.level rules entry
  setter_part-up = next-part depth 23 (Patterns.rest-sim depth h parts.OneParameter (call 25) h.one_part) refl (λ ts ns. wrapped _ (λ x. found.Function x) _ (λ a i. refl))

  pub head_part-up : Sim (suc depth) (g.head_of (part_at (suc depth)) parts.ForHead) (call 26) ((parts_at (suc depth)).head_of)
  unfolding part_at st.level g.head_of parts_at mk.level rules entry
  head_part-up = next-part depth 26 (Headed.for_head-sim depth h) refl (λ ts ns. wrapped _ (λ x. found.Head x) _ (λ a i. refl))

  pub right_part-up : (allow_in : Bool) → Sim (suc depth) (g.node_of (part_at (suc depth)) (parts.Right allow_in)) (right allow_in) ((parts_at (suc depth)).node_of (parts.Right true))
  unfolding part_at st.level g.node_of parts_at mk.level rules entry
  right_part-up true = next-part depth 15 (line-of 43 (Arrows.assign-sim depth h true)) refl (λ ts ns. wrapped _ (λ x. found.Node x) _ (λ a i. refl))
  right_part-up false = next-part depth 16 (line-of 54 (Arrows.assign-sim depth h false)) refl (λ ts ns. wrapped _ (λ x. found.Node x) _ (λ a i. refl))

  pub arrow_part-up : (allow_in : Bool) → Sim (suc depth) (g.node_of (part_at (suc depth)) (parts.ArrowBody allow_in)) (arrow_tail allow_in) ((parts_at (suc depth)).node_of (parts.ArrowBody true))
  unfolding part_at st.level g.node_of parts_at mk.level rules entry
  arrow_part-up true = next-part depth 17 (Bracketed.arrow_body-sim depth h true) refl (λ ts ns. wrapped _ (λ x. found.Node x) _ (λ a i. refl))
  arrow_part-up false = next-part depth 18 (Bracketed.arrow_body-sim depth h false) refl (λ ts ns. wrapped _ (λ x. found.Node x) _ (λ a i. refl))

  pub template_part-up : (t : Token) (ts : List Token) (ns : Nodes) → of_kind t.kind ≡ s.TemplateHead
      → told (g.node_of (part_at (suc depth)) parts.Template (t ∷ ts, ns)) ≡ guided language ahead (rule (suc depth)) (call 11) (t ∷ ts) (built ((parts_at (suc depth)).node_of parts.Template) ns)
  unfolding part_at st.level g.node_of parts_at mk.level rules entry rule_at guided
  template_part-up t ts ns e = wrapped _ (λ x. found.Node x) _ (λ a i. refl) ∙ Templated.template-at depth h t ts ns e
      ∙ guided-continues language ahead (rule depth) (NodeId × Input) (language.rules 11) (t ∷ ts) (built (mk.template (parts_at depth)) ns)

  abbrev pub first_k : Goes Token (NodeId × Input) → Goes Token (NodeId × Input)
  first_k k a m = if starts language (among (kinds (mark (codes "(") ∷ []))) m then called (rule depth 10 m) (λ c rest. k (pair a c) rest) else k (pair a tip) m

  abbrev pub second_k : Goes Token (NodeId × Input) → Goes Token (NodeId × Input)
  second_k k a m = if starts language (among (kinds (mark (codes "(") ∷ []))) m then called (called (rule depth 10 m) done) (λ c rest. k (pair a c) rest) else k (pair a tip) m

  pub new-same : (ts : List Token) (k : Goes Token (NodeId × Input)) → guided language ahead (rule depth) (both (line 13 new_rule) (prefer (kinds (mark (codes "(") ∷ [])) (call 10))) ts k
      ≡ guided language ahead (rule (suc depth)) new_form ts k
  unfolding rules entry rule_at guided
  new-same ts k = guided-continues language ahead (rule depth) (NodeId × Input) new_rule ts (first_k k)
      ∙ called-agree (guided language ahead (rule depth) new_rule ts done) (first_k k) (second_k k) (λ a m e.
      if-alike (starts language (among (kinds (mark (codes "(") ∷ []))) m) _ (k (pair a tip) m) _ (k (pair a tip) m) (called-done (rule depth 10 m) (λ c rest. k (pair a c) rest)) refl)

  pub new_part-up : Sim (suc depth) (g.node_of (part_at (suc depth)) parts.New) new_form ((parts_at (suc depth)).node_of parts.New)
  unfolding part_at st.level g.node_of parts_at mk.level rules entry rule_at guided
  new_part-up = record { holds = λ ts ns. wrapped _ (λ x. found.Node x) _ (λ a i. refl) ∙ (Bracketed.new-sim depth h).holds ts ns ∙ new-same ts (built (mk.new_call (parts_at depth)) ns) }

  pub parted-up : Parted (suc depth)
  parted-up = record {
    group_part = group_part-up;
    index_part = index_part-up;
    computed_part = computed_part-up;
    array_part = array_part-up;
    object_part = object_part-up;
    expression_part = expression_part-up;
    declaration_part = declaration_part-up;
    block_part = block_part-up;
    body_part = body_part-up;
    unary_part = unary_part-up;
    pattern_part = pattern_part-up;
    catch_part = catch_part-up;
    arguments_part = arguments_part-up;
    parameters_part = parameters_part-up;
    none_part = none_part-up;
    one_part = one_part-up;
    method_part = method_part-up;
    getter_part = getter_part-up;
    setter_part = setter_part-up;
    head_part = head_part-up;
    right_part = right_part-up;
    arrow_part = arrow_part-up;
    template_part = template_part-up;
    new_part = new_part-up;
  }

pub parted : (depth : ℕ) → Parted depth
parted zero = parted-0
parted (suc depth) = parted-up depth (parted depth)
