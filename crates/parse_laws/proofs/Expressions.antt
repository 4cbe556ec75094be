-- Expressions.
use Rattle.std.proofs.Common.{true, false, Bool, ◌≡◌, ℕ, zero, suc, List, [], ◌∷◌, length, refl, ap, sym, ◌∙◌, codes}
use Rattle.std.specs.Prelude.{Option, Some, None, if◌then◌else◌, Ok, Err}
use Rattle.grammar.specs.Kinds.{among}
use Rattle.grammar.specs.Reading.{firsts}
use Rattle.grammar.specs.Grammar.{Tree, tip, pair, both, either, call, token, prefer, line, starts, entry}
use Rattle.js_token.specs.declared.token.Token.{Token}
use Rattle.js_tree.specs.Nodes.{Nodes}
use Rattle.js_tree.specs.declared.node.Node.{Node}
use Rattle.js_tree.specs.declared.node.Node.TheVariants as made
use Rattle.js_tree.specs.declared.node.NodeId.{NodeId}
use Rattle.js_grammar.specs.Kinds.{kinds, unbroken_kinds, mark}
use Rattle.js_grammar.specs.Script.{Rule, heads, any, always, optional, suffix, member_suffix, primary_rule, left_rule, unary_rule}
use Rattle.js_parse.specs.declared.symbol.Symbol.{Symbol}
use Rattle.js_parse.specs.declared.symbol.Symbol.TheVariants as s
use Rattle.js_parse.specs.declared.part.Part.{Part}
use Rattle.js_parse.specs.declared.part.Part.TheVariants as parts
use Rattle.js_parse.specs.declared.part.Found.{Found}
use Rattle.js_parse.specs.Symbols.{of_kind}
use Rattle.js_parse.specs.Operators.{is_prefix, postfix_node}
use Rattle.js_parse.specs.Input.{Parser, Input, and_then, symbol, text, number, place, place_at, next, add, leaf as leaf_of, any_name, refusal, take_token, refuse, pure, peek, ◌<$>◌, ◌>>=◌, ◌>>◌, is_broken}
use Rattle.js_parse.specs.Grammar as g
use Rattle.js_parse.specs.Nesting.{part_at}
use Rattle.parse_laws.specs.Kinds.{numbered}
use Rattle.parse_laws.specs.Trees as mk
use Rattle.parse_laws.specs.Trees.{first_token, Parts, parts_at, place_in, symbol_in, first, second, under, Build}
use Rattle.parse_laws.proofs.Guided.{guided, many_of, Goes, Was, called, done, wrong}
use Rattle.parse_laws.proofs.Sound.{vacant}
use Rattle.parse_laws.proofs.Walk.{language, ahead, rule, told, built, Sim, step, step-so, goes-so, at_kind, at-first, none-at_end}
use Rattle.parse_laws.proofs.Begun.{sim-by, dispatch, tables}
use Rattle.parse_laws.proofs.Steps.{step-same, step-shown, starts-neither, behind-new, open_kinds, sim-by-at, dispatch-or, step-any_name, assoc}
use Rattle.parse_laws.proofs.Loops.{none-first}
use Rattle.parse_laws.proofs.Parted.{Parted}

abbrev pub primary_by : (Part → Parser Found) → Symbol → Parser NodeId
primary_by part s.Name = g.named_leaf
primary_by part s.Of = g.named_leaf
primary_by part s.Get = g.named_leaf
primary_by part s.Set = g.named_leaf
primary_by part s.This = leaf_of made.This
primary_by part s.Null = leaf_of made.Null
primary_by part s.True = leaf_of (made.Bool true)
primary_by part s.False = leaf_of (made.Bool false)
primary_by part s.Number = g.number_leaf
primary_by part s.Text = g.text_leaf
primary_by part s.Template = g.template_leaf
primary_by part s.TemplateHead = g.node_of part parts.Template
primary_by part s.OpenBracket = g.node_of part parts.Array
primary_by part s.OpenBrace = g.node_of part parts.Object
primary_by part s.Function = g.node_of part parts.FunctionExpression
primary_by part s.OpenParen = g.node_of part parts.Group
primary_by part s.New = g.node_of part parts.New
primary_by part _ = refuse

-- but `new`
abbrev pub plain_by : (Part → Parser Found) → Symbol → Parser NodeId
plain_by part s.New = refuse
plain_by part symbol = primary_by part symbol

pub token-takes : (kinds : List ℕ) → vacant {A = Token} (token kinds) ≡ false
unfolding vacant
token-takes kinds = refl

-- Is it a Left alone?
abbrev pub alone_by : Bool → Tree Token → Bool
alone_by true tree = false
alone_by false tree = mk.absent (second tree)

abbrev pub postfix_kinds_of : List ℕ
postfix_kinds_of = unbroken_kinds (mark (codes "++") ∷ mark (codes "--") ∷ [])

abbrev pub suffix_by : (Part → Parser Found) → Bool → ℕ → NodeId → Symbol → Parser (Option NodeId)
suffix_by part calls at left s.Dot = take_token >> (any_name >>= λ text. add (made.Dot left text) at >>= λ id. pure (Some id))
suffix_by part calls at left s.OpenBracket = g.node_of part parts.Index >>= λ index. add (made.Index left index) at >>= λ id. pure (Some id)
suffix_by part true at left s.OpenParen = g.nodes_of part parts.Arguments >>= λ arguments. add (made.Call left arguments) at >>= λ id. pure (Some id)
suffix_by part calls at left _ = pure None

abbrev pub suffix_rule : Bool → Rule
suffix_rule true = suffix
suffix_rule false = member_suffix

module _ (depth : ℕ) (h : Parted depth) where
  abbrev pub primary_built : Symbol → Tree Token → Build NodeId
  primary_built symbol tree = mk.primary_by (parts_at depth) symbol (under tree)

  pub plain-at : (t : Token) (ts : List Token) (ns : Nodes) (symbol : Symbol) (broken : Bool) → of_kind t.kind ≡ symbol → t.broken ≡ broken
      → told (plain_by (part_at depth) symbol (t ∷ ts, ns)) ≡ at_kind depth (numbered symbol broken) primary_rule (t ∷ ts) (built (primary_built symbol) ns)
  unfolding at_kind tables primary_rule text number place next add refusal first_token leaf_of g.named_leaf g.number_leaf g.text_leaf g.template_leaf
  plain-at t ts ns s.TemplateHead false e f = h.template_part t ts ns e ∙ goes-so depth (call 11) (t ∷ ts) _ _ (λ a rest w. refl)
  plain-at t ts ns s.TemplateHead true e f = h.template_part t ts ns e ∙ goes-so depth (call 11) (t ∷ ts) _ _ (λ a rest w. refl)
  plain-at t ts ns s.OpenBracket false e f = step-same h.array_part (t ∷ ts) ns _ (λ a rest. refl)
  plain-at t ts ns s.OpenBracket true e f = step-same h.array_part (t ∷ ts) ns _ (λ a rest. refl)
  plain-at t ts ns s.OpenBrace false e f = step-same h.object_part (t ∷ ts) ns _ (λ a rest. refl)
  plain-at t ts ns s.OpenBrace true e f = step-same h.object_part (t ∷ ts) ns _ (λ a rest. refl)
  plain-at t ts ns s.Function false e f = step-same h.expression_part (t ∷ ts) ns _ (λ a rest. refl)
  plain-at t ts ns s.Function true e f = step-same h.expression_part (t ∷ ts) ns _ (λ a rest. refl)
  plain-at t ts ns s.OpenParen false e f = step-same h.group_part (t ∷ ts) ns _ (λ a rest. refl)
  plain-at t ts ns s.OpenParen true e f = step-same h.group_part (t ∷ ts) ns _ (λ a rest. refl)
  plain-at t ts ns _ false e f = refl
  plain-at t ts ns _ true e f = refl

  pub plain-sim : Sim depth (peek >>= plain_by (part_at depth)) primary_rule (mk.primary (parts_at depth))
  unfolding tables primary_rule refusal mk.primary
  plain-sim = sim-by depth (plain_by (part_at depth)) primary_built primary_rule refl (λ ns. refl) plain-at

  -- ---- suffixes

  abbrev pub Suffixed : Bool → ℕ → ℕ → Type 0
  Suffixed calls at n = (ts : List Token) (ns : Nodes) (left : NodeId) → told (g.suffixes_from (part_at depth) calls at n left (ts, ns))
      ≡ many_of language (among (firsts language.heads (suffix_rule calls))) always (guided language ahead (rule depth) (suffix_rule calls)) n ts (built (mk.suffixes (parts_at depth) at left) ns)

  abbrev pub behind_suffix : Bool → ℕ → ℕ → NodeId → Nodes → Symbol → Goes Token (NodeId × Input)
  behind_suffix calls at n left ns symbol a rest = many_of language (among (firsts language.heads (suffix_rule calls))) always (guided language ahead (rule depth) (suffix_rule calls)) n rest
      (λ d end. let w = mk.suffix_by (parts_at depth) symbol at left a ns in built (mk.suffixes (parts_at depth) at w.0) w.1 d end)

  pub suffix-at : (calls : Bool) (at n : ℕ) (t : Token) (ts : List Token) (ns : Nodes) (left : NodeId) → Suffixed calls at n
      → (symbol : Symbol) (broken : Bool) → of_kind t.kind ≡ symbol → t.broken ≡ broken
      → told (and_then (suffix_by (part_at depth) calls at left symbol (t ∷ ts, ns)) (g.go_on (part_at depth) (g.suffixes_from (part_at depth) calls at n) left))
      ≡ (if among (firsts language.heads (suffix_rule calls)) (numbered symbol broken) then
      at_kind depth (numbered symbol broken) (suffix_rule calls) (t ∷ ts) (behind_suffix calls at n left ns symbol) else Ok (left, (t ∷ ts, ns)))
  unfolding at_kind tables text next add first_token guided
  suffix-at true at n t ts ns left ih s.Dot false e f = assoc (any_name (ts, ns)) _ _ ∙ step-any_name ts ns _ _ (λ u rest. ih rest _ _)
  suffix-at true at n t ts ns left ih s.Dot true e f = assoc (any_name (ts, ns)) _ _ ∙ step-any_name ts ns _ _ (λ u rest. ih rest _ _)
  suffix-at true at n t ts ns left ih s.OpenBracket false e f = assoc (g.node_of (part_at depth) parts.Index (t ∷ ts, ns)) _ _ ∙ step h.index_part (t ∷ ts) ns _ _ (λ a rest. ih rest _ _)
  suffix-at true at n t ts ns left ih s.OpenBracket true e f = assoc (g.node_of (part_at depth) parts.Index (t ∷ ts, ns)) _ _ ∙ step h.index_part (t ∷ ts) ns _ _ (λ a rest. ih rest _ _)
  suffix-at true at n t ts ns left ih s.OpenParen false e f = assoc (g.nodes_of (part_at depth) parts.Arguments (t ∷ ts, ns)) _ _ ∙ step h.arguments_part (t ∷ ts) ns _ _ (λ a rest. ih rest _ _)
  suffix-at true at n t ts ns left ih s.OpenParen true e f = assoc (g.nodes_of (part_at depth) parts.Arguments (t ∷ ts, ns)) _ _ ∙ step h.arguments_part (t ∷ ts) ns _ _ (λ a rest. ih rest _ _)
  suffix-at true at n t ts ns left ih _ false e f = refl
  suffix-at true at n t ts ns left ih _ true e f = refl
  suffix-at false at n t ts ns left ih s.Dot false e f = assoc (any_name (ts, ns)) _ _ ∙ step-any_name ts ns _ _ (λ u rest. ih rest _ _)
  suffix-at false at n t ts ns left ih s.Dot true e f = assoc (any_name (ts, ns)) _ _ ∙ step-any_name ts ns _ _ (λ u rest. ih rest _ _)
  suffix-at false at n t ts ns left ih s.OpenBracket false e f = assoc (g.node_of (part_at depth) parts.Index (t ∷ ts, ns)) _ _ ∙ step h.index_part (t ∷ ts) ns _ _ (λ a rest. ih rest _ _)
  suffix-at false at n t ts ns left ih s.OpenBracket true e f = assoc (g.node_of (part_at depth) parts.Index (t ∷ ts, ns)) _ _ ∙ step h.index_part (t ∷ ts) ns _ _ (λ a rest. ih rest _ _)
  suffix-at false at n t ts ns left ih _ false e f = refl
  suffix-at false at n t ts ns left ih _ true e f = refl

  pub suffixes-loop : (calls : Bool) (at n : ℕ) → Suffixed calls at n
  unfolding g.suffixes_from g.suffix many_of mk.suffixes symbol tables
  suffixes-loop calls at zero ts ns left = refl
  suffixes-loop true at (suc n) [] ns left = refl
  suffixes-loop false at (suc n) [] ns left = refl
  suffixes-loop true at (suc n) (t ∷ ts) ns left = dispatch-or depth (suffix_rule true) refl t ts (behind_suffix true at n left ns) (Ok (left, (t ∷ ts, ns)))
      (λ symbol. told (and_then (suffix_by (part_at depth) true at left symbol (t ∷ ts, ns)) (g.go_on (part_at depth) (g.suffixes_from (part_at depth) true at n) left)))
      (suffix-at true at n t ts ns left (suffixes-loop true at n))
  suffixes-loop false at (suc n) (t ∷ ts) ns left = dispatch-or depth (suffix_rule false) refl t ts (behind_suffix false at n left ns) (Ok (left, (t ∷ ts, ns)))
      (λ symbol. told (and_then (suffix_by (part_at depth) false at left symbol (t ∷ ts, ns)) (g.go_on (part_at depth) (g.suffixes_from (part_at depth) false at n) left)))
      (suffix-at false at n t ts ns left (suffixes-loop false at n))

  pub suffixes-sim : (calls : Bool) (at : ℕ) (left : NodeId) → Sim depth (g.suffixes (part_at depth) calls at left) (any (suffix_rule calls)) (mk.suffixes (parts_at depth) at left)
  unfolding g.suffixes guided
  suffixes-sim calls at left = record { holds = λ ts ns. suffixes-loop calls at (length ts) ts ns left }

  -- ---- Member and Left

  abbrev pub sided_rule : Bool → Rule
  sided_rule calls = either (both (call 13) (prefer (kinds (mark (codes "(") ∷ [])) (both (call 14) (any (suffix_rule calls))))) (both (line 27 primary_rule) (any (suffix_rule calls)))

  abbrev pub sided_built : ℕ → Symbol → Tree Token → Build NodeId
  sided_built at symbol = mk.sided_by (parts_at depth) symbol at

  pub suffix-off : (mid : List Token) → starts language (among (firsts language.heads member_suffix)) mid ≡ false → starts language (among open_kinds) mid ≡ false
      → starts language (among (firsts language.heads (suffix_rule true))) mid ≡ false
  unfolding firsts entry heads
  suffix-off mid o p = starts-neither open_kinds (firsts language.heads member_suffix) mid p o

  pub called-is : (w : Was Token) {q : Tree Token × List Token} → called w done ≡ Ok q → w ≡ Ok q
  called-is (Err d) e = absurd (cc (e))
  called-is (Ok p) e = e

  pub no-suffix : (calls : Bool) (n : ℕ) (mid : List Token) (k : Goes Token (NodeId × Input)) → starts language (among (firsts language.heads member_suffix)) mid ≡ false
      → starts language (among open_kinds) mid ≡ false
      → many_of language (among (firsts language.heads (suffix_rule calls))) always (guided language ahead (rule depth) (suffix_rule calls)) n mid k ≡ k tip mid
  unfolding many_of
  no-suffix calls zero mid k o p = refl
  no-suffix true (suc n) mid k o p = let off = suffix-off mid o p in rw off refl
  no-suffix false (suc n) mid k o p = rw o refl

  -- where nothing follows
  pub new-alone : (calls : Bool) (at : ℕ) (a : Tree Token) (mid : List Token) (ns : Nodes) → starts language (among (firsts language.heads member_suffix)) mid ≡ false
      → starts language (among open_kinds) mid ≡ false
      → (let w = (parts_at depth).node_of parts.New (pair a tip) ns in told (g.suffixes (part_at depth) calls at w.0 (mid, w.1))) ≡ built (sided_built at s.New) ns (pair a tip) mid
  unfolding mk.suffixes guided
  new-alone calls at a mid ns o p =
      (suffixes-sim calls at _).holds mid _ ∙ no-suffix calls (length mid) mid _ o p

  pub new-at : (calls : Bool) (at : ℕ) (t : Token) (ts : List Token) (ns : Nodes)
      → told (and_then (g.node_of (part_at depth) parts.New (t ∷ ts, ns)) (g.suffixes (part_at depth) calls at))
      ≡ guided language ahead (rule depth) (both (call 13) (prefer (kinds (mark (codes "(") ∷ [])) (both (call 14) (any (suffix_rule calls))))) (t ∷ ts) (built (sided_built at s.New) ns)
  unfolding guided
  new-at calls at t ts ns =
      step h.new_part (t ∷ ts) ns (g.suffixes (part_at depth) calls at)
      (λ tree rest. let w = (parts_at depth).node_of parts.New tree ns in told (g.suffixes (part_at depth) calls at w.0 (rest, w.1))) (λ tree rest. refl)
      ∙ goes-so depth (call 13) (t ∷ ts) _ _ (λ a mid e. by a mid (starts language (among open_kinds) mid) refl e)
    where
      by : (a : Tree Token) (mid : List Token) (b : Bool) → starts language (among open_kinds) mid ≡ b → guided language ahead (rule depth) (call 13) (t ∷ ts) done ≡ Ok (a, mid)
          → (if b then guided language ahead (rule depth) (call 14) mid (λ c rest. let w = (parts_at depth).node_of parts.New (pair a c) ns in told (g.suffixes (part_at depth) calls at w.0 (rest, w.1)))
          else (let w = (parts_at depth).node_of parts.New (pair a tip) ns in told (g.suffixes (part_at depth) calls at w.0 (mid, w.1))))
          ≡ (if b then guided language ahead (rule depth) (call 14) mid (λ c rest. guided language ahead (rule depth) (any (suffix_rule calls)) rest (λ m end. built (sided_built at s.New) ns (pair a (pair c m)) end))
          else built (sided_built at s.New) ns (pair a tip) mid)
      by a mid true o e = goes-so depth (call 14) mid _ _ (λ c rest e. step-same (suffixes-sim calls at _) rest _ _ (λ m end. refl))
      by a mid false o e = new-alone calls at a mid ns (behind-new depth (t ∷ ts) mid a (called-is (rule depth 13 (t ∷ ts)) e) o) o

  pub sided-at : (calls : Bool) (at : ℕ) (t : Token) (ts : List Token) (ns : Nodes) (symbol : Symbol) (broken : Bool) → of_kind t.kind ≡ symbol → t.broken ≡ broken
      → told (and_then (primary_by (part_at depth) symbol (t ∷ ts, ns)) (g.suffixes (part_at depth) calls at))
      ≡ at_kind depth (numbered symbol broken) (sided_rule calls) (t ∷ ts) (built (sided_built at symbol) ns)
  unfolding at_kind tables guided
  sided-at calls at t ts ns s.New false e f = new-at calls at t ts ns
  sided-at calls at t ts ns s.New true e f = new-at calls at t ts ns
  sided-at calls at t ts ns _ false e f = ap (λ s. told (and_then (plain_by (part_at depth) s (t ∷ ts, ns)) (g.suffixes (part_at depth) calls at))) (sym e)
      ∙ step-shown (plain_by (part_at depth)) plain-sim t ts ns _ _ (λ a mid. step-same (suffixes-sim calls at _) mid _ _ (λ m rest. refl))
  sided-at calls at t ts ns _ true e f = ap (λ s. told (and_then (plain_by (part_at depth) s (t ∷ ts, ns)) (g.suffixes (part_at depth) calls at))) (sym e)
      ∙ step-shown (plain_by (part_at depth)) plain-sim t ts ns _ _ (λ a mid. step-same (suffixes-sim calls at _) mid _ _ (λ m rest. refl))

  pub sided-takes : (calls : Bool) → vacant (sided_rule calls) ≡ false
  unfolding vacant primary_rule
  sided-takes calls = refl

  -- Primary and what follows it, at a place
  pub sided-placed : (calls : Bool) (at : ℕ) (ts : List Token) (ns : Nodes) → told (and_then (g.primary (part_at depth) (ts, ns)) (g.suffixes (part_at depth) calls at))
      ≡ guided language ahead (rule depth) (sided_rule calls) ts (built (λ tree. sided_built at (symbol_in tree) tree) ns)
  unfolding g.primary symbol tables
  sided-placed calls at [] ns = sym (none-at_end depth (sided_rule calls) (sided-takes calls) _)
  sided-placed calls at (t ∷ ts) ns =
      dispatch depth (λ symbol i. and_then (primary_by (part_at depth) symbol i) (g.suffixes (part_at depth) calls at)) (sided_built at) (sided_rule calls) (sided-takes calls) t ts ns (sided-at calls at t ts ns)

  pub sided-sim : (calls : Bool) → Sim depth (λ i. and_then (g.primary (part_at depth) i) (g.suffixes (part_at depth) calls (place i))) (sided_rule calls) (mk.sided (parts_at depth))
  unfolding place mk.sided
  sided-sim calls = record {
    holds = λ ts ns. sided-placed calls (place_at ts) ts ns
        ∙ at-first depth (λ at tree. sided_built at (symbol_in tree) tree) (sided_rule calls) (sided-takes calls) ts ns;
  }

  pub left-takes : vacant left_rule ≡ false
  unfolding left_rule primary_rule vacant
  left-takes = refl

  pub left-sim : Sim depth (g.left_side (part_at depth)) left_rule (λ tree. mk.sided (parts_at depth) (under tree))
  unfolding g.left_side left_rule guided
  left-sim = record { holds = λ ts ns. step-same (sided-sim true) ts ns _ (λ a rest. refl) }

  -- ---- operators

  abbrev pub postfixed : NodeId → ℕ → Option Node → Parser (NodeId × Bool)
  postfixed left at None = pure (left, true)
  postfixed left at (Some update) = take_token >> (add update at >>= λ id. pure (id, false))

  abbrev pub unary_built : ℕ → Symbol → Tree Token → Build (NodeId × Bool)
  unary_built at symbol tree ns = mk.after (mk.unary_by (parts_at depth) (is_prefix symbol) at (under tree) ns) (λ id ns. ((id, alone_by (is_prefix symbol) (under tree)), ns))

  abbrev pub postfix_kinds : List ℕ
  postfix_kinds = unbroken_kinds (mark (codes "++") ∷ mark (codes "--") ∷ [])

  abbrev pub behind_left : ℕ → NodeId → Nodes → Symbol → Goes Token ((NodeId × Bool) × Input)
  behind_left at left ns symbol tree rest =
      let w = mk.added_if left (postfix_node symbol left) at ns in Ok ((w.0, mk.absent tree), (rest, w.1))

  pub postfixed-at : (at : ℕ) (left : NodeId) (ns : Nodes) (t : Token) (ts : List Token) (symbol : Symbol) (broken : Bool) → of_kind t.kind ≡ symbol → t.broken ≡ broken
      → told (postfixed left at (if t.broken then None else postfix_node symbol left) (t ∷ ts, ns))
      ≡ (if among (firsts {A = Token} language.heads (token postfix_kinds)) (numbered symbol broken) then at_kind depth (numbered symbol broken) (token postfix_kinds) (t ∷ ts) (behind_left at left ns symbol)
      else Ok ((left, true), (t ∷ ts, ns)))
  unfolding at_kind tables next add first_token
  postfixed-at at left ns t ts s.Increment false e f = ap (λ b. told (postfixed left at (if b then None else postfix_node s.Increment left) (t ∷ ts, ns))) f
  postfixed-at at left ns t ts s.Increment true e f = ap (λ b. told (postfixed left at (if b then None else postfix_node s.Increment left) (t ∷ ts, ns))) f
  postfixed-at at left ns t ts s.Decrement false e f = ap (λ b. told (postfixed left at (if b then None else postfix_node s.Decrement left) (t ∷ ts, ns))) f
  postfixed-at at left ns t ts s.Decrement true e f = ap (λ b. told (postfixed left at (if b then None else postfix_node s.Decrement left) (t ∷ ts, ns))) f
  postfixed-at at left ns t ts x false e f = ap (λ b. told (postfixed left at (if b then None else postfix_node x left) (t ∷ ts, ns))) f
  postfixed-at at left ns t ts x true e f = ap (λ b. told (postfixed left at (if b then None else postfix_node x left) (t ∷ ts, ns))) f

  pub postfixed-step : (at : ℕ) (left : NodeId) (ns : Nodes) (ts : List Token)
      → told (postfixed left at (if is_broken (ts, ns) then None else postfix_node (symbol (ts, ns)) left) (ts, ns))
      ≡ guided language ahead (rule depth) (optional (token postfix_kinds)) ts (λ tree rest. behind_left at left ns (symbol_in tree) tree rest)
  unfolding guided is_broken symbol first_token
  postfixed-step at left ns [] = refl
  postfixed-step at left ns (t ∷ ts) = dispatch-or depth (token postfix_kinds) (token-takes postfix_kinds) t ts (behind_left at left ns) (Ok ((left, true), (t ∷ ts, ns)))
      (λ symbol. told (postfixed left at (if t.broken then None else postfix_node symbol left) (t ∷ ts, ns))) (postfixed-at at left ns t ts)

  pub postfix-at : (t : Token) (ts : List Token) (ns : Nodes)
      → told (g.postfix (part_at depth) (t ∷ ts, ns)) ≡ guided language ahead (rule depth) (both (line 29 left_rule) (optional (token postfix_kinds))) (t ∷ ts)
      (λ tree rest. let w = mk.after (mk.sided (parts_at depth) (under (first tree)) ns) (λ left. mk.added_if left (postfix_node (symbol_in (second tree)) left) t.place) in
      Ok ((w.0, mk.absent (second tree)), (rest, w.1)))
  unfolding g.postfix guided place
  postfix-at t ts ns = step left-sim (t ∷ ts) ns _ _ (λ a mid. postfixed-step t.place _ _ mid)

  abbrev pub unary_by : Bool → Parser (NodeId × Bool)
  unary_by before = if before then (λ id. (id, false)) <$> g.node_of (part_at depth) parts.Unary else g.postfix (part_at depth)

  pub unary-at : (t : Token) (ts : List Token) (ns : Nodes) (symbol : Symbol) (broken : Bool) → of_kind t.kind ≡ symbol → t.broken ≡ broken
      → told (unary_by (is_prefix symbol) (t ∷ ts, ns)) ≡ at_kind depth (numbered symbol broken) unary_rule (t ∷ ts) (built (unary_built t.place symbol) ns)
  unfolding at_kind tables unary_rule guided
  unary-at t ts ns s.Not false e f = step-so depth _ (call 12) ((parts_at depth).node_of parts.Unary) (t ∷ ts) ns _ _ (h.unary_part t ts ns (ap (λ s. is_prefix s) e)) (λ a rest. refl)
  unary-at t ts ns s.Not true e f = step-so depth _ (call 12) ((parts_at depth).node_of parts.Unary) (t ∷ ts) ns _ _ (h.unary_part t ts ns (ap (λ s. is_prefix s) e)) (λ a rest. refl)
  unary-at t ts ns s.BitNot false e f = step-so depth _ (call 12) ((parts_at depth).node_of parts.Unary) (t ∷ ts) ns _ _ (h.unary_part t ts ns (ap (λ s. is_prefix s) e)) (λ a rest. refl)
  unary-at t ts ns s.BitNot true e f = step-so depth _ (call 12) ((parts_at depth).node_of parts.Unary) (t ∷ ts) ns _ _ (h.unary_part t ts ns (ap (λ s. is_prefix s) e)) (λ a rest. refl)
  unary-at t ts ns s.Plus false e f = step-so depth _ (call 12) ((parts_at depth).node_of parts.Unary) (t ∷ ts) ns _ _ (h.unary_part t ts ns (ap (λ s. is_prefix s) e)) (λ a rest. refl)
  unary-at t ts ns s.Plus true e f = step-so depth _ (call 12) ((parts_at depth).node_of parts.Unary) (t ∷ ts) ns _ _ (h.unary_part t ts ns (ap (λ s. is_prefix s) e)) (λ a rest. refl)
  unary-at t ts ns s.Minus false e f = step-so depth _ (call 12) ((parts_at depth).node_of parts.Unary) (t ∷ ts) ns _ _ (h.unary_part t ts ns (ap (λ s. is_prefix s) e)) (λ a rest. refl)
  unary-at t ts ns s.Minus true e f = step-so depth _ (call 12) ((parts_at depth).node_of parts.Unary) (t ∷ ts) ns _ _ (h.unary_part t ts ns (ap (λ s. is_prefix s) e)) (λ a rest. refl)
  unary-at t ts ns s.Typeof false e f = step-so depth _ (call 12) ((parts_at depth).node_of parts.Unary) (t ∷ ts) ns _ _ (h.unary_part t ts ns (ap (λ s. is_prefix s) e)) (λ a rest. refl)
  unary-at t ts ns s.Typeof true e f = step-so depth _ (call 12) ((parts_at depth).node_of parts.Unary) (t ∷ ts) ns _ _ (h.unary_part t ts ns (ap (λ s. is_prefix s) e)) (λ a rest. refl)
  unary-at t ts ns s.Void false e f = step-so depth _ (call 12) ((parts_at depth).node_of parts.Unary) (t ∷ ts) ns _ _ (h.unary_part t ts ns (ap (λ s. is_prefix s) e)) (λ a rest. refl)
  unary-at t ts ns s.Void true e f = step-so depth _ (call 12) ((parts_at depth).node_of parts.Unary) (t ∷ ts) ns _ _ (h.unary_part t ts ns (ap (λ s. is_prefix s) e)) (λ a rest. refl)
  unary-at t ts ns s.Delete false e f = step-so depth _ (call 12) ((parts_at depth).node_of parts.Unary) (t ∷ ts) ns _ _ (h.unary_part t ts ns (ap (λ s. is_prefix s) e)) (λ a rest. refl)
  unary-at t ts ns s.Delete true e f = step-so depth _ (call 12) ((parts_at depth).node_of parts.Unary) (t ∷ ts) ns _ _ (h.unary_part t ts ns (ap (λ s. is_prefix s) e)) (λ a rest. refl)
  unary-at t ts ns s.Increment false e f = step-so depth _ (call 12) ((parts_at depth).node_of parts.Unary) (t ∷ ts) ns _ _ (h.unary_part t ts ns (ap (λ s. is_prefix s) e)) (λ a rest. refl)
  unary-at t ts ns s.Increment true e f = step-so depth _ (call 12) ((parts_at depth).node_of parts.Unary) (t ∷ ts) ns _ _ (h.unary_part t ts ns (ap (λ s. is_prefix s) e)) (λ a rest. refl)
  unary-at t ts ns s.Decrement false e f = step-so depth _ (call 12) ((parts_at depth).node_of parts.Unary) (t ∷ ts) ns _ _ (h.unary_part t ts ns (ap (λ s. is_prefix s) e)) (λ a rest. refl)
  unary-at t ts ns s.Decrement true e f = step-so depth _ (call 12) ((parts_at depth).node_of parts.Unary) (t ∷ ts) ns _ _ (h.unary_part t ts ns (ap (λ s. is_prefix s) e)) (λ a rest. refl)
  unary-at t ts ns _ false e f = postfix-at t ts ns
  unary-at t ts ns _ true e f = postfix-at t ts ns

  pub unary-takes : vacant unary_rule ≡ false
  unfolding unary_rule left_rule primary_rule vacant
  unary-takes = refl

  pub postfix-end : (ns : Nodes) → told (g.postfix (part_at depth) ([], ns)) ≡ Err (wrong [])
  unfolding g.postfix
  postfix-end ns = none-first (g.left_side (part_at depth) ([], ns)) _ (left-sim.holds [] ns ∙ none-at_end depth left_rule left-takes _)

  -- an operand with an operator before or behind it, and whether it is a Left alone
  pub unary-sim : Sim depth (g.unary (part_at depth)) unary_rule (λ tree. unary_built (place_in tree) (symbol_in tree) tree)
  unfolding g.unary
  unary-sim = sim-by-at depth (λ symbol. unary_by (is_prefix symbol)) unary_built unary_rule unary-takes postfix-end unary-at
