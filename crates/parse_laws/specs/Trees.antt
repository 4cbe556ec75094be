-- The list of nodes that a derivation stands for (ECMA-262, 5.1.4, 13 to 16): each child before its parent, each node with the byte offset of its first token.
-- Which of several right sides a part was derived by, its first token tells.
use Rattle.std.specs.Prelude.{ℕ, zero, suc, Bool, true, false, if◌then◌else◌, List, [], ◌∷◌, ◌++◌, length, Option, Some, None, is_none, ℤ, pos}
use Rattle.grammar.specs.Grammar.{Tree, tip, leaf, pair, node}
use Rattle.js_token.specs.declared.token.Token.{Token}
use Rattle.js_tree.specs.Nodes.{Nodes}
use Rattle.js_tree.specs.declared.node.Node.{Node}
use Rattle.js_tree.specs.declared.node.Node.TheVariants as made
use Rattle.js_tree.specs.declared.node.NodeId.{NodeId}
use Rattle.js_tree.specs.declared.node.Declarator.{Declarator}
use Rattle.js_tree.specs.declared.node.BindElement.{BindElement}
use Rattle.js_tree.specs.declared.node.BindProperty.{BindProperty}
use Rattle.js_tree.specs.declared.node.Function.{Function}
use Rattle.js_tree.specs.declared.node.PropertyKey.{PropertyKey}
use Rattle.js_tree.specs.declared.node.PropertyKey.TheVariants as key
use Rattle.js_tree.specs.declared.node.BinaryOperator.{BinaryOperator}
use Rattle.js_parse.specs.declared.symbol.Symbol.{Symbol}
use Rattle.js_parse.specs.declared.symbol.Symbol.TheVariants as s
use Rattle.js_parse.specs.declared.operators.Infix.{Infix}
use Rattle.js_parse.specs.declared.part.Part.{Part}
use Rattle.js_parse.specs.declared.part.Part.TheVariants as parts
use Rattle.js_parse.specs.declared.part.Parameters.{Parameters}
use Rattle.js_parse.specs.declared.part.Head.{Head}
use Rattle.js_parse.specs.declared.part.Head.TheVariants as head
use Rattle.js_parse.specs.Symbols.{of_kind}
use Rattle.js_parse.specs.Operators.{is_prefix, prefix_node, postfix_node, infix_of, infix_node, assign_operator, assign_node}
use Rattle.js_parse.specs.Input.{text_of, number_of}
use Rattle.js_parse.specs.Grammar.{function_of, one_parameter, number_key, begins_key}
use Rattle.js_parse.specs.Statements.{declaration_node, for_node}

-- ---- trees

abbrev pub one_of : {A : Type 0} → Option A → Option A → Option A
one_of None other = other
one_of (Some t) other = Some t

-- the first token of a tree, if it has any
unfoldable pub first_token : {A : Type 0} → Tree A → Option A
first_token tip = None
first_token (leaf t) = Some t
first_token (pair a b) = one_of (first_token a) (first_token b)
first_token (node name a) = first_token a

abbrev pub absent : Tree Token → Bool
absent tree = is_none (first_token tree)

abbrev pub symbol_of_first : Option Token → Symbol
symbol_of_first None = s.End
symbol_of_first (Some t) = of_kind t.kind

abbrev pub place_of_first : Option Token → ℕ
place_of_first None = 0
place_of_first (Some t) = t.place

abbrev pub text_of_first : Option Token → List ℕ
text_of_first None = []
text_of_first (Some t) = text_of t.kind

abbrev pub number_of_first : Option Token → ℤ
number_of_first None = pos 0
number_of_first (Some t) = number_of t.kind

-- of its first token
abbrev pub symbol_in : Tree Token → Symbol
symbol_in tree = symbol_of_first (first_token tree)

abbrev pub place_in : Tree Token → ℕ
place_in tree = place_of_first (first_token tree)

abbrev pub text_in : Tree Token → List ℕ
text_in tree = text_of_first (first_token tree)

abbrev pub number_in : Tree Token → ℤ
number_in tree = number_of_first (first_token tree)

-- the parts of a pair, and what stands under a node
abbrev pub first : {A : Type 0} → Tree A → Tree A
first (pair a b) = a
first _ = tip

abbrev pub second : {A : Type 0} → Tree A → Tree A
second (pair a b) = b
second _ = tip

abbrev pub under : {A : Type 0} → Tree A → Tree A
under (node name a) = a
under _ = tip

-- ---- nodes behind those so far

abbrev pub is_rest : Tree Token → Bool
is_rest (node name a) = true
is_rest _ = false

abbrev pub Build : Type 0 → Type 0
Build A = Nodes → A × Nodes

abbrev pub after : {A B : Type 0} → A × Nodes → (A → Build B) → B × Nodes
after p f = f p.0 p.1

infixl 10 ◌>>=◌
abbrev pub ◌>>=◌ : {A B : Type 0} → Build A → (A → Build B) → Build B
m >>= f = λ nodes. after (m nodes) f

abbrev pub pure : {A : Type 0} → A → Build A
pure a = λ nodes. (a, nodes)

infixr 11 ◌<$>◌
abbrev pub ◌<$>◌ : {A B : Type 0} → (A → B) → Build A → Build B
f <$> m = m >>= (λ x. pure (f x))

abbrev pub added : Node → ℕ → Build NodeId
added made at = λ nodes. (record { 0 = length nodes }, nodes ++ (made, at) ∷ [])

-- a node, or what it would be made of
abbrev pub added_if : NodeId → Option Node → ℕ → Build NodeId
added_if other None at = pure other
added_if other (Some made) at = added made at

-- what may be left out
abbrev pub maybe : {A : Type 0} → (Tree Token → Build A) → Tree Token → Build (Option A)
maybe build tree = if absent tree then pure None else Some <$> build tree

-- ---- lists

-- behind a member: a comma and a member each, but for a comma at the end
unfoldable pub members_behind : {A : Type 0} → (Tree Token → Build A) → List A → Tree Token → Build (List A)
members_behind build found (pair m rest) = if absent (second m) then pure found else (do
  x ← build (second m)
  members_behind build (found ++ x ∷ []) rest)
members_behind build found _ = pure found

unfoldable pub listed : {A : Type 0} → (Tree Token → Build A) → Tree Token → Build (List A)
listed build tree = if absent tree then pure [] else (do
  x ← build (first tree)
  members_behind build (x ∷ []) (second tree))

-- one behind the other
unfoldable pub all_behind : {A : Type 0} → (Tree Token → Build A) → List A → Tree Token → Build (List A)
all_behind build found (pair m rest) = do
  x ← build m
  all_behind build (found ++ x ∷ []) rest
all_behind build found _ = pure found

-- operands with operators between, grouped from the left
abbrev pub joined : NodeId → Option Infix → NodeId → ℕ → Build NodeId
joined left None right at = pure left
joined left (Some operator) right at = added (infix_node operator left right) at

unfoldable pub chain : (Tree Token → Build NodeId) → ℕ → NodeId → Tree Token → Build NodeId
chain build at left (pair m rest) = do
  right ← build (second m)
  longer ← joined left (infix_of (symbol_in m)) right at
  chain build at longer rest
chain build at left _ = pure left

-- ---- the rules that nest

-- how each is read
pub record Parts : Type 0 where
  pub node_of : Part → Tree Token → Build NodeId
  pub arguments_of : Tree Token → Build (List NodeId)
  pub parameters_of : Part → Tree Token → Build Parameters
  pub function_in : Part → Tree Token → Build Function
  pub head_of : Tree Token → Build Head

unfoldable pub bind_name : Tree Token → Build NodeId
bind_name tree = added (made.BindName (text_in tree)) (place_in tree)

module _ (part : Parts) where
  -- ---- bindings

  abbrev pub bind_by : Symbol → Tree Token → Build NodeId
  bind_by s.OpenBrace tree = part.node_of parts.Pattern tree
  bind_by s.OpenBracket tree = part.node_of parts.Pattern tree
  bind_by _ tree = bind_name tree

  unfoldable pub bind : Tree Token → Build NodeId
  bind tree = bind_by (symbol_in tree) tree

  unfoldable pub default_value : Tree Token → Build (Option NodeId)
  default_value = maybe (λ t. part.node_of (parts.Right true) (second t))

  unfoldable pub bind_element : Tree Token → Build BindElement
  bind_element tree = do
    target ← bind (first tree)
    value ← default_value (second tree)
    pure (record { bind = target; default = value })

  -- behind a key
  unfoldable pub bind_under : List ℕ → ℕ → Tree Token → Build NodeId
  bind_under text at tree = if absent tree then added (made.BindName text) at else bind (second tree)

  unfoldable pub bind_property : Tree Token → Build BindProperty
  bind_property tree = do
    target ← bind_under (text_in tree) (place_in tree) (second (first tree))
    value ← default_value (second tree)
    pure (record { key = text_in tree; bind = target; default = value })

  abbrev pub pattern_by : Symbol → Tree Token → Build NodeId
  pattern_by s.OpenBrace tree = listed bind_property (first (second tree)) >>= λ members. added (made.BindObject members) (place_in tree)
  pattern_by _ tree = listed bind_element (first (second tree)) >>= λ members. added (made.BindArray members) (place_in tree)

  unfoldable pub pattern : Tree Token → Build NodeId
  pattern tree = pattern_by (symbol_in tree) tree

  -- ---- parameters

  abbrev pub rest_of : List BindElement → Tree Token → Build Parameters
  rest_of found tree = (λ bound. record { list = found; rest = Some bound }) <$> bind_name (second (under tree))

  unfoldable pub parameters_behind : List BindElement → Tree Token → Build Parameters
  parameters_behind found (pair m others) = if absent (second m) then pure (record { list = found; rest = None }) else (
      if is_rest (second m) then rest_of found (second m) else (do
        x ← bind_element (second m)
        parameters_behind (found ++ x ∷ []) others))
  parameters_behind found _ = pure (record { list = found; rest = None })

  unfoldable pub parameter_list : Tree Token → Build Parameters
  parameter_list tree = if absent tree then pure (record { list = []; rest = None }) else (
      if is_rest (first tree) then rest_of [] (first tree) else (do
        x ← bind_element (first tree)
        parameters_behind (x ∷ []) (second tree)))

  unfoldable pub parameters : Tree Token → Build Parameters
  parameters tree = parameter_list (first (second tree))

  -- "(" Bind ")"
  unfoldable pub catch_bind : Tree Token → Build NodeId
  catch_bind tree = bind (first (second tree))

  unfoldable pub setter_parameter : Tree Token → Build Parameters
  setter_parameter tree = one_parameter <$> catch_bind tree

  -- ---- expressions without operators

  abbrev pub primary_by : Symbol → Tree Token → Build NodeId
  primary_by s.This tree = added made.This (place_in tree)
  primary_by s.Null tree = added made.Null (place_in tree)
  primary_by s.True tree = added (made.Bool true) (place_in tree)
  primary_by s.False tree = added (made.Bool false) (place_in tree)
  primary_by s.Number tree = added (made.Num (number_in tree)) (place_in tree)
  primary_by s.Text tree = added (made.Str (text_in tree)) (place_in tree)
  primary_by s.Template tree = added (made.Template (text_in tree ∷ []) []) (place_in tree)
  primary_by s.TemplateHead tree = part.node_of parts.Template tree
  primary_by s.OpenBracket tree = part.node_of parts.Array tree
  primary_by s.OpenBrace tree = part.node_of parts.Object tree
  primary_by s.Function tree = part.node_of parts.FunctionExpression tree
  primary_by s.OpenParen tree = part.node_of parts.Group tree
  primary_by _ tree = added (made.Name (text_in tree)) (place_in tree)

  unfoldable pub primary : Tree Token → Build NodeId
  primary tree = primary_by (symbol_in tree) (under tree)

  -- "." AnyName | "[" Expr "]" | Args
  abbrev pub suffix_by : Symbol → ℕ → NodeId → Tree Token → Build NodeId
  suffix_by s.Dot at left tree = added (made.Dot left (text_in (second tree))) at
  suffix_by s.OpenBracket at left tree = part.node_of parts.Index tree >>= λ index. added (made.Index left index) at
  suffix_by _ at left tree = part.arguments_of tree >>= λ arguments. added (made.Call left arguments) at

  unfoldable pub suffixes : ℕ → NodeId → Tree Token → Build NodeId
  suffixes at left (pair m rest) = suffix_by (symbol_in m) at left m >>= λ longer. suffixes at longer rest
  suffixes at left _ = pure left

  -- Behind `new` and its Member stand its arguments, if any.
  abbrev pub sided_by : Symbol → ℕ → Tree Token → Build NodeId
  sided_by s.New at tree = part.node_of parts.New (pair (first tree) (first (second tree))) >>= λ call. suffixes at call (second (second tree))
  sided_by _ at tree = primary (first tree) >>= λ call. suffixes at call (second tree)

  -- Member, and Left
  unfoldable pub sided : Tree Token → Build NodeId
  sided tree = sided_by (symbol_in tree) (place_in tree) tree

  abbrev pub new_arguments : Tree Token → Build (List NodeId)
  new_arguments tree = if absent tree then pure [] else part.arguments_of tree

  -- "new" Member, with its arguments
  unfoldable pub new_call : Tree Token → Build NodeId
  new_call tree = do
    callee ← sided (second (first tree))
    arguments ← new_arguments (second tree)
    added (made.New callee arguments) (place_in tree)

  -- ---- operators

  abbrev pub unary_by : Bool → ℕ → Tree Token → Build NodeId
  unary_by true at tree = part.node_of parts.Unary tree
  unary_by false at tree = sided (under (first tree)) >>= λ left. added_if left (postfix_node (symbol_in (second tree)) left) at

  unfoldable pub unary : Tree Token → Build NodeId
  unary tree = unary_by (is_prefix (symbol_in tree)) (place_in tree) (under tree)

  unfoldable pub prefix : Tree Token → Build NodeId
  prefix tree = unary (second tree) >>= λ operand. added_if operand (prefix_node (symbol_in tree) operand) (place_in tree)

  -- operands with operators of that level and below, at a place
  unfoldable pub operand_at : ℕ → ℕ → Tree Token → Build NodeId
  operand_at zero at tree = unary tree
  operand_at (suc n) at tree = operand_at n at (first (under tree)) >>= λ left. chain (λ t. operand_at n (place_in t) t) at left (second (under tree))

  unfoldable pub operand : ℕ → Tree Token → Build NodeId
  operand n tree = operand_at n (place_in tree) tree

  unfoldable pub short_at : ℕ → Tree Token → Build NodeId
  short_at at tree = operand_at 10 at (first (under tree)) >>= λ left. chain (operand 8) at left (second (under tree))

  -- "Op Assign", or "? Assign : Assign"
  abbrev pub assigned : Option (Option BinaryOperator) → ℕ → NodeId → Tree Token → Build NodeId
  assigned (Some operator) at left tree = part.node_of (parts.Right true) (second tree) >>= λ value. added (assign_node operator left value) at
  assigned None at left tree = do
    then_part ← part.node_of (parts.Right true) (first (second tree))
    else_part ← part.node_of (parts.Right true) (second (second (second tree)))
    added (made.Cond left then_part else_part) at

  unfoldable pub conditional_at : ℕ → Tree Token → Build NodeId
  conditional_at at tree = do
    left ← short_at at (first (under tree))
    if absent (second (under tree)) then pure left
        else assigned (assign_operator (symbol_in (second (under tree)))) at left (second (under tree))

  abbrev pub arrow_by : Symbol → Tree Token → Build NodeId
  arrow_by s.OpenParen tree = do
    list ← part.parameters_of parts.Parameters (first tree)
    body ← part.node_of (parts.ArrowBody true) (second tree)
    added (made.Arrow (function_of list body)) (place_in tree)
  arrow_by _ tree = do
    bound ← bind_name (first tree)
    body ← part.node_of (parts.ArrowBody true) (second tree)
    added (made.Arrow (function_of (one_parameter bound) body)) (place_in tree)

  abbrev pub assign_in : Tree Token → Build NodeId
  assign_in (node name a) = conditional_at (place_in (node name a)) (node name a)
  assign_in tree = arrow_by (symbol_in tree) tree

  unfoldable pub assign : Tree Token → Build NodeId
  assign tree = assign_in (under tree)

  unfoldable pub sequence : ℕ → NodeId → Tree Token → Build NodeId
  sequence at left (pair m rest) = do
    next ← assign (second m)
    longer ← added (made.Seq left next) at
    sequence at longer rest
  sequence at left _ = pure left

  unfoldable pub expression : Tree Token → Build NodeId
  expression tree = assign (first (under tree)) >>= λ left. sequence (place_in tree) left (second (under tree))

  abbrev pub arrow_body_by : Symbol → Tree Token → Build NodeId
  arrow_body_by s.OpenBrace tree = part.node_of parts.Block tree
  arrow_body_by _ tree = assign tree

  unfoldable pub arrow_body : Tree Token → Build NodeId
  arrow_body tree = arrow_body_by (symbol_in (second tree)) (second tree)

  -- ---- brackets and literals

  unfoldable pub group : Tree Token → Build NodeId
  group tree = expression (first (second tree))

  unfoldable pub computed_key : Tree Token → Build NodeId
  computed_key tree = assign (first (second tree))

  abbrev pub element_by : Symbol → ℕ → Tree Token → Build NodeId
  element_by s.Ellipsis at tree = assign (second tree) >>= λ list. added (made.Spread list) at
  element_by _ at tree = assign tree

  unfoldable pub element : Tree Token → Build NodeId
  element tree = element_by (symbol_in tree) (place_in tree) tree

  unfoldable pub arguments : Tree Token → Build (List NodeId)
  arguments tree = listed element (first (second tree))

  unfoldable pub array : Tree Token → Build NodeId
  array tree = listed element (first (second tree)) >>= λ items. added (made.ArrayLit items) (place_in tree)

  -- the stretches behind a first part, up to the last
  unfoldable pub stretches : List (List ℕ) → List NodeId → Tree Token → Tree Token → Build (List (List ℕ) × List NodeId)
  stretches texts values (pair m rest) last = do
    value ← expression (second m)
    stretches (texts ++ text_in m ∷ []) (values ++ value ∷ []) rest last
  stretches texts values _ last = pure (texts ++ text_in last ∷ [], values)

  unfoldable pub template : Tree Token → Build NodeId
  template tree = do
    value ← expression (first (second tree))
    pieces ← stretches (text_in tree ∷ []) (value ∷ []) (first (second (second tree))) (second (second (second tree)))
    added (made.Template pieces.0 pieces.1) (place_in tree)

  -- ---- object literals

  abbrev pub key_by : Symbol → Tree Token → Build PropertyKey
  key_by s.OpenBracket tree = key.Computed <$> part.node_of parts.ComputedKey tree
  key_by s.Number tree = pure (number_key (number_in tree))
  key_by _ tree = pure (key.Written (text_in tree))

  unfoldable pub property_key : Tree Token → Build PropertyKey
  property_key tree = key_by (symbol_in tree) tree

  -- behind a key: ":" Assign | Fun
  abbrev pub member_under_by : Symbol → PropertyKey → ℕ → Tree Token → Build NodeId
  member_under_by s.Colon written at tree = assign (second tree) >>= λ value. added (made.Property written value) at
  member_under_by _ written at tree = part.function_in parts.Method tree >>= λ function. added (made.Method written function) at

  unfoldable pub member_under : PropertyKey → ℕ → Tree Token → Build NodeId
  member_under written at tree = member_under_by (symbol_in tree) written at tree

  unfoldable pub shorthand : List ℕ → ℕ → Build NodeId
  shorthand text at = added (made.Name text) at >>= λ value. added (made.Property (key.Written text) value) at

  unfoldable pub named_member : List ℕ → ℕ → Tree Token → Build NodeId
  named_member text at tree = if absent tree then shorthand text at else member_under (key.Written text) at tree

  abbrev pub accessor : Part → (PropertyKey → Function → Node) → ℕ → Tree Token → Build NodeId
  accessor how node_with at tree = do
    written ← property_key (first tree)
    function ← part.function_in how (second tree)
    added (node_with written function) at

  -- behind `get` or `set`: a key and a function, or as behind a name
  abbrev pub accessor_if : Bool → Part → (PropertyKey → Function → Node) → List ℕ → ℕ → Tree Token → Build NodeId
  accessor_if true how node_with text at tree = accessor how node_with at tree
  accessor_if false how node_with text at tree = named_member text at tree

  abbrev pub member_by : Symbol → ℕ → Tree Token → Build NodeId
  member_by s.Get at tree = accessor_if (begins_key (symbol_in (second tree))) parts.Getter (λ k f. made.Getter k f) (text_in tree) at (second tree)
  member_by s.Set at tree = accessor_if (begins_key (symbol_in (second tree))) parts.Setter (λ k f. made.Setter k f) (text_in tree) at (second tree)
  member_by s.Name at tree = named_member (text_in tree) at (second tree)
  member_by s.Of at tree = named_member (text_in tree) at (second tree)
  member_by _ at tree = property_key (first tree) >>= λ written. member_under written at (second tree)

  unfoldable pub member : Tree Token → Build NodeId
  member tree = member_by (symbol_in tree) (place_in tree) tree

  unfoldable pub object : Tree Token → Build NodeId
  object tree = listed member (first (second tree)) >>= λ found. added (made.ObjectLit found) (place_in tree)

  -- ---- functions

  -- parameters and a body
  unfoldable pub function_rest : Part → Tree Token → Build Function
  function_rest how tree = do
    list ← part.parameters_of how (first tree)
    body ← part.node_of parts.Block (second tree)
    pure (function_of list body)

  abbrev pub name_if : Tree Token → Option (List ℕ)
  name_if tree = if absent tree then None else Some (text_in tree)

  unfoldable pub function_expression : Tree Token → Build NodeId
  function_expression tree =
      function_rest parts.Parameters (second (second tree)) >>= λ function. added (made.Fun (name_if (first (second tree))) function) (place_in tree)

  unfoldable pub function_declaration : Tree Token → Build NodeId
  function_declaration tree =
      function_rest parts.Parameters (second (second tree)) >>= λ function. added (made.FunDecl (text_in (first (second tree))) function) (place_in tree)

  -- ---- declarations

  unfoldable pub initial : Tree Token → Build (Option NodeId)
  initial = maybe (λ t. assign (second t))

  unfoldable pub declarator : Tree Token → Build Declarator
  declarator tree = do
    target ← bind (first tree)
    value ← initial (second tree)
    pure (record { bind = target; value = value })

  -- behind a first: a comma and a binding each
  unfoldable pub declarators : List Declarator → Tree Token → Build (List Declarator)
  declarators = all_behind (λ m. declarator (second m))

  unfoldable pub declaration : Bool → ℕ → Tree Token → Build NodeId
  declaration constant at tree = do
    one ← declarator (first (second tree))
    pairs ← declarators (one ∷ []) (second (second tree))
    added (declaration_node constant pairs) at

  -- ---- statements

  unfoldable pub if_statement : Tree Token → Build NodeId
  if_statement tree = do
    test ← part.node_of parts.Group (first (first (second tree)))
    then_part ← part.node_of parts.Body (second (first (second tree)))
    else_part ← maybe (λ t. part.node_of parts.Body (second t)) (second (second tree))
    added (made.If test then_part else_part) (place_in tree)

  unfoldable pub while_statement : Tree Token → Build NodeId
  while_statement tree = do
    test ← part.node_of parts.Group (first (second tree))
    body ← part.node_of parts.Body (second (second tree))
    added (made.While test body) (place_in tree)

  unfoldable pub do_statement : Tree Token → Build NodeId
  do_statement tree = do
    body ← part.node_of parts.Body (first (second tree))
    test ← part.node_of parts.Group (first (second (second (second tree))))
    added (made.DoWhile body test) (place_in tree)

  unfoldable pub for_statement : Tree Token → Build NodeId
  for_statement tree = do
    parted ← part.head_of (first (second tree))
    body ← part.node_of parts.Body (second (second tree))
    added (for_node parted body) (place_in tree)

  unfoldable pub return_statement : Tree Token → Build NodeId
  return_statement tree = maybe expression (first (second tree)) >>= λ value. added (made.Return value) (place_in tree)

  unfoldable pub throw_statement : Tree Token → Build NodeId
  throw_statement tree = expression (first (second tree)) >>= λ value. added (made.Throw value) (place_in tree)

  -- behind the block of `try`
  abbrev pub caught_by : Symbol → Tree Token → Build (Option NodeId × Option NodeId × Option NodeId)
  caught_by s.Catch tree = do
    bound ← maybe (part.node_of parts.CatchBind) (first (second tree))
    handler ← part.node_of parts.Block (first (second (second tree)))
    last ← maybe (λ t. part.node_of parts.Block (second t)) (second (second (second tree)))
    pure (bound, Some handler, last)
  caught_by _ tree = part.node_of parts.Block (second tree) >>= λ last. pure (None, None, Some last)

  unfoldable pub try_statement : Tree Token → Build NodeId
  try_statement tree = do
    block ← part.node_of parts.Block (first (second tree))
    c ← caught_by (symbol_in (second (second tree))) (second (second tree))
    added (made.Try block c.0 c.1 c.2) (place_in tree)

  unfoldable pub expression_statement : ℕ → Tree Token → Build NodeId
  expression_statement at tree = expression (first tree) >>= λ value. added (made.ExprStmt value) at

  abbrev pub statement_by : Symbol → ℕ → Tree Token → Build NodeId
  statement_by s.OpenBrace at tree = part.node_of parts.Block tree
  statement_by s.Semicolon at tree = added made.Empty at
  statement_by s.If at tree = if_statement tree
  statement_by s.While at tree = while_statement tree
  statement_by s.Do at tree = do_statement tree
  statement_by s.For at tree = for_statement tree
  statement_by s.Return at tree = return_statement tree
  statement_by s.Break at tree = added made.Break at
  statement_by s.Continue at tree = added made.Continue at
  statement_by s.Throw at tree = throw_statement tree
  statement_by s.Try at tree = try_statement tree
  statement_by _ at tree = expression_statement at tree

  unfoldable pub statement : Tree Token → Build NodeId
  statement tree = statement_by (symbol_in tree) (place_in tree) tree

  abbrev pub item_by : Symbol → ℕ → Tree Token → Build NodeId
  item_by s.Let at tree = declaration false at (first tree)
  item_by s.Const at tree = declaration true at (first tree)
  item_by s.Function at tree = part.node_of parts.FunctionDeclaration tree
  item_by _ at tree = statement tree

  unfoldable pub item : Tree Token → Build NodeId
  item tree = item_by (symbol_in tree) (place_in tree) tree

  unfoldable pub block : Tree Token → Build NodeId
  block tree = all_behind item [] (first (second tree)) >>= λ items. added (made.Block items) (place_in tree)

  -- ---- the head of a `for`

  -- ";" [Expr] ";" [Expr]
  unfoldable pub loop_head : Option NodeId → Tree Token → Build Head
  loop_head start tree = do
    test ← maybe expression (first (second tree))
    next ← maybe expression (second (second (second tree)))
    pure (head.Loop start test next)

  -- behind `let` or `const` and a Bind
  abbrev pub declared_by : Symbol → Bool → ℕ → NodeId → Tree Token → Build Head
  declared_by s.Of constant at bound tree = assign (second tree) >>= λ list. pure (head.Of constant bound list)
  declared_by _ constant at bound tree = do
    value ← initial (first tree)
    pairs ← declarators (record { bind = bound; value = value } ∷ []) (first (second tree))
    id ← added (declaration_node constant pairs) at
    loop_head (Some id) (second (second tree))

  unfoldable pub declared : Bool → ℕ → Tree Token → Build Head
  declared constant at tree = bind (first (second tree)) >>= λ bound. declared_by (symbol_in (second (second tree))) constant at bound (second (second tree))

  abbrev pub head_by : Symbol → ℕ → Tree Token → Build Head
  head_by s.Let at tree = declared false at tree
  head_by s.Const at tree = declared true at tree
  head_by s.Semicolon at tree = loop_head None tree
  head_by _ at tree = expression (first tree) >>= λ start. loop_head (Some start) (second tree)

  unfoldable pub for_head : Tree Token → Build Head
  for_head tree = head_by (symbol_in (second tree)) (place_in (second tree)) (first (second tree))

  -- ---- scripts

  unfoldable pub script : Tree Token → Build NodeId
  script tree = all_behind item [] (first tree) >>= λ items. added (made.Script items) (place_in tree)

  abbrev pub node_by : Part → Tree Token → Build NodeId
  node_by (parts.Right allow_in) tree = assign tree
  node_by parts.Group tree = group tree
  node_by parts.Index tree = group tree
  node_by parts.ComputedKey tree = computed_key tree
  node_by parts.Array tree = array tree
  node_by parts.Object tree = object tree
  node_by parts.Template tree = template tree
  node_by parts.FunctionExpression tree = function_expression tree
  node_by parts.FunctionDeclaration tree = function_declaration tree
  node_by (parts.ArrowBody allow_in) tree = arrow_body tree
  node_by parts.Body tree = statement tree
  node_by parts.Unary tree = prefix tree
  node_by parts.New tree = new_call tree
  node_by parts.Pattern tree = pattern tree
  node_by parts.CatchBind tree = catch_bind tree
  node_by _ tree = block tree

  abbrev pub parameters_by : Part → Tree Token → Build Parameters
  parameters_by parts.OneParameter tree = setter_parameter tree
  parameters_by parts.NoParameters tree = pure (record { list = []; rest = None })
  parameters_by _ tree = parameters tree

  abbrev pub function_by : Part → Tree Token → Build Function
  function_by parts.Getter tree = function_rest parts.NoParameters tree
  function_by parts.Setter tree = function_rest parts.OneParameter tree
  function_by _ tree = function_rest parts.Parameters tree

  unfoldable pub level : Parts
  level = record { node_of = node_by; arguments_of = arguments; parameters_of = parameters_by; function_in = function_by; head_of = for_head }

-- no part at all
unfoldable pub no_parts : Parts
no_parts = record {
  node_of = λ p tree. pure (record { 0 = 0 });
  arguments_of = λ tree. pure [];
  parameters_of = λ p tree. pure (record { list = []; rest = None });
  function_in = λ p tree. pure (record { parameters = []; rest = None; body = record { 0 = 0 } });
  head_of = λ tree. pure (head.Loop None None None);
}

-- where parts nest less deep than so
unfoldable pub parts_at : ℕ → Parts
parts_at zero = no_parts
parts_at (suc depth) = level (parts_at depth)

-- the nodes of a script by its derivation, in which parts nest at most so deep
unfoldable pub nodes_of : ℕ → Tree Token → Nodes
nodes_of depth tree = (script (parts_at depth) tree []).1
