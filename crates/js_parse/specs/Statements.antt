-- Functions, declarations, statements and scripts, rule by rule, as what is read from the front (ECMA-262, 14 to 16).
use Rattle.std.specs.Prelude.{◌≡◌, ℕ, zero, suc, ◌-◌, ◌==◌, Bool, true, false, not, ◌||◌, if◌then◌else◌, List, [], ◌∷◌, ◌++◌, length, Option, Some, None, is_none, Ok, Err, ℤ}
use Rattle.std.specs.Fmt.{signed_decimal}
use Rattle.js_tree.specs.declared.node.Node.{Node}
use Rattle.js_tree.specs.declared.node.Node.TheVariants as node
use Rattle.js_tree.specs.declared.node.NodeId.{NodeId}
use Rattle.js_tree.specs.declared.node.Declarator.{Declarator}
use Rattle.js_tree.specs.declared.node.BindElement.{BindElement}
use Rattle.js_tree.specs.declared.node.BindProperty.{BindProperty}
use Rattle.js_tree.specs.declared.node.Function.{Function}
use Rattle.js_tree.specs.declared.node.PropertyKey.{PropertyKey}
use Rattle.js_tree.specs.declared.node.PropertyKey.TheVariants as key
use Rattle.js_tree.specs.declared.node.BinaryOperator.{BinaryOperator}
use Rattle.js_parse.specs.declared.fault.Fault.TheVariants as fault
use Rattle.js_parse.specs.declared.symbol.Symbol.{Symbol}
use Rattle.js_parse.specs.declared.symbol.Symbol.TheVariants as s
use Rattle.js_parse.specs.declared.operators.Infix.{Infix}
use Rattle.js_parse.specs.declared.part.Part.{Part}
use Rattle.js_parse.specs.declared.part.Part.TheVariants as parts
use Rattle.js_parse.specs.declared.part.Parameters.{Parameters}
use Rattle.js_parse.specs.declared.part.Head.{Head}
use Rattle.js_parse.specs.declared.part.Head.TheVariants as head
use Rattle.js_parse.specs.declared.part.Found.{Found}
use Rattle.js_parse.specs.declared.part.Found.TheVariants as found
use Rattle.js_parse.specs.Symbols.{is_name, is_any_name, is_word}
use Rattle.js_parse.specs.Operators.{is_prefix, prefix_node, postfix_node, infix_at, infix_node, assign_operator, assign_node}
use Rattle.js_parse.specs.Input.{Parser, ◌>>=◌, ◌>>◌, ◌<$>◌, pure, refuse, peek, here, breaks, take_token, take_text, take_number, seen, eat, expect, name, any_name, add, leaf, turns, fork, symbol, sees, arrow, is_arrow_next, is_arrow_ahead}
use Rattle.js_parse.specs.Grammar as g
use Rattle.js_parse.specs.Grammar.{function_of}

-- ---- rules without nested parts

abbrev pub name_if : Bool → Parser (Option (List ℕ))
name_if true = Some <$> take_text
name_if false = pure None

unfoldable pub function_name : Parser (Option (List ℕ))
function_name = peek >>= λ symbol. name_if (is_name symbol)

abbrev pub declaration_node : Bool → List Declarator → Node
declaration_node true pairs = node.Const pairs
declaration_node false pairs = node.Let pairs

abbrev pub for_node : Head → NodeId → Node
for_node (head.Loop first test next) body = node.For first test next body
for_node (head.Of constant bound list) body = node.ForOf constant bound list body

unfoldable pub jump : Node → Parser NodeId
jump statement = do
  at ← here
  take_token
  expect s.Semicolon
  add statement at

-- Each part counts as a level of nesting from its first token on; `part` reads one.
module _ (part : Part → Parser Found) where
  -- ---- functions

  -- parameters and a body
  unfoldable pub function_rest : Part → Parser Function
  function_rest how = do
    p ← g.parameters_of part how
    body ← g.node_of part parts.Block
    pure (function_of p body)

  -- "function" [Name] Fun
  unfoldable pub function_expression : Parser NodeId
  function_expression = do
    at ← here
    expect s.Function
    text ← function_name
    function ← function_rest parts.Parameters
    add (node.Fun text function) at

  -- "function" Name Fun
  unfoldable pub function_declaration : Parser NodeId
  function_declaration = do
    at ← here
    expect s.Function
    text ← name
    function ← function_rest parts.Parameters
    add (node.FunDecl text function) at

  -- ---- declarations

  -- ["=" Assign], which may have to stand
  unfoldable pub initial : Bool → Bool → Parser (Option NodeId)
  initial allow_in required = do
    given ← eat s.Assign
    if given then Some <$> g.assign part allow_in else (if required then refuse else pure None)

  -- A pattern has to have a value, and so has each binding of `const`.
  unfoldable pub declarator : Bool → Bool → Parser Declarator
  declarator constant allow_in = do
    symbol ← peek
    target ← g.bind part
    value ← initial allow_in (constant || not (is_name symbol))
    pure (record { bind = target; value = value })

  unfoldable pub declarators_from : Bool → Bool → ℕ → List Declarator → Parser (List Declarator)
  declarators_from constant allow_in zero found = pure found
  declarators_from constant allow_in (suc n) found = do
    more ← eat s.Comma
    if more then (do
      x ← declarator constant allow_in
      declarators_from constant allow_in n (found ++ x ∷ [])) else pure found

  unfoldable pub declarators : Bool → Bool → Declarator → Parser (List Declarator)
  declarators constant allow_in first = λ i. declarators_from constant allow_in (turns i) (first ∷ []) i

  -- Decl, behind its word
  unfoldable pub declaration : Bool → ℕ → Parser NodeId
  declaration constant at = do
    first ← declarator constant true
    pairs ← declarators constant true first
    add (declaration_node constant pairs) at

  -- ---- statements

  -- ["else" Stmt]
  unfoldable pub else_clause : Parser (Option NodeId)
  else_clause = do
    other ← eat s.Else
    if other then Some <$> g.node_of part parts.Body else pure None

  unfoldable pub if_statement : Parser NodeId
  if_statement = do
    at ← here
    take_token
    test ← g.node_of part parts.Group
    then_part ← g.node_of part parts.Body
    else_part ← else_clause
    add (node.If test then_part else_part) at

  unfoldable pub while_statement : Parser NodeId
  while_statement = do
    at ← here
    take_token
    test ← g.node_of part parts.Group
    body ← g.node_of part parts.Body
    add (node.While test body) at

  unfoldable pub do_statement : Parser NodeId
  do_statement = do
    at ← here
    take_token
    body ← g.node_of part parts.Body
    expect s.While
    test ← g.node_of part parts.Group
    expect s.Semicolon
    add (node.DoWhile body test) at

  unfoldable pub for_statement : Parser NodeId
  for_statement = do
    at ← here
    take_token
    parted ← g.head_of part parts.ForHead
    body ← g.node_of part parts.Body
    add (for_node parted body) at

  unfoldable pub return_value : Parser (Option NodeId)
  return_value = do
    broken ← breaks
    ended ← seen s.Semicolon
    if broken || ended then pure None else Some <$> g.expression part true

  unfoldable pub return_statement : Parser NodeId
  return_statement = do
    at ← here
    take_token
    value ← return_value
    expect s.Semicolon
    add (node.Return value) at

  unfoldable pub throw_statement : Parser NodeId
  throw_statement = do
    at ← here
    take_token
    broken ← breaks
    if broken then refuse else (do
      value ← g.expression part true
      expect s.Semicolon
      add (node.Throw value) at)

  -- ["(" Bind ")"]
  unfoldable pub catch_parameter : Parser (Option NodeId)
  catch_parameter = do
    bracket ← seen s.OpenParen
    if bracket then Some <$> g.node_of part parts.CatchBind else pure None

  -- ["catch" ["(" Bind ")"] Block]
  unfoldable pub catch_clause : Parser (Option NodeId × Option NodeId)
  catch_clause = do
    caught ← eat s.Catch
    if caught then (do
      bound ← catch_parameter
      handler ← g.node_of part parts.Block
      pure (bound, Some handler)) else pure (None, None)

  -- "finally" Block, which stands where there is no catch
  unfoldable pub finally_clause : Bool → Parser (Option NodeId)
  finally_clause required = do
    last ← eat s.Finally
    if last then Some <$> g.node_of part parts.Block else (if required then refuse else pure None)

  unfoldable pub try_statement : Parser NodeId
  try_statement = do
    at ← here
    take_token
    block ← g.node_of part parts.Block
    handler ← catch_clause
    last ← finally_clause (is_none handler.1)
    add (node.Try block handler.0 handler.1 last) at

  unfoldable pub expression_statement : Parser NodeId
  expression_statement = do
    at ← here
    value ← g.expression part true
    expect s.Semicolon
    add (node.ExprStmt value) at

  abbrev statement_by : Symbol → Parser NodeId
  statement_by s.OpenBrace = g.node_of part parts.Block
  statement_by s.Semicolon = leaf node.Empty
  statement_by s.If = if_statement
  statement_by s.While = while_statement
  statement_by s.Do = do_statement
  statement_by s.For = for_statement
  statement_by s.Return = return_statement
  statement_by s.Break = jump node.Break
  statement_by s.Continue = jump node.Continue
  statement_by s.Throw = throw_statement
  statement_by s.Try = try_statement
  statement_by s.Function = refuse
  statement_by _ = expression_statement

  -- Stmt
  unfoldable pub statement : Parser NodeId
  statement = peek >>= statement_by

  unfoldable pub declaration_statement : Bool → Parser NodeId
  declaration_statement constant = do
    at ← here
    take_token
    id ← declaration constant at
    expect s.Semicolon
    pure id

  abbrev item_by : Symbol → Parser NodeId
  item_by s.Let = declaration_statement false
  item_by s.Const = declaration_statement true
  item_by s.Function = g.node_of part parts.FunctionDeclaration
  item_by _ = statement

  -- Item
  unfoldable pub item : Parser NodeId
  item = peek >>= item_by

  unfoldable pub items_from : Symbol → ℕ → List NodeId → Parser (List NodeId)
  items_from close zero found = refuse
  items_from close (suc n) found = do
    closed ← seen close
    if closed then pure found else (do x ← item; items_from close n (found ++ x ∷ []))

  unfoldable pub items : Symbol → Parser (List NodeId)
  items close = λ i. items_from close (turns i) [] i

  -- Block
  unfoldable pub block : Parser NodeId
  block = do
    at ← here
    expect s.OpenBrace
    found ← items s.CloseBrace
    take_token
    add (node.Block found) at

  -- ---- the head of a `for`

  abbrev optional_by : Symbol → Bool → Parser (Option NodeId)
  optional_by close true = pure None
  optional_by close false = Some <$> g.expression part true

  -- [Expr], up to what closes it
  unfoldable pub optional : Symbol → Parser (Option NodeId)
  optional close = seen close >>= optional_by close

  -- ";" [Expr] ";" [Expr] ")"
  unfoldable pub loop_head : Option NodeId → Parser Head
  loop_head first = do
    expect s.Semicolon
    test ← optional s.Semicolon
    expect s.Semicolon
    next_part ← optional s.CloseParen
    expect s.CloseParen
    pure (head.Loop first test next_part)

  -- behind `let` or `const` and a Bind: "of" Assign ")"
  unfoldable pub of_head : Bool → NodeId → Parser Head
  of_head constant bound = do
    list ← g.assign part true
    expect s.CloseParen
    pure (head.Of constant bound list)

  -- or the rest of a Decl
  unfoldable pub declared_head : Bool → ℕ → Bool → NodeId → Parser Head
  declared_head constant at named bound = do
    value ← initial false (constant || not named)
    pairs ← declarators constant false (record { bind = bound; value = value })
    id ← add (declaration_node constant pairs) at
    loop_head (Some id)

  unfoldable pub declared : Bool → Parser Head
  declared constant = do
    at ← here
    take_token
    symbol ← peek
    bound ← g.bind part
    each ← eat s.Of
    if each then of_head constant bound else declared_head constant at (is_name symbol) bound

  abbrev head_by : Symbol → Parser Head
  head_by s.Let = declared false
  head_by s.Const = declared true
  head_by s.Semicolon = loop_head None
  head_by _ = g.expression part false >>= λ first. loop_head (Some first)

  -- "(" .. ")" behind `for`
  unfoldable pub for_head : Parser Head
  for_head = do
    expect s.OpenParen
    symbol ← peek
    head_by symbol

  -- ---- parts

  abbrev part_by : Part → Parser Found
  part_by (parts.Right allow_in) = found.Node <$> g.assign part allow_in
  part_by parts.Group = found.Node <$> g.group part
  part_by parts.Arguments = found.Nodes <$> g.arguments part
  part_by parts.Index = found.Node <$> g.index part
  part_by parts.ComputedKey = found.Node <$> g.computed_key part
  part_by parts.Array = found.Node <$> g.array part
  part_by parts.Object = found.Node <$> g.object part
  part_by parts.Template = found.Node <$> g.template part
  part_by parts.FunctionExpression = found.Node <$> function_expression
  part_by parts.FunctionDeclaration = found.Node <$> function_declaration
  part_by parts.Method = found.Function <$> function_rest parts.Parameters
  part_by parts.Getter = found.Function <$> function_rest parts.NoParameters
  part_by parts.Setter = found.Function <$> function_rest parts.OneParameter
  part_by (parts.ArrowBody allow_in) = found.Node <$> g.arrow_body part allow_in
  part_by parts.Parameters = found.Parameters <$> g.parameters part
  part_by parts.NoParameters = found.Parameters <$> g.no_parameters part
  part_by parts.OneParameter = found.Parameters <$> g.setter_parameter part
  part_by parts.Block = found.Node <$> block
  part_by parts.Body = found.Node <$> statement
  part_by parts.Unary = found.Node <$> g.prefix part
  part_by parts.New = found.Node <$> g.new_call part
  part_by parts.Pattern = found.Node <$> g.pattern part
  part_by parts.ForHead = found.Head <$> for_head
  part_by parts.CatchBind = found.Node <$> g.catch_bind part

  unfoldable pub level : Part → Parser Found
  level = part_by

  -- Script
  unfoldable pub script : Parser NodeId
  script = do
    at ← here
    found ← items s.End
    add (node.Script found) at
