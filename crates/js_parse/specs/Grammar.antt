-- The grammar of bindings and expressions, rule by rule, as what is read from the front (ECMA-262, 13 and 14.3). Where two rules begin
-- alike, the next token tells them apart, but at `(`.
use Rattle.std.specs.Prelude.{◌≡◌, ℕ, zero, suc, ◌-◌, ◌==◌, Bool, true, false, not, ◌||◌, if◌then◌else◌, List, [], ◌∷◌, ◌++◌, length, Option, Some, None, is_none, Ok, Err, ℤ}
use Rattle.std.specs.Fmt.{signed_decimal}
use Rattle.js_tree.specs.declared.node.Node.{Node}
use Rattle.js_tree.specs.declared.node.Node.TheVariants as node
use Rattle.js_tree.specs.declared.node.NodeId.{NodeId}
use Rattle.js_tree.specs.declared.node.Declarator.{Declarator}
use Rattle.js_tree.specs.declared.node.BindElement.{BindElement}
use Rattle.js_tree.specs.declared.node.BindProperty.{BindProperty}
use Rattle.js_tree.specs.declared.node.Function.{Function}
use Rattle.js_tree.specs.declared.node.PropertyKey.{PropertyKey}
use Rattle.js_tree.specs.declared.node.PropertyKey.TheVariants as key
use Rattle.js_tree.specs.declared.node.BinaryOperator.{BinaryOperator}
use Rattle.js_parse.specs.declared.fault.Fault.TheVariants as fault
use Rattle.js_parse.specs.declared.symbol.Symbol.{Symbol}
use Rattle.js_parse.specs.declared.symbol.Symbol.TheVariants as s
use Rattle.js_parse.specs.declared.operators.Infix.{Infix}
use Rattle.js_parse.specs.declared.part.Part.{Part}
use Rattle.js_parse.specs.declared.part.Part.TheVariants as parts
use Rattle.js_parse.specs.declared.part.Parameters.{Parameters}
use Rattle.js_parse.specs.declared.part.Head.{Head}
use Rattle.js_parse.specs.declared.part.Head.TheVariants as head
use Rattle.js_parse.specs.declared.part.Found.{Found}
use Rattle.js_parse.specs.declared.part.Found.TheVariants as found
use Rattle.js_parse.specs.Symbols.{is_name, is_any_name, is_word}
use Rattle.js_parse.specs.Operators.{is_prefix, prefix_node, postfix_node, infix_at, infix_node, assign_operator, assign_node}
use Rattle.js_parse.specs.Input.{Parser, ◌>>=◌, ◌>>◌, ◌<$>◌, pure, refuse, peek, here, breaks, take_token, take_text, take_number, seen, eat, expect, name, any_name, add, leaf, turns, fork, symbol, sees, arrow, is_arrow_next, is_arrow_ahead}

-- ---- lists

-- behind a member of a list: a comma, or what closes the list
unfoldable pub comma_or : Symbol → Parser Bool
comma_or close = do
  more ← eat s.Comma
  if more then pure true else (expect close >> pure false)

-- members up to what closes the list, with commas between; one comma may end it
unfoldable pub listed_from : {A : Type 0} → Parser A → Symbol → ℕ → List A → Parser (List A)
listed_from item close zero found = refuse
listed_from item close (suc n) found = do
  closed ← eat close
  if closed then pure found else (do
    x ← item
    more ← comma_or close
    if more then listed_from item close n (found ++ x ∷ []) else pure (found ++ x ∷ []))

abbrev pub listed : {A : Type 0} → Parser A → Symbol → Parser (List A)
listed item close = λ i. listed_from item close (turns i) [] i

abbrev pub function_of : Parameters → NodeId → Function
function_of p body = record { parameters = p.list; rest = p.rest; body = body }

abbrev pub plain : NodeId → BindElement
plain bind = record { bind = bind; default = None }

abbrev pub one_parameter : NodeId → Parameters
one_parameter bind = record { list = plain bind ∷ []; rest = None }

-- a name that binds
unfoldable pub bind_name : Parser NodeId
bind_name = do
  at ← here
  text ← name
  add (node.BindName text) at

-- a key of a pattern: AnyName or string
abbrev pub pattern_key : Symbol → Parser (List ℕ)
pattern_key s.Text = take_text
pattern_key _ = any_name

-- the level of operators in the operands of a level
unfoldable pub below : ℕ → ℕ
below level = if level == 11 then 8 else level - 1

-- ---- rules without nested parts

unfoldable pub named_leaf : Parser NodeId
named_leaf = do
  at ← here
  text ← take_text
  add (node.Name text) at

unfoldable pub number_leaf : Parser NodeId
number_leaf = do
  at ← here
  value ← take_number
  add (node.Num value) at

unfoldable pub text_leaf : Parser NodeId
text_leaf = do
  at ← here
  text ← take_text
  add (node.Str text) at

unfoldable pub template_leaf : Parser NodeId
template_leaf = do
  at ← here
  text ← take_text
  add (node.Template (text ∷ []) []) at

-- what a key may begin with
abbrev pub begins_key : Symbol → Bool
begins_key s.OpenBracket = true
begins_key s.Text = true
begins_key s.Number = true
begins_key symbol = is_any_name symbol

unfoldable pub starts_key : Symbol → Bool
starts_key = begins_key

abbrev pub linked : Parser NodeId → (NodeId → Parser NodeId) → ℕ → NodeId → Option Infix → Parser NodeId
linked read more at left None = pure left
linked read more at left (Some operator) = do
  take_token
  right ← read
  longer ← add (infix_node operator left right) at
  more longer

-- operands that `read` reads, behind a first, with operators of one level between
unfoldable pub chain_from : Parser NodeId → ℕ → Bool → ℕ → ℕ → NodeId → Parser NodeId
chain_from read level allow_in at zero left = pure left
chain_from read level allow_in at (suc n) left =
    peek >>= λ symbol. linked read (chain_from read level allow_in at n) at left (infix_at level allow_in symbol)

unfoldable pub chain : Parser NodeId → ℕ → Bool → ℕ → NodeId → Parser NodeId
chain read level allow_in at left = λ i. chain_from read level allow_in at (turns i) left i

abbrev pub number_key : ℤ → PropertyKey
number_key value = key.Written (signed_decimal value)

-- Each part counts as a level of nesting from its first token on; `part` reads one.
module _ (part : Part → Parser Found) where
  abbrev as_node : Found → Parser NodeId
  as_node (found.Node id) = pure id
  as_node _ = refuse

  abbrev as_nodes : Found → Parser (List NodeId)
  as_nodes (found.Nodes ids) = pure ids
  as_nodes _ = refuse

  abbrev as_parameters : Found → Parser Parameters
  as_parameters (found.Parameters p) = pure p
  as_parameters _ = refuse

  abbrev as_function : Found → Parser Function
  as_function (found.Function f) = pure f
  as_function _ = refuse

  abbrev as_head : Found → Parser Head
  as_head (found.Head h) = pure h
  as_head _ = refuse

  unfoldable pub node_of : Part → Parser NodeId
  node_of p = part p >>= as_node

  unfoldable pub nodes_of : Part → Parser (List NodeId)
  nodes_of p = part p >>= as_nodes

  unfoldable pub parameters_of : Part → Parser Parameters
  parameters_of p = part p >>= as_parameters

  unfoldable pub body_of : Part → Parser Function
  body_of p = part p >>= as_function

  unfoldable pub head_of : Part → Parser Head
  head_of p = part p >>= as_head

  -- ---- bindings

  -- Bind = Name | ObjectPattern | ArrayPattern
  abbrev bind_by : Symbol → Parser NodeId
  bind_by s.OpenBrace = node_of parts.Pattern
  bind_by s.OpenBracket = node_of parts.Pattern
  bind_by _ = bind_name

  unfoldable pub bind : Parser NodeId
  bind = peek >>= bind_by

  unfoldable pub default_value : Parser (Option NodeId)
  default_value = do
    given ← eat s.Assign
    if given then Some <$> node_of (parts.Right true) else pure None

  -- Bind ["=" Assign]
  unfoldable pub bind_element : Parser BindElement
  bind_element = do
    target ← bind
    value ← default_value
    pure (record { bind = target; default = value })

  -- behind a key of a pattern
  unfoldable pub bind_under : Bool → List ℕ → ℕ → Parser NodeId
  bind_under named text at = do
    given ← eat s.Colon
    if given then bind else (if named then add (node.BindName text) at else refuse)

  -- Key [":" Bind] ["=" Assign]
  unfoldable pub bind_property : Parser BindProperty
  bind_property = do
    at ← here
    first ← peek
    text ← pattern_key first
    target ← bind_under (is_name first) text at
    value ← default_value
    pure (record { key = text; bind = target; default = value })

  unfoldable pub bind_properties : Parser (List BindProperty)
  bind_properties = listed bind_property s.CloseBrace

  unfoldable pub bind_elements : Parser (List BindElement)
  bind_elements = listed bind_element s.CloseBracket

  unfoldable pub object_pattern : Parser NodeId
  object_pattern = do
    at ← here
    take_token
    parts ← bind_properties
    add (node.BindObject parts) at

  unfoldable pub array_pattern : Parser NodeId
  array_pattern = do
    at ← here
    take_token
    parts ← bind_elements
    add (node.BindArray parts) at

  abbrev pattern_by : Symbol → Parser NodeId
  pattern_by s.OpenBrace = object_pattern
  pattern_by s.OpenBracket = array_pattern
  pattern_by _ = refuse

  unfoldable pub pattern : Parser NodeId
  pattern = peek >>= pattern_by

  -- ---- parameters

  -- "..." Name ")"
  unfoldable pub rest_parameter : Parser NodeId
  rest_parameter = do
    bound ← bind_name
    expect s.CloseParen
    pure bound

  unfoldable pub parameters_from : ℕ → List BindElement → Parser Parameters
  parameters_from zero found = refuse
  parameters_from (suc n) found = do
    closed ← eat s.CloseParen
    if closed then pure (record { list = found; rest = None }) else (do
      spread ← eat s.Ellipsis
      if spread then (λ bound. record { list = found; rest = Some bound }) <$> rest_parameter else (do
        x ← bind_element
        more ← comma_or s.CloseParen
        if more then parameters_from n (found ++ x ∷ []) else pure (record { list = found ++ x ∷ []; rest = None })))

  unfoldable pub parameter_list : Parser Parameters
  parameter_list = λ i. parameters_from (turns i) [] i

  -- "(" Params ")"
  unfoldable pub parameters : Parser Parameters
  parameters = expect s.OpenParen >> parameter_list

  unfoldable pub no_parameters : Parser Parameters
  no_parameters = do
    expect s.OpenParen
    expect s.CloseParen
    pure (record { list = []; rest = None })

  unfoldable pub setter_parameter : Parser Parameters
  setter_parameter = do
    expect s.OpenParen
    bound ← bind
    expect s.CloseParen
    pure (one_parameter bound)

  -- "(" Bind ")" behind `catch`
  unfoldable pub catch_bind : Parser NodeId
  catch_bind = do
    expect s.OpenParen
    bound ← bind
    expect s.CloseParen
    pure bound

  -- ---- expressions without operators

  abbrev primary_by : Symbol → Parser NodeId
  primary_by s.Name = named_leaf
  primary_by s.Of = named_leaf
  primary_by s.Get = named_leaf
  primary_by s.Set = named_leaf
  primary_by s.This = leaf node.This
  primary_by s.Null = leaf node.Null
  primary_by s.True = leaf (node.Bool true)
  primary_by s.False = leaf (node.Bool false)
  primary_by s.Number = number_leaf
  primary_by s.Text = text_leaf
  primary_by s.Template = template_leaf
  primary_by s.TemplateHead = node_of parts.Template
  primary_by s.OpenBracket = node_of parts.Array
  primary_by s.OpenBrace = node_of parts.Object
  primary_by s.Function = node_of parts.FunctionExpression
  primary_by s.OpenParen = node_of parts.Group
  primary_by s.New = node_of parts.New
  primary_by _ = refuse

  -- Primary, or `new` with what it takes
  unfoldable pub primary : Parser NodeId
  primary = peek >>= primary_by

  abbrev suffix_by : Bool → ℕ → NodeId → Symbol → Parser (Option NodeId)
  suffix_by calls at left s.Dot = do
    take_token
    text ← any_name
    id ← add (node.Dot left text) at
    pure (Some id)
  suffix_by calls at left s.OpenBracket = do
    index ← node_of parts.Index
    id ← add (node.Index left index) at
    pure (Some id)
  suffix_by true at left s.OpenParen = do
    arguments ← nodes_of parts.Arguments
    id ← add (node.Call left arguments) at
    pure (Some id)
  suffix_by calls at left _ = pure None

  -- "." AnyName | "[" Expr "]" | Args
  unfoldable pub suffix : Bool → ℕ → NodeId → Parser (Option NodeId)
  suffix calls at left = peek >>= suffix_by calls at left

  abbrev pub go_on : (NodeId → Parser NodeId) → NodeId → Option NodeId → Parser NodeId
  go_on more left None = pure left
  go_on more left (Some longer) = more longer

  unfoldable pub suffixes_from : Bool → ℕ → ℕ → NodeId → Parser NodeId
  suffixes_from calls at zero left = pure left
  suffixes_from calls at (suc n) left = suffix calls at left >>= go_on (suffixes_from calls at n) left

  unfoldable pub suffixes : Bool → ℕ → NodeId → Parser NodeId
  suffixes calls at left = λ i. suffixes_from calls at (turns i) left i

  -- Left
  unfoldable pub left_side : Parser NodeId
  left_side = do
    at ← here
    first ← primary
    suffixes true at first

  abbrev arguments_if : Bool → Parser (List NodeId)
  arguments_if true = nodes_of parts.Arguments
  arguments_if false = pure []

  unfoldable pub new_arguments : Parser (List NodeId)
  new_arguments = seen s.OpenParen >>= arguments_if

  -- "new" Member [Args]
  unfoldable pub new_call : Parser NodeId
  new_call = do
    at ← here
    expect s.New
    inner ← here
    first ← primary
    callee ← suffixes false inner first
    arguments ← new_arguments
    add (node.New callee arguments) at

  -- ---- operators

  abbrev postfixed : NodeId → ℕ → Option Node → Parser (NodeId × Bool)
  postfixed left at None = pure (left, true)
  postfixed left at (Some update) = do
    take_token
    id ← add update at
    pure (id, false)

  -- Left ["++" | "--"], and whether it is a Left alone
  unfoldable pub postfix : Parser (NodeId × Bool)
  postfix = do
    at ← here
    left ← left_side
    symbol ← peek
    broken ← breaks
    postfixed left at (if broken then None else postfix_node symbol left)

  unfoldable pub unary : Parser (NodeId × Bool)
  unary = do
    symbol ← peek
    if is_prefix symbol then (λ id. (id, false)) <$> node_of parts.Unary else postfix

  abbrev prefixed : ℕ → Option Node → Parser NodeId
  prefixed at None = refuse
  prefixed at (Some operation) = add operation at

  unfoldable pub prefix : Parser NodeId
  prefix = do
    at ← here
    symbol ← peek
    take_token
    operand ← unary
    prefixed at (prefix_node symbol operand.0)

  abbrev operand_by : (ℕ → NodeId → Parser NodeId) → Parser NodeId
  operand_by more = do
    at ← here
    first ← unary
    more at first.0

  -- what goes on behind a first operand with operators of that level and below
  unfoldable pub operations : Bool → ℕ → ℕ → NodeId → Parser NodeId
  operations allow_in zero at first = pure first
  operations allow_in (suc n) at first =
      operations allow_in n at first >>= chain (operand_by (operations allow_in n)) (suc n) allow_in at

  unfoldable pub operand : Bool → ℕ → Parser NodeId
  operand allow_in level = operand_by (operations allow_in level)

  -- Or | BitOr ("??" BitOr)+, behind a first operand
  unfoldable pub short : Bool → ℕ → NodeId → Parser NodeId
  short allow_in at first = do
    left ← operations allow_in 8 at first
    coalescing ← seen s.Coalesce
    if coalescing then chain (operand allow_in 8) 11 allow_in at left else (do
      both ← chain (operand allow_in 8) 9 allow_in at left
      chain (operand allow_in 9) 10 allow_in at both)

  -- ["?" Assign ":" Assign], behind a test
  unfoldable pub conditional : Bool → ℕ → NodeId → Parser NodeId
  conditional allow_in at test = do
    asked ← eat s.Question
    if asked then (do
      then_part ← node_of (parts.Right allow_in)
      expect s.Colon
      else_part ← node_of (parts.Right allow_in)
      add (node.Cond test then_part else_part) at) else pure test

  -- behind a first operand: "Op Assign", or operators
  unfoldable pub behind_operand : Bool → ℕ → NodeId → Option (Option BinaryOperator) → Parser NodeId
  behind_operand allow_in at first None = short allow_in at first >>= conditional allow_in at
  behind_operand allow_in at first (Some operator) = do
    take_token
    value ← node_of (parts.Right allow_in)
    add (assign_node operator first value) at

  -- Cond | Left Op Assign
  unfoldable pub unparenthesized : Bool → Parser NodeId
  unparenthesized allow_in = do
    at ← here
    first ← unary
    symbol ← peek
    behind_operand allow_in at first.0 (if first.1 then assign_operator symbol else None)

  -- Name "=>" ..
  unfoldable pub arrow_of_name : Bool → Parser NodeId
  arrow_of_name allow_in = do
    at ← here
    bound ← bind_name
    body ← node_of (parts.ArrowBody allow_in)
    add (node.Arrow (function_of (one_parameter bound) body)) at

  -- "(" Params ")" "=>" ..
  unfoldable pub arrow_of_list : Bool → Parser NodeId
  arrow_of_list allow_in = do
    at ← here
    parameters ← parameters_of parts.Parameters
    body ← node_of (parts.ArrowBody allow_in)
    add (node.Arrow (function_of parameters body)) at

  unfoldable pub arrow_first : Bool → Parser NodeId
  arrow_first allow_in = fork (arrow_of_list allow_in) (unparenthesized allow_in)

  unfoldable pub group_first : Bool → Parser NodeId
  group_first allow_in = fork (unparenthesized allow_in) (arrow_of_list allow_in)

  -- what begins with `(`
  unfoldable pub parenthesized : Bool → Parser NodeId
  parenthesized allow_in = λ i. if is_arrow_ahead i then arrow_first allow_in i else group_first allow_in i

  unfoldable pub named : Bool → Parser NodeId
  named allow_in = λ i. if is_arrow_next i then arrow_of_name allow_in i else unparenthesized allow_in i

  -- Assign
  unfoldable pub assign : Bool → Parser NodeId
  assign allow_in = λ i. if sees s.OpenParen i then parenthesized allow_in i
      else (if is_name (symbol i) then named allow_in i else unparenthesized allow_in i)

  unfoldable pub sequence_from : Bool → ℕ → ℕ → NodeId → Parser NodeId
  sequence_from allow_in at zero left = pure left
  sequence_from allow_in at (suc n) left = do
    more ← eat s.Comma
    if more then (do
      second ← assign allow_in
      longer ← add (node.Seq left second) at
      sequence_from allow_in at n longer) else pure left

  unfoldable pub sequence : Bool → ℕ → NodeId → Parser NodeId
  sequence allow_in at first = λ i. sequence_from allow_in at (turns i) first i

  -- Expr
  unfoldable pub expression : Bool → Parser NodeId
  expression allow_in = do
    at ← here
    first ← assign allow_in
    sequence allow_in at first

  unfoldable pub arrow_body : Bool → Parser NodeId
  arrow_body allow_in = do
    arrow
    braces ← seen s.OpenBrace
    if braces then node_of parts.Block else assign allow_in

  -- ---- brackets and literals

  unfoldable pub group : Parser NodeId
  group = do
    expect s.OpenParen
    inner ← expression true
    expect s.CloseParen
    pure inner

  unfoldable pub index : Parser NodeId
  index = do
    expect s.OpenBracket
    inner ← expression true
    expect s.CloseBracket
    pure inner

  unfoldable pub computed_key : Parser NodeId
  computed_key = do
    expect s.OpenBracket
    inner ← assign true
    expect s.CloseBracket
    pure inner

  -- ["..."] Assign
  unfoldable pub element : Parser NodeId
  element = do
    at ← here
    spread ← eat s.Ellipsis
    if spread then (do list ← assign true; add (node.Spread list) at) else assign true

  unfoldable pub elements : Symbol → Parser (List NodeId)
  elements close = listed element close

  unfoldable pub arguments : Parser (List NodeId)
  arguments = expect s.OpenParen >> elements s.CloseParen

  unfoldable pub array : Parser NodeId
  array = do
    at ← here
    expect s.OpenBracket
    items ← elements s.CloseBracket
    add (node.ArrayLit items) at

  unfoldable pub template_from : ℕ → List (List ℕ) → List NodeId → Parser (List (List ℕ) × List NodeId)
  template_from zero texts parts = refuse
  template_from (suc n) texts parts = do
    value ← expression true
    last ← seen s.TemplateTail
    if last then (do text ← take_text; pure (texts ++ text ∷ [], parts ++ value ∷ [])) else (do
      middle ← seen s.TemplateMiddle
      if middle then (do text ← take_text; template_from n (texts ++ text ∷ []) (parts ++ value ∷ [])) else refuse)

  unfoldable pub template_parts : List ℕ → Parser (List (List ℕ) × List NodeId)
  template_parts first = λ i. template_from (turns i) (first ∷ []) [] i

  unfoldable pub template : Parser NodeId
  template = do
    at ← here
    first ← take_text
    pieces ← template_parts first
    add (node.Template pieces.0 pieces.1) at

  -- ---- object literals

  abbrev key_by : Symbol → Parser PropertyKey
  key_by s.OpenBracket = key.Computed <$> node_of parts.ComputedKey
  key_by s.Text = key.Written <$> take_text
  key_by s.Number = number_key <$> take_number
  key_by _ = key.Written <$> any_name

  -- Key
  unfoldable pub property_key : Parser PropertyKey
  property_key = peek >>= key_by

  -- behind a key: ":" Assign | Fun
  unfoldable pub member_under : PropertyKey → ℕ → Parser NodeId
  member_under written at = do
    given ← eat s.Colon
    if given then (do value ← assign true; add (node.Property written value) at)
        else (do function ← body_of parts.Method; add (node.Method written function) at)

  -- behind a name: as behind a key, or nothing
  -- a name that is both key and value
  unfoldable pub shorthand : List ℕ → ℕ → Parser NodeId
  shorthand text at = do
    value ← add (node.Name text) at
    add (node.Property (key.Written text) value) at

  abbrev named_member_by : List ℕ → ℕ → Symbol → Parser NodeId
  named_member_by text at s.Colon = member_under (key.Written text) at
  named_member_by text at s.OpenParen = member_under (key.Written text) at
  named_member_by text at _ = shorthand text at

  unfoldable pub named_member : List ℕ → ℕ → Parser NodeId
  named_member text at = peek >>= named_member_by text at

  abbrev getter_by : List ℕ → ℕ → Bool → Parser NodeId
  getter_by text at true = do
    written ← property_key
    function ← body_of parts.Getter
    add (node.Getter written function) at
  getter_by text at false = named_member text at

  abbrev setter_by : List ℕ → ℕ → Bool → Parser NodeId
  setter_by text at true = do
    written ← property_key
    function ← body_of parts.Setter
    add (node.Setter written function) at
  setter_by text at false = named_member text at

  -- behind `get`, and behind `set`
  unfoldable pub getter : List ℕ → ℕ → Parser NodeId
  getter text at = peek >>= λ symbol. getter_by text at (starts_key symbol)

  unfoldable pub setter : List ℕ → ℕ → Parser NodeId
  setter text at = peek >>= λ symbol. setter_by text at (starts_key symbol)

  abbrev member_by : ℕ → Symbol → Parser NodeId
  member_by at s.Get = take_text >>= λ text. getter text at
  member_by at s.Set = take_text >>= λ text. setter text at
  member_by at s.Name = take_text >>= λ text. named_member text at
  member_by at s.Of = take_text >>= λ text. named_member text at
  member_by at _ = property_key >>= λ written. member_under written at

  -- Prop
  unfoldable pub member : Parser NodeId
  member = do
    at ← here
    symbol ← peek
    member_by at symbol

  unfoldable pub members : Parser (List NodeId)
  members = listed member s.CloseBrace

  unfoldable pub object : Parser NodeId
  object = do
    at ← here
    expect s.OpenBrace
    found ← members
    add (node.ObjectLit found) at
