-- What is left of the rows in progress: the rest of each frame, in the words of its row.
use Rattle.std.specs.Prelude.{ℕ, ◌+◌, List, [], ◌∷◌, ◌++◌, drop, map, Option, Some, None, Bool, true, false, if◌then◌else◌, slice_get}
use Rattle.std.specs.Option.{option_map_or}
use Rattle.world_heap.specs.declared.value.Value.{Value}
use Rattle.world_heap.specs.declared.value.Value.TheVariants.{Undefined, Ref, Bool as Boolean}
use Rattle.world_heap.specs.declared.cell.Cell.{Cell}
use Rattle.js_tree.specs.declared.node.NodeId.{NodeId}
use Rattle.js_tree.specs.declared.node.Declarator.{Declarator}
use Rattle.js_tree.specs.declared.node.BindElement.{BindElement}
use Rattle.js_tree.specs.declared.node.BindProperty.{BindProperty}
use Rattle.js_tree.specs.declared.node.Function.{Function}
use Rattle.js_tree.specs.declared.node.PropertyKey.{PropertyKey}
use Rattle.js_tree.specs.declared.node.BinaryOperator.{BinaryOperator}
use Rattle.js_tree.specs.declared.node.Node.{Node}
use Rattle.js_tree.specs.declared.node.Node.TheVariants as kinds
use Rattle.js_semantics.specs.declared.outcome.Outcome.{Outcome}
use Rattle.js_semantics.specs.declared.outcome.Outcome.TheVariants.{Normal, Return, Thrown}
use Rattle.js_semantics.specs.declared.scope.Scope.{Scope}
use Rattle.js_semantics.specs.declared.fault.Fault.TheVariants.{NotAnObject, NotDefined}
use Rattle.js_semantics.specs.World.{World, cell_at}
use Rattle.js_semantics.specs.Prog.{Prog, Cont, End, Over, Enter, Read, Write, Request, Node as NodeRequest, While, DoWhile, For, bind, on_value, eval, give, done, throw}
use Rattle.js_semantics.specs.Properties.{plain, object_of}
use Rattle.js_semantics.specs.Environments.{env_cell}
use Rattle.js_semantics.specs.Operators.{is_truthy, primitive_text, key_of, unary_of}
use Rattle.js_semantics.specs.Access.{function_of, bind_value, bind_parameters, rest_of, first_of, call, define, get, set, delete, leave, given_by, or_default, write_name, read_name}
use Rattle.js_semantics.specs.Expressions.{apply, assign_by, coalesced, compute, first_text, further_texts, give_type, inherits, template_from, updated, with_key}
use Rattle.js_semantics.specs.Iteration.{arguments_from, elements_into, items_at, push_items, walk_value}
use Rattle.js_semantics.specs.Objects.{construct, constructed, members_into, member_under}
use Rattle.js_semantics.specs.Statements.{after_body, at_last, bind_elements, bind_properties, caught, declare_pairs, do_turn, for_start, for_tested, for_turn, of_bound, of_turn, replaced_by, run_items, run_or_done, while_turn}
use Rattle.js_semantics.specs.Run.{script_end}
use Rattle.js_machine.specs.declared.frame.Key.{Key}
use Rattle.js_machine.specs.declared.frame.Key.TheVariants.{Named, Text}
use Rattle.js_machine.specs.declared.frame.Place.{Place}
use Rattle.js_machine.specs.declared.frame.Place.TheVariants as places
use Rattle.js_machine.specs.declared.frame.Use.{Use}
use Rattle.js_machine.specs.declared.frame.Use.TheVariants as uses
use Rattle.js_machine.specs.declared.frame.CallTarget.{CallTarget}
use Rattle.js_machine.specs.declared.frame.CallTarget.TheVariants as targets
use Rattle.js_machine.specs.declared.frame.ForLoop.{ForLoop}
use Rattle.js_machine.specs.declared.frame.OperandFrame.{OperandFrame}
use Rattle.js_machine.specs.declared.frame.OperandFrame.TheVariants as operands
use Rattle.js_machine.specs.declared.frame.PropertyFrame.{PropertyFrame}
use Rattle.js_machine.specs.declared.frame.PropertyFrame.TheVariants as properties
use Rattle.js_machine.specs.declared.frame.CallFrame.{CallFrame}
use Rattle.js_machine.specs.declared.frame.CallFrame.TheVariants as calls
use Rattle.js_machine.specs.declared.frame.LiteralFrame.{LiteralFrame}
use Rattle.js_machine.specs.declared.frame.LiteralFrame.TheVariants as literals
use Rattle.js_machine.specs.declared.frame.StatementFrame.{StatementFrame}
use Rattle.js_machine.specs.declared.frame.StatementFrame.TheVariants as statements
use Rattle.js_machine.specs.declared.frame.PatternFrame.{PatternFrame}
use Rattle.js_machine.specs.declared.frame.PatternFrame.TheVariants as patterns
use Rattle.js_machine.specs.declared.frame.ValueFrame.{ValueFrame}
use Rattle.js_machine.specs.declared.frame.ValueFrame.TheVariants as values
use Rattle.js_machine.specs.declared.frame.AfterFrame.{AfterFrame}
use Rattle.js_machine.specs.declared.frame.AfterFrame.TheVariants as afters
use Rattle.js_machine.specs.declared.frame.Frame.{Frame}
use Rattle.js_machine.specs.declared.frame.Frame.TheVariants as frames
use Rattle.js_machine.specs.Parts.{name_of, items_of, texts_of, parts_of, declarators_of, elements_of, entries_of, parameters_from, rest_parameter, body_node, key_part}

-- the text of a key
abbrev pub key_text : List Node → Key → List ℕ
key_text nodes (Named node) = name_of (slice_get nodes node.0)
key_text nodes (Text text) = text

-- the key of a member, which is written in it where it isn't this text
abbrev pub property_key : List Node → NodeId → Option (List ℕ) → List ℕ
property_key nodes node None = key_part (slice_get nodes node.0)
property_key nodes node (Some text) = text

module _ {L : Type 0} (nodes : List Node) where
  -- writes a place, and then goes on
  abbrev pub write_place : Place L → Value L → Prog L → Prog L
  write_place (places.Name node env) v p = write_name env (name_of (slice_get nodes node.0)) v p
  write_place (places.Property base key) v p = set base (key_text nodes key) v p

  -- what a list of arguments is evaluated for
  abbrev pub target_call : CallTarget L → List (Value L) → Prog L
  target_call (targets.Call callee receiver) vs = call callee receiver vs (λ v. give v)
  target_call (targets.New callee) vs = construct callee vs (λ v. give v)

  -- the arguments of a node from a place on, behind those that are evaluated already
  abbrev pub arguments_rest : NodeId → ℕ → List (Value L) → CallTarget L → Scope L → Prog L
  arguments_rest node next before target scope =
      arguments_from before (drop next (items_of (slice_get nodes node.0))) scope (λ vs. target_call target vs)

  -- what is done with a property
  abbrev pub use_rest : Use → Value L → Key → Scope L → Prog L
  use_rest uses.Get base key scope = get base (key_text nodes key) (λ v. give v)
  use_rest (uses.Update operator before) base key scope =
      get base (key_text nodes key) (λ old. updated operator before old (λ new p. write_place (places.Property base key) new p))
  use_rest uses.Delete base key scope = delete base (key_text nodes key)
  use_rest (uses.Assign value) base key scope = eval value scope (λ v. set base (key_text nodes key) v (give v))
  use_rest (uses.AssignBy operator value) base key scope =
      get base (key_text nodes key) (λ old. assign_by operator old value scope (λ new p. write_place (places.Property base key) new p))
  use_rest (uses.Call node) base key scope =
      get base (key_text nodes key) (λ f. arguments_rest node 0 [] (targets.Call f base) scope)

  abbrev pub operand_rest : OperandFrame L → Value L → Prog L
  operand_rest (operands.TemplatePart node next before scope) v =
      with_key (primitive_text v) (λ text. template_from (before ++ text) (drop next (texts_of (slice_get nodes node.0))) (drop next (parts_of (slice_get nodes node.0))) scope)
  operand_rest (operands.Unary operator) v = compute (unary_of operator v) (λ x. give x)
  operand_rest operands.Typeof v = give_type v
  operand_rest operands.Delete v = give (Boolean true)
  operand_rest (operands.BinaryLeft operator right scope) x = eval right scope (λ y. apply operator x y (λ v. give v))
  operand_rest (operands.BinaryRight operator x) y = apply operator x y (λ v. give v)
  operand_rest (operands.And right scope) x = if is_truthy x then eval right scope (λ y. give y) else give x
  operand_rest (operands.Or right scope) x = if is_truthy x then give x else eval right scope (λ y. give y)
  operand_rest (operands.Nullish right scope) x = coalesced x right scope
  operand_rest (operands.Cond first second scope) v = eval (if is_truthy v then first else second) scope (λ x. give x)
  operand_rest (operands.Seq second scope) x = eval second scope (λ y. give y)
  operand_rest (operands.AssignValue place) v = write_place place v (give v)
  operand_rest (operands.AssignOperand operator old place) v = apply operator old v (λ new. write_place place new (give new))

  abbrev pub property_rest : PropertyFrame L → Value L → Prog L
  property_rest (properties.DotObject node usage scope) base = use_rest usage base (Named node) scope
  property_rest (properties.IndexObject key usage scope) base =
      eval key scope (λ v. with_key (key_of v) (λ text. use_rest usage base (Text text) scope))
  property_rest (properties.IndexKey base usage scope) v = with_key (key_of v) (λ text. use_rest usage base (Text text) scope)

  -- the parameters of a node's function from a place on, and its body
  abbrev pub parameters_rest : NodeId → ℕ → List (Value L) → Scope L → Prog L
  parameters_rest node at arguments scope =
      bind_parameters (drop at (parameters_from (slice_get nodes node.0))) (rest_parameter (slice_get nodes node.0)) (drop at arguments) scope (Enter (NodeRequest (body_node (slice_get nodes node.0)) scope) (λ o. End o))

  -- binds the parameter at a place, and goes on with those behind it
  abbrev pub parameter_rest : NodeId → List BindElement → ℕ → List (Value L) → Scope L → Value L → Prog L
  parameter_rest node [] at arguments scope v = done
  parameter_rest node (element ∷ elements) at arguments scope v = bind_value element.bind v scope (parameters_rest node (at + 1) arguments scope)

  abbrev pub call_rest : CallFrame L → Value L → Prog L
  call_rest (calls.Callee node scope) f = arguments_rest node 0 [] (targets.Call f Undefined) scope
  call_rest (calls.NewCallee node scope) f = arguments_rest node 0 [] (targets.New f) scope
  call_rest (calls.Argument node next false before target scope) v = arguments_rest node next (before ++ v ∷ []) target scope
  call_rest (calls.Argument node next true before target scope) v =
      walk_value v (λ array. Read (λ w. arguments_rest node next (before ++ items_at (cell_at array w)) target scope))
  call_rest (calls.ParameterDefault node at arguments scope) v =
      parameter_rest node (drop at (parameters_from (slice_get nodes node.0))) at arguments scope v
  call_rest (calls.ParameterBound node next arguments scope) v = parameters_rest node next arguments scope
  call_rest (calls.RestBound node scope) v = Enter (NodeRequest (body_node (slice_get nodes node.0)) scope) (λ o. End o)

  abbrev pub literal_rest : LiteralFrame L → Value L → Prog L
  literal_rest (literals.Element node next false array scope) v =
      push_items array (v ∷ []) (elements_into array (drop next (items_of (slice_get nodes node.0))) scope (give (Ref array)))
  literal_rest (literals.Element node next true array scope) v =
      walk_value v (λ walked. Read (λ w. push_items array (items_at (cell_at walked w)) (elements_into array (drop next (items_of (slice_get nodes node.0))) scope (give (Ref array)))))
  literal_rest (literals.Member node next object scope) v =
      members_into object (drop next (items_of (slice_get nodes node.0))) scope (give (Ref object))
  literal_rest (literals.MemberKey node object scope) v =
      with_key (key_of v) (λ text. member_under (slice_get nodes node.0) node object scope text)
  literal_rest (literals.PropertyValue node key object) v = define object (property_key nodes node key) (λ old. plain v) done

  abbrev pub declared_rest : List Declarator → Scope L → Value L → Prog L
  declared_rest [] scope v = done
  declared_rest (pair ∷ pairs) scope v = bind_value pair.bind v scope (declare_pairs pairs scope)

  abbrev pub statement_rest : StatementFrame L → Value L → Prog L
  statement_rest (statements.Item node next scope) v = run_items (drop next (items_of (slice_get nodes node.0))) scope
  statement_rest (statements.DeclaredValue node at scope) v = declared_rest (drop at (declarators_of (slice_get nodes node.0))) scope v
  statement_rest (statements.Declared node next scope) v = declare_pairs (drop next (declarators_of (slice_get nodes node.0))) scope
  statement_rest statements.Expression v = done
  statement_rest (statements.If first second scope) v = run_or_done (if is_truthy v then Some first else second) scope
  statement_rest statements.Return v = End (Return v)
  statement_rest statements.Throw v = End (Thrown v)
  statement_rest (statements.WhileTest test body scope) v = while_turn test body scope v
  statement_rest (statements.DoTest body test scope) v = if is_truthy v then Enter (DoWhile body test scope) (λ p. End p) else done
  statement_rest (statements.ForFirst turn scope) v = for_start turn.copied turn.test turn.next turn.body scope
  statement_rest (statements.ForTest turn scope) v = for_tested turn.copied turn.test turn.next turn.body scope v
  statement_rest (statements.ForNext turn scope) v = Enter (For turn.copied turn.test turn.next turn.body scope) (λ p. End p)
  statement_rest (statements.ForOfList constant pattern body scope) v = walk_value v (λ array. of_turn constant pattern body array 0 scope)
  statement_rest (statements.ForOfBound constant pattern body array place turn around) v = of_bound constant pattern body array place turn around
  statement_rest (statements.HandlerBound handler scope) v = Enter (NodeRequest handler scope) (λ o. End o)

  -- binds the property or element of a pattern at a place, and goes on with those behind it
  abbrev pub property_bound : List BindProperty → Value L → Scope L → Value L → Prog L
  property_bound [] of scope v = done
  property_bound (part ∷ parts) of scope v = bind_value part.bind v scope (bind_properties parts of scope)

  abbrev pub property_read : List BindProperty → Value L → Scope L → Value L → Prog L
  property_read [] of scope v = done
  property_read (part ∷ parts) of scope v = or_default part.default v scope (λ y. bind_value part.bind y scope (bind_properties parts of scope))

  abbrev pub element_bound : List BindElement → ℕ → L → Scope L → Value L → Prog L
  element_bound [] at array scope v = done
  element_bound (part ∷ parts) at array scope v = bind_value part.bind v scope (bind_elements parts (at + 1) array scope)

  abbrev pub pattern_rest : PatternFrame L → Value L → Prog L
  pattern_rest (patterns.PropertyDefault node at of scope) v = property_bound (drop at (entries_of (slice_get nodes node.0))) of scope v
  pattern_rest (patterns.PropertyBound node next of scope) v = bind_properties (drop next (entries_of (slice_get nodes node.0))) of scope
  pattern_rest (patterns.ElementDefault node at array scope) v = element_bound (drop at (elements_of (slice_get nodes node.0))) at array scope v
  pattern_rest (patterns.ElementBound node next array scope) v = bind_elements (drop next (elements_of (slice_get nodes node.0))) next array scope

  -- what is left of a row that goes on only with a value
  abbrev pub value_rest : ValueFrame L → Value L → Prog L
  value_rest (values.Operand f) v = operand_rest f v
  value_rest (values.Property f) v = property_rest f v
  value_rest (values.Call f) v = call_rest f v
  value_rest (values.Literal f) v = literal_rest f v
  value_rest (values.Statement f) v = statement_rest f v
  value_rest (values.Pattern f) v = pattern_rest f v

  -- what follows the `prototype` of the right side of `instanceof`
  abbrev pub instance_rest : Value L → Value L → (Value L → Prog L) → Prog L
  instance_rest x p k = Read (λ v. elim (object_of p v) [
    | Some target ↦ k (Boolean (inherits (object_of x v) target v))
    | None ↦ throw NotAnObject
  ])

  -- what follows the reading of a property or a name
  abbrev pub after_rest : AfterFrame L → Value L → Prog L
  after_rest afters.Give v = give v
  after_rest (afters.Result value) v = give value
  after_rest (afters.Constructed object) v = Read (λ w. give (constructed object v w))
  after_rest afters.Typeof v = give_type v
  after_rest (afters.Update operator before place) old = updated operator before old (λ new p. write_place place new p)
  after_rest (afters.AssignBy operator value place scope) old = assign_by operator old value scope (λ new p. write_place place new p)
  after_rest (afters.Callee node base scope) f = arguments_rest node 0 [] (targets.Call f base) scope
  after_rest (afters.Instance x) p = instance_rest x p (λ v. give v)
  after_rest (afters.AssignInstance x place) p = instance_rest x p (λ new. write_place place new (give new))
  after_rest (afters.PropertyRead node at of scope) v = property_read (drop at (entries_of (slice_get nodes node.0))) of scope v

  -- the rest of a frame's row, once the node below it has ended
  abbrev pub rest : Frame L → Cont L
  rest (frames.OnValue f) o = on_value (λ v. value_rest f v) o
  rest (frames.After f) o = on_value (λ v. after_rest f v) o
  rest frames.Script o = script_end o
  rest frames.Leave o = leave (λ p. End p) o
  rest (frames.WhileBody test body scope) o = after_body (Enter (While test body scope) (λ p. End p)) o
  rest (frames.DoBody body test scope) o = do_turn body test scope o
  rest (frames.ForBody turn scope) o = for_turn turn.copied turn.test turn.next turn.body scope o
  rest (frames.ForOfBody constant pattern body array place around) o = after_body (of_turn constant pattern body array (place + 1) around) o
  rest (frames.Catch pattern handler scope) o = caught pattern handler scope o
  rest (frames.Last last scope) o = at_last last scope o
  rest (frames.Replaced before) o = replaced_by before o

  -- the rest of all frames, of which the last is the topmost, and then k
  abbrev pub under : Cont L → List (Frame L) → Cont L
  under k [] = k
  under k (f ∷ fs) = under (λ o. bind (rest f o) k) fs
