-- The rows of expressions (ECMA-262, 13): names, literals, templates, operators, properties and assignments.
use Rattle.std.specs.Prelude.{ℕ, zero, suc, List, [], ◌∷◌, ◌++◌, length, ℤ, pos, ◌+ℤ◌, ◌-ℤ◌, Option, Some, None, Bool, true, false, if◌then◌else◌, slice_get, codes}
use Rattle.std.specs.Option.{option_and_then}
use Rattle.world_heap.specs.declared.value.Value.{Value}
use Rattle.world_heap.specs.declared.value.Value.TheVariants.{Undefined, Null, Bool as Boolean, Num, Str, Ref}
use Rattle.world_heap.specs.declared.cell.Cell.{Cell}
use Rattle.world_heap.specs.declared.cell.Cell.TheVariants.{Closure, Native as NativeCell, Far, Symbol}
use Rattle.world_heap.specs.Heaps.{proto_of}
use Rattle.js_tree.specs.declared.node.NodeId.{NodeId}
use Rattle.js_tree.specs.declared.node.BinaryOperator.{BinaryOperator}
use Rattle.js_tree.specs.declared.node.BinaryOperator.TheVariants.{InstanceOf, In, StrictEqual, StrictNotEqual}
use Rattle.js_tree.specs.declared.node.UnaryOperator.{UnaryOperator}
use Rattle.js_tree.specs.declared.node.UpdateOperator.{UpdateOperator}
use Rattle.js_tree.specs.declared.node.UpdateOperator.TheVariants.{Increment, Decrement}
use Rattle.js_tree.specs.declared.node.Node.{Node}
use Rattle.js_tree.specs.declared.node.Node.TheVariants as kinds
use Rattle.js_semantics.specs.declared.fault.Fault.TheVariants.{NotAnObject, WrongOperand, NotDefined}
use Rattle.js_semantics.specs.declared.scope.Scope.{Scope}
use Rattle.js_semantics.specs.World.{World, cell_at, cell_of}
use Rattle.js_semantics.specs.Prog.{Prog, Read, eval, step, give, throw, make_text}
use Rattle.js_semantics.specs.Properties.{has_property, object_of}
use Rattle.js_semantics.specs.Operators.{Computed, Is, Makes, Fails, is_truthy, primitive_text, key_of, strictly_equal, whole, of_operands, unary_of}
use Rattle.js_semantics.specs.Access.{get, set, delete, read_name, write_name}

-- whether a cell can be called
abbrev pub is_callable : {L : Type 0} → Option (Cell L) → Bool
is_callable (Some (Closure body node env kept)) = true
is_callable (Some (NativeCell body id kept)) = true
is_callable (Some (Far body number)) = true
is_callable other = false

-- the type of an object, by its cell
abbrev pub object_type : {L : Type 0} → Option (Cell L) → List ℕ
object_type (Some (Closure body node env kept)) = codes "function"
object_type (Some (NativeCell body id kept)) = codes "function"
object_type (Some (Far body number)) = codes "function"
object_type (Some (Symbol text)) = codes "symbol"
object_type other = codes "object"

abbrev pub first_text : List (List ℕ) → List ℕ
first_text [] = []
first_text (text ∷ texts) = text

abbrev pub further_texts : List (List ℕ) → List (List ℕ)
further_texts [] = []
further_texts (text ∷ texts) = texts

-- the number after an update (ECMA-262, 13.4)
abbrev pub moved_by : UpdateOperator → ℤ → ℤ
moved_by Increment z = z +ℤ pos 1
moved_by Decrement z = z -ℤ pos 1

module _ {L : Type 0} where
  -- the word of a value's type (ECMA-262, 13.5.3)
  abbrev pub type_word : Value L → World L → List ℕ
  type_word Undefined w = codes "undefined"
  type_word Null w = codes "object"
  type_word (Boolean b) w = codes "boolean"
  type_word (Num z) w = codes "number"
  type_word (Str t) w = codes "string"
  type_word (Ref loc) w = object_type (cell_at loc w)

  abbrev pub give_type : Value L → Prog L
  give_type v = Read (λ w. give (Str (type_word v w)))

  -- goes on with what an operator comes to
  unfoldable pub compute : Computed L → (Value L → Prog L) → Prog L
  compute (Is v) k = k v
  compute (Makes text) k = make_text text k
  compute (Fails fault) k = throw fault

  -- the key that a value is, as soon as it is evaluated
  abbrev pub with_key : Option (List ℕ) → (List ℕ → Prog L) → Prog L
  with_key None k = throw WrongOperand
  with_key (Some key) k = k key

  -- the object and the key of `x[key]`
  abbrev pub index_parts : NodeId → NodeId → Scope L → (Value L → List ℕ → Prog L) → Prog L
  index_parts object key scope k = eval object scope (λ base. eval key scope (λ v. with_key (key_of v) (λ text. k base text)))

  -- 13.1 Identifiers, 13.2 Primary Expressions

  unfoldable pub row_name : List ℕ → Scope L → Prog L
  row_name name scope = read_name scope.env name (throw NotDefined) (λ v. give v)

  unfoldable pub row_this : Scope L → Prog L
  row_this scope = give scope.receiver

  -- 13.2.8 Template Literals: the texts and parts that follow what is joined already
  abbrev pub template_from : List ℕ → List (List ℕ) → List NodeId → Scope L → Prog L
  template_from before texts [] scope = make_text (before ++ first_text texts) (λ v. give v)
  template_from before texts (part ∷ parts) scope = eval part scope (λ v. with_key (primitive_text v) (λ text. template_from (before ++ (first_text texts ++ text)) (further_texts texts) parts scope))

  unfoldable pub row_template : List (List ℕ) → List NodeId → Scope L → Prog L
  row_template texts parts scope = template_from [] texts parts scope

  -- 13.3 Left-Hand-Side Expressions: properties

  unfoldable pub row_dot : NodeId → List ℕ → Scope L → Prog L
  row_dot object name scope = eval object scope (λ base. get base name (λ v. give v))

  unfoldable pub row_index : NodeId → NodeId → Scope L → Prog L
  row_index object key scope = index_parts object key scope (λ base text. get base text (λ v. give v))

  -- 13.4 Update Expressions

  -- the new number is written, and it or the old one given
  abbrev pub updated : UpdateOperator → (before : Bool) → Value L → (Value L → Prog L → Prog L) → Prog L
  updated operator before (Num z) write = compute (whole (moved_by operator z)) (λ new. write new (give (if before then new else Num z)))
  updated operator before other write = throw WrongOperand

  abbrev pub update_target : UpdateOperator → (before : Bool) → Option Node → Scope L → Prog L
  update_target operator before (Some (kinds.Name name)) scope =
      step (read_name scope.env name (throw NotDefined) (λ old. updated operator before old (λ new p. write_name scope.env name new p)))
  update_target operator before (Some (kinds.Dot object name)) scope =
      step (eval object scope (λ base. get base name (λ old. updated operator before old (λ new p. set base name new p))))
  update_target operator before (Some (kinds.Index object key)) scope =
      step (index_parts object key scope (λ base text. get base text (λ old. updated operator before old (λ new p. set base text new p))))
  update_target operator before other scope = throw WrongOperand

  unfoldable pub row_update : UpdateOperator → NodeId → (before : Bool) → Scope L → Prog L
  row_update operator target before scope = Read (λ w. update_target operator before (slice_get w.tree target.0) scope)

  -- 13.5 Unary Operators

  unfoldable pub row_unary : UnaryOperator → NodeId → Scope L → Prog L
  row_unary operator operand scope = eval operand scope (λ v. compute (unary_of operator v) (λ x. give x))

  -- an undeclared name has the type of undefined
  abbrev pub type_of_node : Option Node → NodeId → Scope L → Prog L
  type_of_node (Some (kinds.Name name)) operand scope = step (read_name scope.env name (give_type Undefined) (λ v. give_type v))
  type_of_node other operand scope = eval operand scope (λ v. give_type v)

  unfoldable pub row_typeof : NodeId → Scope L → Prog L
  row_typeof operand scope = Read (λ w. type_of_node (slice_get w.tree operand.0) operand scope)

  abbrev pub delete_target : Option Node → NodeId → Scope L → Prog L
  delete_target (Some (kinds.Dot object name)) operand scope = step (eval object scope (λ base. delete base name))
  delete_target (Some (kinds.Index object key)) operand scope = step (index_parts object key scope (λ base text. delete base text))
  delete_target other operand scope = eval operand scope (λ v. give (Boolean true))

  unfoldable pub row_delete : NodeId → Scope L → Prog L
  row_delete operand scope = Read (λ w. delete_target (slice_get w.tree operand.0) operand scope)

  -- 13.6 to 13.12 Operators between two operands

  -- whether a location is on the chain of prototypes above another, which has at most so many objects
  abbrev pub is_above : ℕ → L → L → World L → Bool
  is_above zero target loc w = false
  is_above (suc n) target loc w = elim (option_and_then proto_of (cell_at loc w)) [
    | Some proto ↦ if w.same proto target then true else is_above n target proto w
    | None ↦ false
  ]

  abbrev pub inherits : Option L → L → World L → Bool
  inherits None target w = false
  inherits (Some loc) target w = is_above (length w.heap) target loc w

  -- 13.10.2 InstanceofOperator: the right side is callable, and its `prototype` an object
  abbrev pub instance_of : Value L → Value L → (Value L → Prog L) → Prog L
  instance_of x y k = Read (λ w. if is_callable (cell_of y w) then get y (codes "prototype") (λ p. Read (λ v. elim (object_of p v) [
    | Some target ↦ k (Boolean (inherits (object_of x v) target v))
    | None ↦ throw NotAnObject
  ])) else throw WrongOperand)

  abbrev pub has_key : Option (List ℕ) → Option L → World L → (Value L → Prog L) → Prog L
  has_key (Some key) (Some loc) w k = k (Boolean (has_property loc key w))
  has_key other object w k = throw WrongOperand

  -- what an operator gives for two operands
  unfoldable pub apply : BinaryOperator → Value L → Value L → (Value L → Prog L) → Prog L
  apply InstanceOf x y k = instance_of x y k
  apply In x y k = Read (λ w. has_key (key_of x) (object_of y w) w k)
  apply StrictEqual x y k = Read (λ w. k (Boolean (strictly_equal w.same x y)))
  apply StrictNotEqual x y k = Read (λ w. k (Boolean (if strictly_equal w.same x y then false else true)))
  apply operator x y k = compute (of_operands operator x y) k

  unfoldable pub row_binary : BinaryOperator → NodeId → NodeId → Scope L → Prog L
  row_binary operator left right scope = eval left scope (λ x. eval right scope (λ y. apply operator x y (λ v. give v)))

  -- 13.13 Binary Logical Operators

  unfoldable pub row_and : NodeId → NodeId → Scope L → Prog L
  row_and left right scope = eval left scope (λ x. if is_truthy x then eval right scope (λ y. give y) else give x)

  unfoldable pub row_or : NodeId → NodeId → Scope L → Prog L
  row_or left right scope = eval left scope (λ x. if is_truthy x then give x else eval right scope (λ y. give y))

  -- undefined and null give way to the right side
  abbrev pub coalesced : Value L → NodeId → Scope L → Prog L
  coalesced Undefined right scope = eval right scope (λ y. give y)
  coalesced Null right scope = eval right scope (λ y. give y)
  coalesced x right scope = give x

  unfoldable pub row_nullish : NodeId → NodeId → Scope L → Prog L
  row_nullish left right scope = eval left scope (λ x. coalesced x right scope)

  -- 13.14 Conditional Operator, 13.16 Comma Operator

  unfoldable pub row_cond : NodeId → NodeId → NodeId → Scope L → Prog L
  row_cond test first second scope = eval test scope (λ v. eval (if is_truthy v then first else second) scope (λ x. give x))

  unfoldable pub row_seq : NodeId → NodeId → Scope L → Prog L
  row_seq first second scope = eval first scope (λ x. eval second scope (λ y. give y))

  -- 13.15 Assignment Operators

  abbrev pub assign_to : Option Node → NodeId → Scope L → Prog L
  assign_to (Some (kinds.Name name)) value scope = step (eval value scope (λ v. write_name scope.env name v (give v)))
  assign_to (Some (kinds.Dot object name)) value scope =
      step (eval object scope (λ base. eval value scope (λ v. set base name v (give v))))
  assign_to (Some (kinds.Index object key)) value scope =
      step (index_parts object key scope (λ base text. eval value scope (λ v. set base text v (give v))))
  assign_to other value scope = throw WrongOperand

  unfoldable pub row_assign : NodeId → NodeId → Scope L → Prog L
  row_assign target value scope = Read (λ w. assign_to (slice_get w.tree target.0) value scope)

  -- the target's value, then the other operand, the operator, and the write
  abbrev pub assign_by : BinaryOperator → Value L → NodeId → Scope L → (Value L → Prog L → Prog L) → Prog L
  assign_by operator old value scope write = eval value scope (λ v. apply operator old v (λ new. write new (give new)))

  abbrev pub assign_with : BinaryOperator → Option Node → NodeId → Scope L → Prog L
  assign_with operator (Some (kinds.Name name)) value scope =
      step (read_name scope.env name (throw NotDefined) (λ old. assign_by operator old value scope (λ new p. write_name scope.env name new p)))
  assign_with operator (Some (kinds.Dot object name)) value scope =
      step (eval object scope (λ base. get base name (λ old. assign_by operator old value scope (λ new p. set base name new p))))
  assign_with operator (Some (kinds.Index object key)) value scope =
      step (index_parts object key scope (λ base text. get base text (λ old. assign_by operator old value scope (λ new p. set base text new p))))
  assign_with operator other value scope = throw WrongOperand

  unfoldable pub row_assign_with : BinaryOperator → NodeId → NodeId → Scope L → Prog L
  row_assign_with operator target value scope = Read (λ w. assign_with operator (slice_get w.tree target.0) value scope)
