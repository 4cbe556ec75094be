-- The rows of expressions make nothing themselves.
use Rattle.std.proofs.Common.{ℕ, List, [], ◌∷◌, ◌++◌, Bool, Option, Some, None}
use Rattle.std.specs.Prelude.{slice_get, codes}
use Rattle.world_heap.specs.declared.value.Value.{Value}
use Rattle.world_heap.specs.declared.value.Value.TheVariants.{Undefined, Null, Bool as Boolean, Num}
use Rattle.js_tree.specs.declared.node.NodeId.{NodeId}
use Rattle.js_tree.specs.declared.node.BinaryOperator.{BinaryOperator}
use Rattle.js_tree.specs.declared.node.BinaryOperator.TheVariants.{InstanceOf, In, StrictEqual, StrictNotEqual}
use Rattle.js_tree.specs.declared.node.UnaryOperator.{UnaryOperator}
use Rattle.js_tree.specs.declared.node.UpdateOperator.{UpdateOperator}
use Rattle.js_tree.specs.declared.node.Node.{Node}
use Rattle.js_tree.specs.declared.node.Node.TheVariants as kinds
use Rattle.js_semantics.specs.declared.fault.Fault.TheVariants.{NotAnObject, WrongOperand}
use Rattle.js_semantics.specs.declared.scope.Scope.{Scope}
use Rattle.js_semantics.specs.World.{World, cell_of}
use Rattle.js_semantics.specs.Prog.{Prog, throw}
use Rattle.js_semantics.specs.Properties.{object_of}
use Rattle.js_semantics.specs.Operators.{Computed, Is, Makes, Fails, primitive_text, key_of, of_operands}
use Rattle.js_semantics.specs.Expressions.{is_callable, first_text, further_texts, compute, with_key, index_parts, row_name, row_this, template_from, row_template, row_dot, row_index, updated, update_target, row_update, row_unary, type_of_node, row_typeof, delete_target, row_delete, inherits, instance_of, has_key, apply, row_binary, row_and, row_or, coalesced, row_nullish, row_cond, row_seq, assign_to, row_assign, assign_by, assign_with, row_assign_with}
use Rattle.alone_laws.proofs.Orderly.{Steady, SteadyFor, if_steady, on_value_steady, throw_steady, make_text_steady}
use Rattle.alone_laws.proofs.OrderlyAccess.{steady_access, get_steady}

module _ {L : Type 0} (asked : Bool) where
  pub compute_steady : (computed : Computed L) (k : Value L → Prog L) → SteadyFor asked k → Steady asked (compute computed k)
  unfolding compute
  compute_steady (Is v) k h = h v
  compute_steady (Makes text) k h = make_text_steady asked text k h
  compute_steady (Fails fault) k h = throw_steady L asked fault

  pub with_key_steady : (key : Option (List ℕ)) (k : List ℕ → Prog L) → SteadyFor asked k → Steady asked (with_key key k)
  with_key_steady None k h = throw_steady L asked WrongOperand
  with_key_steady (Some key) k h = h key

  pub index_parts_steady : (object key : NodeId) (scope : Scope L) (k : Value L → List ℕ → Prog L) → ((v : Value L) → SteadyFor asked (k v)) → Steady asked (index_parts object key scope k)
  index_parts_steady object key scope k h = on_value_steady asked _ (λ base. on_value_steady asked _ (λ v. with_key_steady (key_of v) (k base) (h base)))

  pub row_name_steady : (name : List ℕ) (scope : Scope L) → Steady asked (row_name name scope)
  unfolding row_name
  row_name_steady name scope = search (steady_access)

  pub row_this_steady : (scope : Scope L) → Steady asked (row_this scope)
  unfolding row_this
  row_this_steady scope = tt

  template_from_steady : (before : List ℕ) (texts : List (List ℕ)) (parts : List NodeId) (scope : Scope L) → Steady asked (template_from before texts parts scope)
  template_from_steady before texts [] scope = make_text_steady asked _ _ (λ v. tt)
  template_from_steady before texts (part ∷ parts) scope =
      on_value_steady asked _ (λ v. with_key_steady (primitive_text v) _ (λ text. template_from_steady (before ++ (first_text texts ++ text)) (further_texts texts) parts scope))

  pub row_template_steady : (texts : List (List ℕ)) (parts : List NodeId) (scope : Scope L) → Steady asked (row_template texts parts scope)
  unfolding row_template
  row_template_steady texts parts scope = template_from_steady [] texts parts scope

  pub row_dot_steady : (object : NodeId) (name : List ℕ) (scope : Scope L) → Steady asked (row_dot object name scope)
  unfolding row_dot
  row_dot_steady object name scope = search (steady_access)

  pub row_index_steady : (object key : NodeId) (scope : Scope L) → Steady asked (row_index object key scope)
  unfolding row_index
  row_index_steady object key scope = search (steady_access, index_parts_steady)

  updated_steady : (operator : UpdateOperator) (before : Bool) (old : Value L) (write : Value L → Prog L → Prog L) → ((v : Value L) (p : Prog L) → Steady asked p → Steady asked (write v p)) → Steady asked (updated operator before old write)
  updated_steady operator before (Num z) write h = compute_steady _ _ (λ new. h new _ tt)
  updated_steady operator before old write h = throw_steady L asked WrongOperand

  update_target_steady : (operator : UpdateOperator) (before : Bool) (target : Option Node) (scope : Scope L) → Steady asked (update_target operator before target scope)
  update_target_steady operator before (Some (kinds.Name name)) scope = search (steady_access, updated_steady)
  update_target_steady operator before (Some (kinds.Dot object name)) scope = search (steady_access, updated_steady)
  update_target_steady operator before (Some (kinds.Index object key)) scope = search (steady_access, updated_steady, index_parts_steady)
  update_target_steady operator before target scope = throw_steady L asked WrongOperand

  pub row_update_steady : (operator : UpdateOperator) (target : NodeId) (before : Bool) (scope : Scope L) → Steady asked (row_update operator target before scope)
  unfolding row_update
  row_update_steady operator target before scope = λ w l. update_target_steady operator before (slice_get w.tree target.0) scope

  pub row_unary_steady : (operator : UnaryOperator) (operand : NodeId) (scope : Scope L) → Steady asked (row_unary operator operand scope)
  unfolding row_unary
  row_unary_steady operator operand scope = search (steady_access, compute_steady)

  type_of_node_steady : (node : Option Node) (operand : NodeId) (scope : Scope L) → Steady asked (type_of_node node operand scope)
  type_of_node_steady (Some (kinds.Name name)) operand scope = search (steady_access)
  type_of_node_steady target operand scope = search (steady_access)

  pub row_typeof_steady : (operand : NodeId) (scope : Scope L) → Steady asked (row_typeof operand scope)
  unfolding row_typeof
  row_typeof_steady operand scope = λ w l. type_of_node_steady (slice_get w.tree operand.0) operand scope

  delete_target_steady : (node : Option Node) (operand : NodeId) (scope : Scope L) → Steady asked (delete_target node operand scope)
  delete_target_steady (Some (kinds.Dot object name)) operand scope = search (steady_access)
  delete_target_steady (Some (kinds.Index object key)) operand scope = search (steady_access, index_parts_steady)
  delete_target_steady target operand scope = search (steady_access)

  pub row_delete_steady : (operand : NodeId) (scope : Scope L) → Steady asked (row_delete operand scope)
  unfolding row_delete
  row_delete_steady operand scope = λ w l. delete_target_steady (slice_get w.tree operand.0) operand scope

  instance_of_steady : (x y : Value L) (k : Value L → Prog L) → SteadyFor asked k → Steady asked (instance_of x y k)
  instance_of_steady x y k h = λ w l. if_steady asked (is_callable (cell_of y w)) _ _ (get_steady asked y (codes "prototype") _ (λ p v m. found_steady p v)) (throw_steady L asked WrongOperand)
    where
      found_steady : (p : Value L) (v : World L) → Steady {L = L} asked (elim (object_of p v) as (λ found. Prog L) [ Some target ↦ k (Boolean (inherits (object_of x v) target v)) | None ↦ throw NotAnObject ])
      found_steady p v = elim (object_of p v) as (λ found. Steady {L = L} asked (elim found as (λ x. Prog L) [ Some target ↦ k (Boolean (inherits (object_of x v) target v)) | None ↦ throw NotAnObject ])) [ Some target ↦ h _ | None ↦ throw_steady L asked NotAnObject ]

  has_key_steady : (key : Option (List ℕ)) (object : Option L) (w : World L) (k : Value L → Prog L) → SteadyFor asked k → Steady asked (has_key key object w k)
  has_key_steady (Some key) (Some loc) w k h = h _
  has_key_steady key object w k h = throw_steady L asked WrongOperand

  pub apply_steady : (operator : BinaryOperator) (x y : Value L) (k : Value L → Prog L) → SteadyFor asked k → Steady asked (apply operator x y k)
  unfolding apply
  apply_steady InstanceOf x y k h = instance_of_steady x y k h
  apply_steady In x y k h = λ w l. has_key_steady (key_of x) (object_of y w) w k h
  apply_steady StrictEqual x y k h = λ w l. h _
  apply_steady StrictNotEqual x y k h = λ w l. h _
  apply_steady operator x y k h = compute_steady (of_operands operator x y) k h

  pub row_binary_steady : (operator : BinaryOperator) (left right : NodeId) (scope : Scope L) → Steady asked (row_binary operator left right scope)
  unfolding row_binary
  row_binary_steady operator left right scope = search (steady_access, apply_steady)

  pub row_and_steady : (left right : NodeId) (scope : Scope L) → Steady asked (row_and left right scope)
  unfolding row_and
  row_and_steady left right scope = search (steady_access)

  pub row_or_steady : (left right : NodeId) (scope : Scope L) → Steady asked (row_or left right scope)
  unfolding row_or
  row_or_steady left right scope = search (steady_access)

  coalesced_steady : (x : Value L) (right : NodeId) (scope : Scope L) → Steady asked (coalesced x right scope)
  coalesced_steady Undefined right scope = search (steady_access)
  coalesced_steady Null right scope = search (steady_access)
  coalesced_steady x right scope = tt

  pub row_nullish_steady : (left right : NodeId) (scope : Scope L) → Steady asked (row_nullish left right scope)
  unfolding row_nullish
  row_nullish_steady left right scope = search (steady_access, coalesced_steady)

  pub row_cond_steady : (test first second : NodeId) (scope : Scope L) → Steady asked (row_cond test first second scope)
  unfolding row_cond
  row_cond_steady test first second scope = search (steady_access)

  pub row_seq_steady : (first second : NodeId) (scope : Scope L) → Steady asked (row_seq first second scope)
  unfolding row_seq
  row_seq_steady first second scope = search (steady_access)

  assign_to_steady : (target : Option Node) (value : NodeId) (scope : Scope L) → Steady asked (assign_to target value scope)
  assign_to_steady (Some (kinds.Name name)) value scope = search (steady_access)
  assign_to_steady (Some (kinds.Dot object name)) value scope = search (steady_access)
  assign_to_steady (Some (kinds.Index object key)) value scope = search (steady_access, index_parts_steady)
  assign_to_steady target value scope = throw_steady L asked WrongOperand

  pub row_assign_steady : (target value : NodeId) (scope : Scope L) → Steady asked (row_assign target value scope)
  unfolding row_assign
  row_assign_steady target value scope = λ w l. assign_to_steady (slice_get w.tree target.0) value scope

  assign_by_steady : (operator : BinaryOperator) (old : Value L) (value : NodeId) (scope : Scope L) (write : Value L → Prog L → Prog L) → ((v : Value L) (p : Prog L) → Steady asked p → Steady asked (write v p)) → Steady asked (assign_by operator old value scope write)
  assign_by_steady operator old value scope write h = on_value_steady asked _ (λ v. apply_steady operator old v _ (λ new. h new _ tt))

  assign_with_steady : (operator : BinaryOperator) (target : Option Node) (value : NodeId) (scope : Scope L) → Steady asked (assign_with operator target value scope)
  assign_with_steady operator (Some (kinds.Name name)) value scope = search (steady_access, assign_by_steady)
  assign_with_steady operator (Some (kinds.Dot object name)) value scope = search (steady_access, assign_by_steady)
  assign_with_steady operator (Some (kinds.Index object key)) value scope = search (steady_access, assign_by_steady, index_parts_steady)
  assign_with_steady operator target value scope = throw_steady L asked WrongOperand

  pub row_assign_with_steady : (operator : BinaryOperator) (target value : NodeId) (scope : Scope L) → Steady asked (row_assign_with operator target value scope)
  unfolding row_assign_with
  row_assign_with_steady operator target value scope = λ w l. assign_with_steady operator (slice_get w.tree target.0) value scope
