-- The rows of declarations, patterns and statements make nothing themselves.
use Rattle.std.proofs.Common.{ℕ, ◌+◌, List, [], ◌∷◌, map, Bool, true, false, Option, Some, None}
use Rattle.std.specs.Prelude.{if◌then◌else◌, slice_get}
use Rattle.world_heap.specs.declared.value.Value.{Value}
use Rattle.world_heap.specs.declared.value.Value.TheVariants.{Undefined, Null, Ref}
use Rattle.world_heap.specs.declared.cell.Binding.{Binding}
use Rattle.world_heap.specs.declared.cell.Cell.{Cell}
use Rattle.world_heap.specs.declared.cell.Cell.TheVariants.{Array}
use Rattle.js_tree.specs.declared.node.NodeId.{NodeId}
use Rattle.js_tree.specs.declared.node.Declarator.{Declarator}
use Rattle.js_tree.specs.declared.node.BindElement.{BindElement}
use Rattle.js_tree.specs.declared.node.BindProperty.{BindProperty}
use Rattle.js_tree.specs.declared.node.Node.{Node}
use Rattle.js_tree.specs.declared.node.Node.TheVariants as kinds
use Rattle.js_semantics.specs.declared.fault.Fault.TheVariants.{NotAnObject, NotIterable}
use Rattle.js_semantics.specs.declared.scope.Scope.{Scope}
use Rattle.js_semantics.specs.declared.outcome.Outcome.{Outcome}
use Rattle.js_semantics.specs.declared.outcome.Outcome.TheVariants.{Normal, Return, Break, Continue, Thrown}
use Rattle.js_semantics.specs.World.{World, cell_at}
use Rattle.js_semantics.specs.Prog.{Prog, End, Enter, ForOf, alloc, done}
use Rattle.js_semantics.specs.Environments.{bind_in, binding_of, fill_name, names_of, declared_in, env_cell, bindings_at, unready}
use Rattle.js_semantics.specs.Operators.{is_truthy}
use Rattle.js_semantics.specs.Iteration.{items_at}
use Rattle.js_semantics.specs.Statements.{inside, bind_properties, bind_object, bind_elements, bind_array_at, bind_array, pattern_of, value_or_undefined, declare_pairs, row_declare, fill_function, fill_functions, run_items, enter_block, row_block, script_of, row_expression, run_or_done, row_if, after_body, while_turn, row_while, do_turn, row_do_while, copied_cell, copy_scope, run_next, for_turn, for_tested, for_start, for_declared, for_from, row_for, of_turn, of_bound, row_for_of, row_return, row_throw, handle, caught, replaced_by, at_last, row_try}
use Rattle.alone_laws.proofs.Orderly.{Meets, Steady, SteadyFor, steady, if_steady, on_value_steady, alloc_steady, throw_steady, bind_steady}
use Rattle.alone_laws.proofs.OrderlyAccess.{bind_in_meets, bind_value_steady, get_steady, or_default_steady}
use Rattle.alone_laws.proofs.OrderlyObjects.{make_function_steady, walk_value_steady}

module _ {L : Type 0} (asked : Bool) where
  bind_properties_steady : (parts : List BindProperty) (v : Value L) (scope : Scope L) → Steady asked (bind_properties parts v scope)
  bind_properties_steady [] v scope = tt
  bind_properties_steady (part ∷ parts) v scope =
      get_steady asked v part.key _ (λ x. or_default_steady asked part.default x scope _ (λ y. bind_value_steady asked part.bind y scope _ (bind_properties_steady parts v scope)))

  bind_object_steady : (parts : List BindProperty) (v : Value L) (scope : Scope L) → Steady asked (bind_object parts v scope)
  bind_object_steady parts Undefined scope = throw_steady L asked NotAnObject
  bind_object_steady parts Null scope = throw_steady L asked NotAnObject
  bind_object_steady parts v scope = bind_properties_steady parts v scope

  bind_elements_steady : (parts : List BindElement) (place : ℕ) (array : L) (scope : Scope L) → Steady asked (bind_elements parts place array scope)
  bind_elements_steady [] place array scope = tt
  bind_elements_steady (part ∷ parts) place array scope =
      λ w l. or_default_steady asked part.default _ scope _ (λ y. bind_value_steady asked part.bind y scope _ (bind_elements_steady parts (place + 1) array scope))

  bind_array_at_steady : (cell : Option (Cell L)) (parts : List BindElement) (loc : L) (scope : Scope L) → Steady asked (bind_array_at cell parts loc scope)
  bind_array_at_steady (Some (Array proto items frozen)) parts loc scope = bind_elements_steady parts 0 loc scope
  bind_array_at_steady cell parts loc scope = throw_steady L asked NotIterable

  bind_array_steady : (parts : List BindElement) (v : Value L) (scope : Scope L) → Steady asked (bind_array parts v scope)
  bind_array_steady parts (Ref loc) scope = λ w l. bind_array_at_steady (cell_at loc w) parts loc scope
  bind_array_steady parts v scope = throw_steady L asked NotIterable

  fill_name_meets : (env : L) (name : List ℕ) (v : Value L) (w : World L) → Meets asked w → Meets asked (fill_name env name v w)
  unfolding fill_name
  fill_name_meets env name v w l = elim (binding_of env name w) as (λ found. Meets asked (elim found [ Some one ↦ bind_in one.0 name v w | None ↦ w ])) [
    | Some one ↦ bind_in_meets asked one.0 name v w l
    | None ↦ l
  ]

  pub pattern_of_steady : (pattern : Option Node) (v : Value L) (scope : Scope L) → Steady asked (pattern_of pattern v scope)
  unfolding pattern_of
  pattern_of_steady (Some (kinds.BindName name)) v scope = λ w l. (fill_name_meets scope.env name v w l, tt)
  pattern_of_steady (Some (kinds.BindObject parts)) v scope = bind_object_steady parts v scope
  pattern_of_steady (Some (kinds.BindArray parts)) v scope = bind_array_steady parts v scope
  pattern_of_steady pattern v scope = tt

  value_or_undefined_steady : (value : Option NodeId) (scope : Scope L) (k : Value L → Prog L) → SteadyFor asked k → Steady asked (value_or_undefined value scope k)
  value_or_undefined_steady None scope k h = h Undefined
  value_or_undefined_steady (Some node) scope k h = on_value_steady asked k h

  declare_pairs_steady : (pairs : List Declarator) (scope : Scope L) → Steady asked (declare_pairs pairs scope)
  declare_pairs_steady [] scope = tt
  declare_pairs_steady (pair ∷ pairs) scope =
      value_or_undefined_steady pair.value scope _ (λ v. bind_value_steady asked pair.bind v scope _ (declare_pairs_steady pairs scope))

  pub row_declare_steady : (pairs : List Declarator) (scope : Scope L) → Steady asked (row_declare pairs scope)
  unfolding row_declare
  row_declare_steady pairs scope = declare_pairs_steady pairs scope

  fill_function_steady : (item : Option Node) (node : NodeId) (env : L) (p : Prog L) → Steady asked p → Steady asked (fill_function item node env p)
  fill_function_steady (Some (kinds.FunDecl name function)) node env p h = make_function_steady asked node env _ (λ loc w l. (bind_in_meets asked env name (Ref loc) w l, h))
  fill_function_steady item node env p h = h

  fill_functions_steady : (items : List NodeId) (env : L) (p : Prog L) → Steady asked p → Steady asked (fill_functions items env p)
  fill_functions_steady [] env p h = h
  fill_functions_steady (item ∷ items) env p h = λ w l. fill_function_steady (slice_get w.tree item.0) item env _ (fill_functions_steady items env p h)

  run_items_steady : (items : List NodeId) (scope : Scope L) → Steady asked (run_items items scope)
  run_items_steady [] scope = tt
  run_items_steady (item ∷ items) scope = on_value_steady asked _ (λ u. run_items_steady items scope)

  enter_block_steady : (bindings : List (Binding L)) (items : List NodeId) (scope : Scope L) → Steady asked (enter_block bindings items scope)
  enter_block_steady [] items scope = run_items_steady items scope
  enter_block_steady (b ∷ bs) items scope = alloc_steady asked _ _ (λ env. fill_functions_steady items env _ (run_items_steady items (inside env scope)))

  pub row_block_steady : (items : List NodeId) (scope : Scope L) → Steady asked (row_block items scope)
  unfolding row_block
  row_block_steady items scope = λ w l. enter_block_steady (declared_in w.tree items) items scope

pub script_of_steady : (L : Type 0) (asked : Bool) (item : Option Node) → Steady {L = L} asked (script_of item)
unfolding script_of
script_of_steady L asked (Some (kinds.Script items)) = λ w l. alloc_steady asked _ _ (λ env. fill_functions_steady asked items env _ (run_items_steady asked items _))
script_of_steady L asked item = tt

module _ {L : Type 0} (asked : Bool) where
  pub row_expression_steady : (value : NodeId) (scope : Scope L) → Steady asked (row_expression value scope)
  unfolding row_expression
  row_expression_steady value scope = search (steady)

  run_or_done_steady : (node : Option NodeId) (scope : Scope L) → Steady asked (run_or_done node scope)
  run_or_done_steady None scope = tt
  run_or_done_steady (Some node) scope = λ o. tt

  pub row_if_steady : (test first : NodeId) (second : Option NodeId) (scope : Scope L) → Steady asked (row_if test first second scope)
  unfolding row_if
  row_if_steady test first second scope = on_value_steady asked _ (λ v. run_or_done_steady (if is_truthy v then Some first else second) scope)

  after_body_steady : (more : Prog L) → Steady asked more → (o : Outcome L) → Steady asked (after_body more o)
  after_body_steady more h (Normal v) = h
  after_body_steady more h (Return v) = tt
  after_body_steady more h Break = tt
  after_body_steady more h Continue = h
  after_body_steady more h (Thrown v) = tt

  pub while_turn_steady : (test body : NodeId) (scope : Scope L) (v : Value L) → Steady asked (while_turn test body scope v)
  while_turn_steady test body scope v = if_steady asked (is_truthy v) _ _ (after_body_steady _ (λ p. tt)) tt

  pub row_while_steady : (test body : NodeId) (scope : Scope L) → Steady asked (row_while test body scope)
  unfolding row_while
  row_while_steady test body scope = λ o. tt

  pub do_turn_steady : (body test : NodeId) (scope : Scope L) (o : Outcome L) → Steady asked (do_turn body test scope o)
  do_turn_steady body test scope o = after_body_steady _ (on_value_steady asked _ (λ v. if_steady asked (is_truthy v) _ _ (λ p. tt) tt)) o

  pub row_do_while_steady : (body test : NodeId) (scope : Scope L) → Steady asked (row_do_while body test scope)
  unfolding row_do_while
  row_do_while_steady body test scope = λ o. tt

  copied_cell_steady : (found : Option (Option L × List (Binding L))) (scope : Scope L) (k : Scope L → Prog L) → SteadyFor asked k → Steady asked (copied_cell found scope k)
  copied_cell_steady None scope k h = h scope
  copied_cell_steady (Some found) scope k h = alloc_steady asked _ _ (λ env. h _)

  copy_scope_steady : (copied : Bool) (scope : Scope L) (k : Scope L → Prog L) → SteadyFor asked k → Steady asked (copy_scope copied scope k)
  copy_scope_steady false scope k h = h scope
  copy_scope_steady true scope k h = λ w l. copied_cell_steady (bindings_at (cell_at scope.env w)) scope k h

  run_next_steady : (next : Option NodeId) (scope : Scope L) (p : Prog L) → Steady asked p → Steady asked (run_next next scope p)
  run_next_steady None scope p h = h
  run_next_steady (Some next) scope p h = on_value_steady asked _ (λ v. h)

  pub for_turn_steady : (copied : Bool) (test next : Option NodeId) (body : NodeId) (scope : Scope L) (o : Outcome L) → Steady asked (for_turn copied test next body scope o)
  for_turn_steady copied test next body scope o = after_body_steady _ (copy_scope_steady copied scope _ (λ turn. run_next_steady next turn _ (λ p. tt))) o

  pub for_tested_steady : (copied : Bool) (test next : Option NodeId) (body : NodeId) (scope : Scope L) (v : Value L) → Steady asked (for_tested copied test next body scope v)
  for_tested_steady copied test next body scope v = if_steady asked (is_truthy v) _ _ (λ o. for_turn_steady copied test next body scope o) tt

  for_start_steady : (copied : Bool) (test next : Option NodeId) (body : NodeId) (scope : Scope L) → Steady asked (for_start copied test next body scope)
  for_start_steady copied test next body scope = copy_scope_steady copied scope _ (λ turn o. tt)

  for_declared_steady : (copied fixed : Bool) (names : List (List ℕ)) (first : NodeId) (test next : Option NodeId) (body : NodeId) (scope : Scope L) → Steady asked (for_declared copied fixed names first test next body scope)
  for_declared_steady copied fixed names first test next body scope = alloc_steady asked _ _ (λ env. on_value_steady asked _ (λ u. for_start_steady copied test next body (inside env scope)))

  for_from_steady : (tree : List Node) (node : Option Node) (first : NodeId) (test next : Option NodeId) (body : NodeId) (scope : Scope L) → Steady asked (for_from tree node first test next body scope)
  for_from_steady tree (Some (kinds.Let pairs)) first test next body scope = for_declared_steady _ false _ first test next body scope
  for_from_steady tree (Some (kinds.Const pairs)) first test next body scope = for_declared_steady false true _ first test next body scope
  for_from_steady tree item first test next body scope = on_value_steady asked _ (λ v. for_start_steady false test next body scope)

  pub row_for_steady : (first test next : Option NodeId) (body : NodeId) (scope : Scope L) → Steady asked (row_for first test next body scope)
  unfolding row_for
  row_for_steady None test next body scope = for_start_steady false test next body scope
  row_for_steady (Some first) test next body scope = λ w l. for_from_steady w.tree (slice_get w.tree first.0) first test next body scope

  of_turn_steady : (constant : Bool) (pattern body : NodeId) (array : L) (place : ℕ) (around : Scope L) → Steady asked (of_turn constant pattern body array place around)
  of_turn_steady constant pattern body array place around = λ w l. elim (slice_get (items_at (cell_at array w)) place) as (λ found. Steady {L = L} asked (elim found as (λ x. Prog L) [
    | Some item ↦ alloc (env_cell (Some around.env) (map (unready constant) (names_of w.tree pattern))) (λ env. Enter (ForOf constant pattern body array place item (inside env around) around) (λ o. End o))
    | None ↦ done
  ])) [ Some item ↦ alloc_steady asked _ _ (λ env o. tt) | None ↦ tt ]

  pub of_bound_steady : (constant : Bool) (pattern body : NodeId) (array : L) (place : ℕ) (turn around : Scope L) → Steady asked (of_bound constant pattern body array place turn around)
  of_bound_steady constant pattern body array place turn around = after_body_steady _ (of_turn_steady constant pattern body array (place + 1) around)

  pub row_for_of_steady : (constant : Bool) (pattern list body : NodeId) (scope : Scope L) → Steady asked (row_for_of constant pattern list body scope)
  unfolding row_for_of
  row_for_of_steady constant pattern list body scope = on_value_steady asked _ (λ v. walk_value_steady asked v _ (λ array. of_turn_steady constant pattern body array 0 scope))

  pub row_return_steady : (value : Option NodeId) (scope : Scope L) → Steady asked (row_return value scope)
  unfolding row_return
  row_return_steady value scope = value_or_undefined_steady asked value scope _ (λ v. tt)

  pub row_throw_steady : (value : NodeId) (scope : Scope L) → Steady asked (row_throw value scope)
  unfolding row_throw
  row_throw_steady value scope = on_value_steady asked _ (λ v. tt)

  handle_steady : (pattern : Option NodeId) (handler : NodeId) (v : Value L) (scope : Scope L) → Steady asked (handle pattern handler v scope)
  handle_steady None handler v scope = λ o. tt
  handle_steady (Some pattern) handler v scope = λ w l. alloc_steady asked _ _ (λ env. bind_value_steady asked pattern v (inside env scope) _ (λ o. tt))

  caught_steady : (pattern handler : Option NodeId) (scope : Scope L) (o : Outcome L) → Steady asked (caught pattern handler scope o)
  caught_steady pattern (Some handler) scope (Thrown v) = handle_steady pattern handler v scope
  caught_steady pattern handler scope o = tt

  replaced_by_steady : (before o : Outcome L) → Steady asked (replaced_by before o)
  replaced_by_steady before (Normal v) = tt
  replaced_by_steady before (Return v) = tt
  replaced_by_steady before Break = tt
  replaced_by_steady before Continue = tt
  replaced_by_steady before (Thrown v) = tt

  at_last_steady : (last : Option NodeId) (scope : Scope L) (o : Outcome L) → Steady asked (at_last last scope o)
  at_last_steady None scope o = tt
  at_last_steady (Some last) scope o = replaced_by_steady o

  pub row_try_steady : (block : NodeId) (pattern handler last : Option NodeId) (scope : Scope L) → Steady asked (row_try block pattern handler last scope)
  unfolding row_try
  row_try_steady block pattern handler last scope =
      λ o. bind_steady asked (caught pattern handler scope o) (λ p. at_last last scope p) (caught_steady pattern handler scope o) (λ p. at_last_steady last scope p)
