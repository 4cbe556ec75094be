-- What is walked, and the rows of literals, functions and calls, make nothing themselves.
use Rattle.std.proofs.Common.{ℕ, List, [], ◌∷◌, ◌++◌, Bool, Option, Some, None}
use Rattle.std.specs.Prelude.{slice_get}
use Rattle.world_heap.specs.declared.value.Value.{Value}
use Rattle.world_heap.specs.declared.value.Value.TheVariants.{Str, Ref}
use Rattle.world_heap.specs.declared.cell.Body.{Body}
use Rattle.world_heap.specs.declared.cell.MapEntry.{MapEntry}
use Rattle.world_heap.specs.declared.cell.Cell.{Cell}
use Rattle.world_heap.specs.declared.cell.Cell.TheVariants.{Array, Map, Set, Closure, Native as NativeCell}
use Rattle.js_tree.specs.declared.node.NodeId.{NodeId}
use Rattle.js_tree.specs.declared.node.PropertyKey.{PropertyKey}
use Rattle.js_tree.specs.declared.node.PropertyKey.TheVariants.{Written, Computed}
use Rattle.js_tree.specs.declared.node.Node.{Node}
use Rattle.js_tree.specs.declared.node.Node.TheVariants as kinds
use Rattle.js_semantics.specs.declared.fault.Fault.TheVariants.{NotIterable, NotAConstructor}
use Rattle.js_semantics.specs.declared.scope.Scope.{Scope}
use Rattle.js_semantics.specs.World.{World, cell_at, cell_of}
use Rattle.js_semantics.specs.Prog.{Prog}
use Rattle.js_semantics.specs.Operators.{key_of}
use Rattle.js_semantics.specs.Iteration.{points_of, pushed, push_item, push_items, push_texts, push_entries, walk_cell, walk_value, values_of, arguments_from, arguments_of, elements_into}
use Rattle.js_semantics.specs.Objects.{member_key_of, make_closure, make_object, make_function, row_array, members_into, row_object, member_key, member_under, member_keyed, member_of, row_fun, row_arrow, callee_of, row_call, construct_closure, construct_cell, construct, row_new}
use Rattle.alone_laws.proofs.Orderly.{Meets, Steady, SteadyFor, steady, alloc_steady, on_value_steady, throw_steady, make_text_steady}
use Rattle.alone_laws.proofs.OrderlyAccess.{steady_access, bind_in_meets, call_steady, make_array_steady}
use Rattle.alone_laws.proofs.OrderlyExpressions.{index_parts_steady, with_key_steady}

module _ {L : Type 0} (asked : Bool) where
  pushed_meets : (cell : Option (Cell L)) (loc : L) (v : Value L) (w : World L) → Meets asked w → Meets asked (pushed cell loc v w)
  pushed_meets None loc v w l = l
  pushed_meets (Some cell) loc v w l = l

  pub push_item_steady : (loc : L) (v : Value L) (p : Prog L) → Steady asked p → Steady asked (push_item loc v p)
  unfolding push_item
  push_item_steady loc v p h = λ w l. (pushed_meets (cell_at loc w) loc v w l, h)

  push_items_steady : (loc : L) (vs : List (Value L)) (p : Prog L) → Steady asked p → Steady asked (push_items loc vs p)
  push_items_steady loc [] p h = h
  push_items_steady loc (v ∷ vs) p h = push_item_steady loc v _ (push_items_steady loc vs p h)

  push_texts_steady : (loc : L) (texts : List (List ℕ)) (p : Prog L) → Steady asked p → Steady asked (push_texts loc texts p)
  push_texts_steady loc [] p h = h
  push_texts_steady loc (text ∷ texts) p h = make_text_steady asked text _ (λ v. push_item_steady loc v _ (push_texts_steady loc texts p h))

  push_entries_steady : (loc : L) (entries : List (MapEntry L)) (p : Prog L) → Steady asked p → Steady asked (push_entries loc entries p)
  push_entries_steady loc [] p h = h
  push_entries_steady loc (entry ∷ entries) p h = make_array_steady asked _ _ (λ pair. push_item_steady loc (Ref pair) _ (push_entries_steady loc entries p h))

  walk_cell_steady : (cell : Option (Cell L)) (loc : L) (k : L → Prog L) → SteadyFor asked k → Steady asked (walk_cell cell loc k)
  walk_cell_steady (Some (Array proto items frozen)) loc k h = h loc
  walk_cell_steady (Some (Map body entries)) loc k h = make_array_steady asked [] _ (λ array. push_entries_steady array entries (k array) (h array))
  walk_cell_steady (Some (Set body entries)) loc k h = make_array_steady asked [] _ (λ array. push_items_steady array entries (k array) (h array))
  walk_cell_steady cell loc k h = throw_steady L asked NotIterable

  pub walk_value_steady : (v : Value L) (k : L → Prog L) → SteadyFor asked k → Steady asked (walk_value v k)
  unfolding walk_value
  walk_value_steady (Ref loc) k h = λ w l. walk_cell_steady (cell_at loc w) loc k h
  walk_value_steady (Str text) k h = make_array_steady asked [] _ (λ array. push_texts_steady array (points_of text) (k array) (h array))
  walk_value_steady v k h = throw_steady L asked NotIterable

  values_of_steady : (element : Option Node) (node : NodeId) (scope : Scope L) (k : List (Value L) → Prog L) → SteadyFor asked k → Steady asked (values_of element node scope k)
  values_of_steady (Some (kinds.Spread list)) node scope k h = search (steady, walk_value_steady)
  values_of_steady element node scope k h = search (steady)

  arguments_from_steady : (before : List (Value L)) (nodes : List NodeId) (scope : Scope L) (k : List (Value L) → Prog L) → SteadyFor asked k → Steady asked (arguments_from before nodes scope k)
  arguments_from_steady before [] scope k h = h before
  arguments_from_steady before (node ∷ nodes) scope k h =
      λ w l. values_of_steady (slice_get w.tree node.0) node scope _ (λ vs. arguments_from_steady (before ++ vs) nodes scope k h)

  pub arguments_of_steady : (nodes : List NodeId) (scope : Scope L) (k : List (Value L) → Prog L) → SteadyFor asked k → Steady asked (arguments_of nodes scope k)
  unfolding arguments_of
  arguments_of_steady nodes scope k h = arguments_from_steady [] nodes scope k h

  elements_into_steady : (loc : L) (nodes : List NodeId) (scope : Scope L) (p : Prog L) → Steady asked p → Steady asked (elements_into loc nodes scope p)
  elements_into_steady loc [] scope p h = h
  elements_into_steady loc (node ∷ nodes) scope p h =
      λ w l. values_of_steady (slice_get w.tree node.0) node scope _ (λ vs. push_items_steady loc vs _ (elements_into_steady loc nodes scope p h))

  make_closure_steady : (node : NodeId) (env : L) (receiver : Option (Value L)) (k : L → Prog L) → SteadyFor asked k → Steady asked (make_closure node env receiver k)
  unfolding make_closure
  make_closure_steady node env receiver k h = search (steady)

  make_object_steady : (k : L → Prog L) → SteadyFor asked k → Steady asked (make_object k)
  unfolding make_object
  make_object_steady k h = search (steady)

  pub make_function_steady : (node : NodeId) (env : L) (k : L → Prog L) → SteadyFor asked k → Steady asked (make_function node env k)
  unfolding make_function
  make_function_steady node env k h = search (steady_access, make_closure_steady, make_object_steady)

  pub row_array_steady : (nodes : List NodeId) (scope : Scope L) → Steady asked (row_array nodes scope)
  unfolding row_array
  row_array_steady nodes scope = search (steady_access, elements_into_steady)

  members_into_steady : (loc : L) (nodes : List NodeId) (scope : Scope L) (p : Prog L) → Steady asked p → Steady asked (members_into loc nodes scope p)
  members_into_steady loc [] scope p h = h
  members_into_steady loc (node ∷ nodes) scope p h = on_value_steady asked _ (λ u. members_into_steady loc nodes scope p h)

  pub row_object_steady : (nodes : List NodeId) (scope : Scope L) → Steady asked (row_object nodes scope)
  unfolding row_object
  row_object_steady nodes scope = make_object_steady _ (λ loc. members_into_steady loc nodes scope _ tt)

  member_key_steady : (key : PropertyKey) (scope : Scope L) (k : List ℕ → Prog L) → SteadyFor asked k → Steady asked (member_key key scope k)
  member_key_steady (Written text) scope k h = h text
  member_key_steady (Computed node) scope k h = on_value_steady asked _ (λ v. with_key_steady asked (key_of v) k h)

  member_under_steady : (member : Option Node) (node : NodeId) (loc : L) (scope : Scope L) (text : List ℕ) → Steady asked (member_under member node loc scope text)
  member_under_steady (Some (kinds.Property key value)) node loc scope text = search (steady_access)
  member_under_steady (Some (kinds.Method key function)) node loc scope text = search (steady_access, make_closure_steady)
  member_under_steady (Some (kinds.Getter key function)) node loc scope text = search (steady_access, make_closure_steady)
  member_under_steady (Some (kinds.Setter key function)) node loc scope text = search (steady_access, make_closure_steady)
  member_under_steady member node loc scope text = tt

  member_keyed_steady : (key : Option PropertyKey) (member : Option Node) (node : NodeId) (loc : L) (scope : Scope L) → Steady asked (member_keyed key member node loc scope)
  member_keyed_steady None member node loc scope = tt
  member_keyed_steady (Some key) member node loc scope = member_key_steady key scope _ (λ text. member_under_steady member node loc scope text)

  pub member_of_steady : (member : Option Node) (node : NodeId) (loc : L) (scope : Scope L) → Steady asked (member_of member node loc scope)
  unfolding member_of
  member_of_steady member node loc scope = member_keyed_steady (member_key_of member) member node loc scope

  pub row_fun_steady : (node : NodeId) (name : Option (List ℕ)) (scope : Scope L) → Steady asked (row_fun node name scope)
  unfolding row_fun
  row_fun_steady node None scope = search (make_function_steady)
  row_fun_steady node (Some name) scope = alloc_steady asked _ _ (λ env. make_function_steady node env _ (λ loc w l. (bind_in_meets asked env name (Ref loc) w l, tt)))

  pub row_arrow_steady : (node : NodeId) (scope : Scope L) → Steady asked (row_arrow node scope)
  unfolding row_arrow
  row_arrow_steady node scope = search (steady, make_closure_steady)

  callee_of_steady : (callee : Option Node) (node : NodeId) (scope : Scope L) (k : Value L → Value L → Prog L) → ((v : Value L) → SteadyFor asked (k v)) → Steady asked (callee_of callee node scope k)
  callee_of_steady (Some (kinds.Dot object name)) node scope k h = search (steady_access)
  callee_of_steady (Some (kinds.Index object key)) node scope k h = search (steady_access, index_parts_steady)
  callee_of_steady callee node scope k h = search (steady_access)

  pub row_call_steady : (callee : NodeId) (nodes : List NodeId) (scope : Scope L) → Steady asked (row_call callee nodes scope)
  unfolding row_call
  row_call_steady callee nodes scope =
      λ w l. callee_of_steady (slice_get w.tree callee.0) callee scope _ (λ f receiver. arguments_of_steady nodes scope _ (λ vs. call_steady asked f receiver vs _ (λ v. tt)))

  construct_closure_steady : (body : Body L) (node : ℕ) (env : L) (vs : List (Value L)) (w : World L) (k : Value L → Prog L) → SteadyFor asked k → Steady asked (construct_closure body node env vs w k)
  construct_closure_steady body node env vs w k h = search (steady_access)

  construct_cell_steady : (cell : Option (Cell L)) (vs : List (Value L)) (w : World L) (k : Value L → Prog L) → SteadyFor asked k → Steady asked (construct_cell cell vs w k)
  construct_cell_steady (Some (Closure body node env kept)) vs w k h = construct_closure_steady body node env vs w k h
  construct_cell_steady (Some (NativeCell body id kept)) vs w k h = search (steady)
  construct_cell_steady cell vs w k h = throw_steady L asked NotAConstructor

  construct_steady : (f : Value L) (vs : List (Value L)) (k : Value L → Prog L) → SteadyFor asked k → Steady asked (construct f vs k)
  unfolding construct
  construct_steady f vs k h = λ w l. construct_cell_steady (cell_of f w) vs w k h

  pub row_new_steady : (callee : NodeId) (nodes : List NodeId) (scope : Scope L) → Steady asked (row_new callee nodes scope)
  unfolding row_new
  row_new_steady callee nodes scope = on_value_steady asked _ (λ f. arguments_of_steady nodes scope _ (λ vs. construct_steady f vs _ (λ v. tt)))
