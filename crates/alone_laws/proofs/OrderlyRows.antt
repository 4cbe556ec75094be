-- Rows make nothing themselves but lines of the console; so a world that is loaded makes products up to one yield.
use Rattle.std.proofs.Common.{ℕ, List, [], ◌∷◌, Bool, false, Option, Some, None}
use Rattle.std.specs.Prelude.{slice_get}
use Rattle.parcel.specs.declared.parcel.ErrorKind.{ErrorKind}
use Rattle.world_log.specs.declared.entry.Level.{Level}
use Rattle.world_heap.specs.declared.value.Value.{Value}
use Rattle.world_heap.specs.declared.value.Value.TheVariants.{Undefined, Str}
use Rattle.js_tree.specs.declared.node.NodeId.{NodeId}
use Rattle.js_tree.specs.declared.node.Node as nodes
use Rattle.js_tree.specs.declared.node.Node.TheVariants as kinds
use Rattle.js_semantics.specs.declared.native.Native.{Native as NativeKind}
use Rattle.js_semantics.specs.declared.native.Native.TheVariants.{Console, Error, Require}
use Rattle.js_semantics.specs.declared.fault.Fault.TheVariants.{NotAFunction, WrongArgument}
use Rattle.js_semantics.specs.declared.scope.Scope.{Scope}
use Rattle.js_semantics.specs.World.{World}
use Rattle.js_semantics.specs.Prog.{Read, Request, Step, Script, Node, Bind, Member, While, DoWhile, For, ForOf, Native}
use Rattle.js_semantics.specs.Natives.{is_module, missing_module, native_at, row_console, row_error, throw_message, require_named, row_require, native_row}
use Rattle.js_semantics.specs.Realm.{module_of}
use Rattle.js_semantics.specs.Statements.{pattern_of, while_turn, do_turn, for_tested, for_turn}
use Rattle.js_semantics.specs.Rows.{row_of, row_at, for_row, row}
use Rattle.alone_laws.proofs.Orderly.{Calm, Steady, steady_calm, steady, if_steady, on_value_steady, throw_steady, bind_steady}
use Rattle.alone_laws.proofs.OrderlyExpressions.{row_name_steady, row_this_steady, row_template_steady, row_dot_steady, row_index_steady, row_update_steady, row_unary_steady, row_typeof_steady, row_delete_steady, row_binary_steady, row_and_steady, row_or_steady, row_nullish_steady, row_cond_steady, row_seq_steady, row_assign_steady, row_assign_with_steady}
use Rattle.alone_laws.proofs.OrderlyObjects.{row_array_steady, row_object_steady, row_fun_steady, row_arrow_steady, row_call_steady, row_new_steady, member_of_steady}
use Rattle.alone_laws.proofs.OrderlyStatements.{pattern_of_steady, script_of_steady, row_declare_steady, row_block_steady, row_expression_steady, row_if_steady, row_while_steady, row_do_while_steady, row_for_steady, row_for_of_steady, row_return_steady, row_throw_steady, row_try_steady, while_turn_steady, do_turn_steady, for_tested_steady, for_turn_steady, of_bound_steady}

throw_message_steady : (L : Type 0) (asked : Bool) (message : List ℕ) → Steady {L = L} asked (throw_message message)
throw_message_steady L asked message = search (steady)

module _ {L : Type 0} (asked : Bool) where
  row_console_steady : (level : Level) (arguments : List (Value L)) → Steady asked (row_console level arguments)
  unfolding row_console
  row_console_steady level arguments = search (steady)

  row_error_steady : (kind : ErrorKind) (arguments : List (Value L)) → Steady asked (row_error kind arguments)
  unfolding row_error
  row_error_steady kind [] = search (steady)
  row_error_steady kind (Undefined ∷ vs) = search (steady)
  row_error_steady kind (Str message ∷ vs) = search (steady)
  row_error_steady kind arguments = throw_steady L asked WrongArgument

  require_named_steady : (name : List ℕ) (module_at : Option L) (w : World L) → Steady asked (require_named name module_at w)
  require_named_steady name (Some loc) w = if_steady asked (is_module w.kind name) _ _ tt (throw_message_steady L asked (missing_module name))
  require_named_steady name None w = throw_message_steady L asked (missing_module name)

  row_require_steady : (found : World L → Option L) (arguments : List (Value L)) → Steady asked (row_require found arguments)
  unfolding row_require
  row_require_steady found (Str name ∷ vs) = λ w l. require_named_steady name (found w) w
  row_require_steady found arguments = throw_steady L asked WrongArgument

  native_row_steady : (found : World L → Option L) (native : Option NativeKind) (receiver : Value L) (arguments : List (Value L)) → Steady asked (native_row found native receiver arguments)
  native_row_steady found None receiver arguments = throw_steady L asked NotAFunction
  native_row_steady found (Some (Console level)) receiver arguments = row_console_steady level arguments
  native_row_steady found (Some (Error kind)) receiver arguments = row_error_steady kind arguments
  native_row_steady found (Some Require) receiver arguments = row_require_steady found arguments

  row_of_steady : (entered : Option nodes.Node) (node : NodeId) (scope : Scope L) → Steady asked (row_of entered node scope)
  unfolding row_of
  row_of_steady (Some (kinds.Block items)) node scope = row_block_steady asked items scope
  row_of_steady (Some (kinds.Let pairs)) node scope = row_declare_steady asked pairs scope
  row_of_steady (Some (kinds.Const pairs)) node scope = row_declare_steady asked pairs scope
  row_of_steady (Some (kinds.If test first second)) node scope = row_if_steady asked test first second scope
  row_of_steady (Some (kinds.While test body)) node scope = row_while_steady asked test body scope
  row_of_steady (Some (kinds.DoWhile body test)) node scope = row_do_while_steady asked body test scope
  row_of_steady (Some (kinds.For first test next body)) node scope = row_for_steady asked first test next body scope
  row_of_steady (Some (kinds.ForOf constant pattern list body)) node scope = row_for_of_steady asked constant pattern list body scope
  row_of_steady (Some (kinds.Return value)) node scope = row_return_steady asked value scope
  row_of_steady (Some (kinds.Throw value)) node scope = row_throw_steady asked value scope
  row_of_steady (Some (kinds.Try block pattern handler last)) node scope = row_try_steady asked block pattern handler last scope
  row_of_steady (Some (kinds.ExprStmt value)) node scope = row_expression_steady asked value scope
  row_of_steady (Some (kinds.Name name)) node scope = row_name_steady asked name scope
  row_of_steady (Some kinds.This) node scope = row_this_steady asked scope
  row_of_steady (Some (kinds.Template texts parts)) node scope = row_template_steady asked texts parts scope
  row_of_steady (Some (kinds.ArrayLit elements)) node scope = row_array_steady asked elements scope
  row_of_steady (Some (kinds.ObjectLit members)) node scope = row_object_steady asked members scope
  row_of_steady (Some (kinds.Fun name function)) node scope = row_fun_steady asked node name scope
  row_of_steady (Some (kinds.Arrow function)) node scope = row_arrow_steady asked node scope
  row_of_steady (Some (kinds.Seq first second)) node scope = row_seq_steady asked first second scope
  row_of_steady (Some (kinds.Cond test first second)) node scope = row_cond_steady asked test first second scope
  row_of_steady (Some (kinds.And left right)) node scope = row_and_steady asked left right scope
  row_of_steady (Some (kinds.Or left right)) node scope = row_or_steady asked left right scope
  row_of_steady (Some (kinds.Nullish left right)) node scope = row_nullish_steady asked left right scope
  row_of_steady (Some (kinds.Assign target value)) node scope = row_assign_steady asked target value scope
  row_of_steady (Some (kinds.AssignOp operator target value)) node scope = row_assign_with_steady asked operator target value scope
  row_of_steady (Some (kinds.Update operator target before)) node scope = row_update_steady asked operator target before scope
  row_of_steady (Some (kinds.Binary operator left right)) node scope = row_binary_steady asked operator left right scope
  row_of_steady (Some (kinds.Unary operator operand)) node scope = row_unary_steady asked operator operand scope
  row_of_steady (Some (kinds.Typeof operand)) node scope = row_typeof_steady asked operand scope
  row_of_steady (Some (kinds.Delete operand)) node scope = row_delete_steady asked operand scope
  row_of_steady (Some (kinds.Dot object name)) node scope = row_dot_steady asked object name scope
  row_of_steady (Some (kinds.Index object key)) node scope = row_index_steady asked object key scope
  row_of_steady (Some (kinds.Call callee arguments)) node scope = row_call_steady asked callee arguments scope
  row_of_steady (Some (kinds.New callee arguments)) node scope = row_new_steady asked callee arguments scope
  row_of_steady entered node scope = tt

  row_at_steady : (node : NodeId) (scope : Scope L) → Steady asked (row_at node scope)
  row_at_steady node scope = λ w l. row_of_steady (slice_get w.tree node.0) node scope

  for_row_steady : (copied : Bool) (test next : Option NodeId) (body : NodeId) (scope : Scope L) → Steady asked (for_row copied test next body scope)
  for_row_steady copied (Some test) next body scope =
      bind_steady asked (row_at test scope) _ (row_at_steady test scope) (on_value_steady asked (for_tested copied (Some test) next body scope) (for_tested_steady asked copied (Some test) next body scope))
  for_row_steady copied None next body scope = bind_steady asked (row_at body scope) (for_turn copied None next body scope) (row_at_steady body scope) (for_turn_steady asked copied None next body scope)

  pub row_steady : (request : Request L) → Steady asked (row request)
  unfolding row
  row_steady Step = tt
  row_steady (Script node) = λ w l. script_of_steady L asked (slice_get w.tree node.0)
  row_steady (Node node scope) = row_at_steady node scope
  row_steady (Bind node value scope) = λ w l. pattern_of_steady asked (slice_get w.tree node.0) value scope
  row_steady (Member node object scope) = λ w l. member_of_steady asked (slice_get w.tree node.0) node object scope
  row_steady (While test body scope) = bind_steady asked (row_at test scope) _ (row_at_steady test scope) (on_value_steady asked (while_turn test body scope) (while_turn_steady asked test body scope))
  row_steady (DoWhile body test scope) = bind_steady asked (row_at body scope) (do_turn body test scope) (row_at_steady body scope) (do_turn_steady asked body test scope)
  row_steady (For copied test next body scope) = for_row_steady copied test next body scope
  row_steady (ForOf constant pattern body array place item turn around) =
      bind_steady asked (Read (λ w. pattern_of (slice_get w.tree pattern.0) item turn)) _ (λ w l. pattern_of_steady asked (slice_get w.tree pattern.0) item turn) (on_value_steady asked _ (λ u. of_bound_steady asked constant pattern body array place turn around))
  row_steady (Native id receiver arguments) = native_row_steady module_of (native_at id) receiver arguments

-- the same where nothing is asked of a world
pub row_calm : {L : Type 0} (request : Request L) → Calm (row request)
row_calm request = steady_calm (row request) (row_steady false request)
