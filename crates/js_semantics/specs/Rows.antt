-- One row for each kind of node, and for each request.
use Rattle.std.specs.Prelude.{Option, Some, None, Bool, slice_get}
use Rattle.world_heap.specs.declared.value.Value.TheVariants.{Null, Bool as Boolean, Num, Str}
use Rattle.js_tree.specs.declared.node.NodeId.{NodeId}
use Rattle.js_tree.specs.declared.node.Node as nodes
use Rattle.js_tree.specs.declared.node.Node.TheVariants as kinds
use Rattle.js_semantics.specs.declared.scope.Scope.{Scope}
use Rattle.js_semantics.specs.declared.outcome.Outcome.TheVariants.{Break, Continue}
use Rattle.js_semantics.specs.Prog.{Prog, End, Read, Request, Step, Script, Node, Bind, Member, While, DoWhile, For, ForOf, Native, bind, on_value, give, done}
use Rattle.js_semantics.specs.Expressions.{row_name, row_this, row_template, row_dot, row_index, row_update, row_unary, row_typeof, row_delete, row_binary, row_and, row_or, row_nullish, row_cond, row_seq, row_assign, row_assign_with}
use Rattle.js_semantics.specs.Objects.{row_array, row_object, row_fun, row_arrow, row_call, row_new, member_of}
use Rattle.js_semantics.specs.Operators.{literal_number}
use Rattle.js_semantics.specs.Statements.{pattern_of, script_of, row_declare, row_block, row_expression, row_if, row_while, row_do_while, row_for, row_for_of, row_return, row_throw, row_try, while_turn, do_turn, for_tested, for_turn, of_bound}
use Rattle.js_semantics.specs.Natives.{native_row, native_at}
use Rattle.js_semantics.specs.Realm.{module_of}

module _ {L : Type 0} where
  -- The row of a node, by its kind (ECMA-262, 13 to 15). Patterns, members and spreads are entered by the rows around them.
  unfoldable pub row_of : Option nodes.Node → NodeId → Scope L → Prog L
  row_of None node scope = done
  row_of (Some (kinds.Script items)) node scope = done
  row_of (Some (kinds.Block items)) node scope = row_block items scope
  row_of (Some (kinds.Let pairs)) node scope = row_declare pairs scope
  row_of (Some (kinds.Const pairs)) node scope = row_declare pairs scope
  row_of (Some (kinds.FunDecl name function)) node scope = done
  row_of (Some (kinds.If test first second)) node scope = row_if test first second scope
  row_of (Some (kinds.While test body)) node scope = row_while test body scope
  row_of (Some (kinds.DoWhile body test)) node scope = row_do_while body test scope
  row_of (Some (kinds.For first test next body)) node scope = row_for first test next body scope
  row_of (Some (kinds.ForOf constant pattern list body)) node scope = row_for_of constant pattern list body scope
  row_of (Some (kinds.Return value)) node scope = row_return value scope
  row_of (Some kinds.Break) node scope = End Break
  row_of (Some kinds.Continue) node scope = End Continue
  row_of (Some (kinds.Throw value)) node scope = row_throw value scope
  row_of (Some (kinds.Try block pattern handler last)) node scope = row_try block pattern handler last scope
  row_of (Some kinds.Empty) node scope = done
  row_of (Some (kinds.ExprStmt value)) node scope = row_expression value scope
  row_of (Some (kinds.Name name)) node scope = row_name name scope
  row_of (Some kinds.This) node scope = row_this scope
  row_of (Some kinds.Null) node scope = give Null
  row_of (Some (kinds.Bool b)) node scope = give (Boolean b)
  row_of (Some (kinds.Num z)) node scope = give (Num (literal_number z))
  row_of (Some (kinds.Str text)) node scope = give (Str text)
  row_of (Some (kinds.Template texts parts)) node scope = row_template texts parts scope
  row_of (Some (kinds.ArrayLit elements)) node scope = row_array elements scope
  row_of (Some (kinds.Spread list)) node scope = done
  row_of (Some (kinds.ObjectLit members)) node scope = row_object members scope
  row_of (Some (kinds.Fun name function)) node scope = row_fun node name scope
  row_of (Some (kinds.Arrow function)) node scope = row_arrow node scope
  row_of (Some (kinds.Seq first second)) node scope = row_seq first second scope
  row_of (Some (kinds.Cond test first second)) node scope = row_cond test first second scope
  row_of (Some (kinds.And left right)) node scope = row_and left right scope
  row_of (Some (kinds.Or left right)) node scope = row_or left right scope
  row_of (Some (kinds.Nullish left right)) node scope = row_nullish left right scope
  row_of (Some (kinds.Assign target value)) node scope = row_assign target value scope
  row_of (Some (kinds.AssignOp operator target value)) node scope = row_assign_with operator target value scope
  row_of (Some (kinds.Update operator target before)) node scope = row_update operator target before scope
  row_of (Some (kinds.Binary operator left right)) node scope = row_binary operator left right scope
  row_of (Some (kinds.Unary operator operand)) node scope = row_unary operator operand scope
  row_of (Some (kinds.Typeof operand)) node scope = row_typeof operand scope
  row_of (Some (kinds.Delete operand)) node scope = row_delete operand scope
  row_of (Some (kinds.Dot object name)) node scope = row_dot object name scope
  row_of (Some (kinds.Index object key)) node scope = row_index object key scope
  row_of (Some (kinds.Call callee arguments)) node scope = row_call callee arguments scope
  row_of (Some (kinds.New callee arguments)) node scope = row_new callee arguments scope
  row_of (Some (kinds.Property key value)) node scope = done
  row_of (Some (kinds.Method key function)) node scope = done
  row_of (Some (kinds.Getter key function)) node scope = done
  row_of (Some (kinds.Setter key function)) node scope = done
  row_of (Some (kinds.BindName name)) node scope = done
  row_of (Some (kinds.BindObject parts)) node scope = done
  row_of (Some (kinds.BindArray parts)) node scope = done

  -- the row of the node with a number
  abbrev pub row_at : NodeId → Scope L → Prog L
  row_at node scope = Read (λ w. row_of (slice_get w.tree node.0) node scope)

  -- the turn of a `for`, from its test on, or from its body on where it has no test
  abbrev pub for_row : Bool → Option NodeId → Option NodeId → NodeId → Scope L → Prog L
  for_row copied (Some test) next body scope = bind (row_at test scope) (λ o. on_value (for_tested copied (Some test) next body scope) o)
  for_row copied None next body scope = bind (row_at body scope) (for_turn copied None next body scope)

  -- What is done for a request, once its step is taken.
  unfoldable pub row : Request L → Prog L
  row Step = done
  row (Script node) = Read (λ w. script_of (slice_get w.tree node.0))
  row (Node node scope) = row_at node scope
  row (Bind node value scope) = Read (λ w. pattern_of (slice_get w.tree node.0) value scope)
  row (Member node object scope) = Read (λ w. member_of (slice_get w.tree node.0) node object scope)
  row (While test body scope) = bind (row_at test scope) (λ o. on_value (while_turn test body scope) o)
  row (DoWhile body test scope) = bind (row_at body scope) (do_turn body test scope)
  row (For copied test next body scope) = for_row copied test next body scope
  row (ForOf constant pattern body array place item turn around) =
      bind (Read (λ w. pattern_of (slice_get w.tree pattern.0) item turn)) (λ o. on_value (λ u. of_bound constant pattern body array place turn around) o)
  row (Native id receiver arguments) = native_row module_of (native_at id) receiver arguments
