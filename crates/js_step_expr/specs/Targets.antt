-- Nodes that may be written, and the rows that turn on them.
use Rattle.std.specs.Prelude.{ℕ, List, Option, Some, Bool, true}
use Rattle.world_heap.specs.declared.value.Value.TheVariants.{Bool as Boolean}
use Rattle.js_tree.specs.declared.node.NodeId.{NodeId}
use Rattle.js_tree.specs.declared.node.BinaryOperator.{BinaryOperator}
use Rattle.js_tree.specs.declared.node.UpdateOperator.{UpdateOperator}
use Rattle.js_tree.specs.declared.node.Node.{Node}
use Rattle.js_tree.specs.declared.node.Node.TheVariants as kinds
use Rattle.js_semantics.specs.declared.fault.Fault.TheVariants.{WrongOperand}
use Rattle.js_semantics.specs.declared.scope.Scope.{Scope}
use Rattle.js_semantics.specs.Prog.{Prog, eval, step, give, throw}
use Rattle.js_semantics.specs.Operators.{key_of}
use Rattle.js_semantics.specs.Expressions.{give_type, with_key}
use Rattle.js_machine.specs.declared.frame.Key.TheVariants.{Named, Text}
use Rattle.js_machine.specs.declared.frame.Place.TheVariants as places
use Rattle.js_machine.specs.declared.frame.Use.{Use}
use Rattle.js_machine.specs.declared.frame.Use.TheVariants as uses
use Rattle.js_machine.specs.Frames.{use_rest, write_place}
use Rattle.js_machine.specs.declared.frame.AfterFrame.TheVariants as afters
use Rattle.js_step_expr.specs.declared.frames.Remaining.TheVariants.{Read}
use Rattle.js_step_expr.specs.declared.targets.Target.{Target}
use Rattle.js_step_expr.specs.declared.targets.Target.TheVariants.{Name, Dot, Index, Other}
use Rattle.js_step_expr.specs.Left.{left_of}

-- what a node is as a reference (ECMA-262, 6.2.5)
unfoldable pub target_in : Option Node → Target
target_in (Some (kinds.Name name)) = Name
target_in (Some (kinds.Dot object name)) = Dot object
target_in (Some (kinds.Index object key)) = Index object key
target_in other = Other

-- a property named by a node, of an object that is evaluated
abbrev pub of_object : List Node → NodeId → NodeId → Use → Scope ℕ → Prog ℕ
of_object nodes node object usage scope = eval object scope (λ base. use_rest nodes usage base (Named node) scope)

-- a property whose key is evaluated behind its object
abbrev pub of_index : List Node → NodeId → NodeId → Use → Scope ℕ → Prog ℕ
of_index nodes object key usage scope =
    eval object scope (λ base. eval key scope (λ v. with_key (key_of v) (λ text. use_rest nodes usage base (Text text) scope)))

-- the row of an assignment, by its target
abbrev pub assign_at : List Node → NodeId → Target → NodeId → Scope ℕ → Prog ℕ
assign_at nodes node Name value scope = step (eval value scope (λ v. write_place nodes (places.Name node scope.env) v (give v)))
assign_at nodes node (Dot object) value scope = step (of_object nodes node object (uses.Assign value) scope)
assign_at nodes node (Index object key) value scope = step (of_index nodes object key (uses.Assign value) scope)
assign_at nodes node Other value scope = throw WrongOperand

-- the row of `delete`, by what it deletes
abbrev pub delete_at : List Node → NodeId → Target → Scope ℕ → Prog ℕ
delete_at nodes node (Dot object) scope = step (of_object nodes node object uses.Delete scope)
delete_at nodes node (Index object key) scope = step (of_index nodes object key uses.Delete scope)
delete_at nodes node _ scope = eval node scope (λ v. give (Boolean true))

-- the row of `typeof`, by what it is told of
abbrev pub typeof_at : List Node → NodeId → Target → Scope ℕ → Prog ℕ
typeof_at nodes node Name scope = step (left_of nodes (Read node scope.env afters.Typeof))
typeof_at nodes node _ scope = eval node scope (λ v. give_type v)

-- the row of `++` and `--`, by their target
abbrev pub update_at : List Node → NodeId → Target → UpdateOperator → (before : Bool) → Scope ℕ → Prog ℕ
update_at nodes node Name operator before scope =
    step (left_of nodes (Read node scope.env (afters.Update operator before (places.Name node scope.env))))
update_at nodes node (Dot object) operator before scope = step (of_object nodes node object (uses.Update operator before) scope)
update_at nodes node (Index object key) operator before scope = step (of_index nodes object key (uses.Update operator before) scope)
update_at nodes node Other operator before scope = throw WrongOperand

-- the row of an assignment by an operator, by its target
abbrev pub assign_by_at : List Node → NodeId → Target → BinaryOperator → NodeId → Scope ℕ → Prog ℕ
assign_by_at nodes node Name operator value scope =
    step (left_of nodes (Read node scope.env (afters.AssignBy operator value (places.Name node scope.env) scope)))
assign_by_at nodes node (Dot object) operator value scope = step (of_object nodes node object (uses.AssignBy operator value) scope)
assign_by_at nodes node (Index object key) operator value scope = step (of_index nodes object key (uses.AssignBy operator value) scope)
assign_by_at nodes node Other operator value scope = throw WrongOperand
