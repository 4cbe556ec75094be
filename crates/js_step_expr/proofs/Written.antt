-- Rows that turn on what a node is as a reference.
use Rattle.std.proofs.Common.{◌≡◌, ℕ, List, Option, Some, Bool, Result, Ok, Err, refl, sym, ap}
use Rattle.std.specs.Prelude.{slice_get}
use Rattle.world_heap.specs.declared.value.Value.TheVariants.{Undefined}
use Rattle.js_tree.specs.declared.node.NodeId.{NodeId}
use Rattle.js_tree.specs.declared.node.BinaryOperator.{BinaryOperator}
use Rattle.js_tree.specs.declared.node.UpdateOperator.{UpdateOperator}
use Rattle.js_tree.specs.declared.node.Node.{Node}
use Rattle.js_tree.specs.declared.node.Node.TheVariants as kinds
use Rattle.js_semantics.specs.declared.fault.Fault.TheVariants.{NotDefined}
use Rattle.js_semantics.specs.declared.scope.Scope.{Scope}
use Rattle.js_semantics.specs.World.{World}
use Rattle.js_semantics.specs.Prog.{Prog, Read, eval, step, give, throw}
use Rattle.js_semantics.specs.Access.{delete, get, read_name, set, write_name}
use Rattle.js_semantics.specs.Expressions.{assign_by, assign_to, assign_with, delete_target, give_type, type_of_node, update_target, updated}
use Rattle.js_machine.specs.declared.state.State.{State}
use Rattle.js_machine.specs.declared.state.Next.{Next}
use Rattle.js_step_expr.specs.declared.frames.Remaining.{Remaining}
use Rattle.js_machine.specs.Parts.{name_of}
use Rattle.js_machine.specs.Does.{world_of}
use Rattle.js_machine.proofs.Doing.{does_read, moves_on, moves_read}
use Rattle.js_step_expr.specs.Left.{DoesOrComes}
use Rattle.js_step_expr.specs.Targets.{target_in, assign_at, assign_by_at, delete_at, typeof_at, update_at}

pub assign_is : (nodes : List Node) (node : NodeId) (n : Option Node) (value : NodeId) (scope : Scope ℕ) → slice_get nodes node.0 ≡ n → assign_to n value scope ≡ assign_at nodes node (target_in n) value scope
unfolding target_in name_of
assign_is nodes node (Some (kinds.Name name)) value scope e = sym (ap (λ m. step (eval value scope (λ v. write_name scope.env (name_of m) v (give v)))) e)
assign_is nodes node (Some (kinds.Dot object name)) value scope e = sym (ap (λ m. step (eval object scope (λ base. eval value scope (λ v. set base (name_of m) v (give v))))) e)
assign_is nodes node (Some (kinds.Index object key)) value scope e = refl
assign_is nodes node other value scope e = refl

pub delete_is : (nodes : List Node) (node : NodeId) (n : Option Node) (scope : Scope ℕ) → slice_get nodes node.0 ≡ n → delete_target n node scope ≡ delete_at nodes node (target_in n) scope
unfolding target_in name_of
delete_is nodes node (Some (kinds.Dot object name)) scope e = sym (ap (λ m. step (eval object scope (λ base. delete base (name_of m)))) e)
delete_is nodes node (Some (kinds.Index object key)) scope e = refl
delete_is nodes node other scope e = refl

pub typeof_is : (nodes : List Node) (node : NodeId) (n : Option Node) (scope : Scope ℕ) → slice_get nodes node.0 ≡ n → type_of_node n node scope ≡ typeof_at nodes node (target_in n) scope
unfolding target_in name_of
typeof_is nodes node (Some (kinds.Name name)) scope e = sym (ap (λ m. step (read_name scope.env (name_of m) (give_type Undefined) (λ v. give_type v))) e)
typeof_is nodes node other scope e = refl

pub update_is : (nodes : List Node) (node : NodeId) (n : Option Node) (operator : UpdateOperator) (before : Bool) (scope : Scope ℕ) → slice_get nodes node.0 ≡ n → update_target operator before n scope ≡ update_at nodes node (target_in n) operator before scope
unfolding target_in name_of
update_is nodes node (Some (kinds.Name name)) operator before scope e =
    sym (ap (λ m. step (read_name scope.env (name_of m) (throw NotDefined) (λ old. updated operator before old (λ new p. write_name scope.env (name_of m) new p)))) e)
update_is nodes node (Some (kinds.Dot object name)) operator before scope e =
    sym (ap (λ m. step (eval object scope (λ base. get base (name_of m) (λ old. updated operator before old (λ new p. set base (name_of m) new p))))) e)
update_is nodes node (Some (kinds.Index object key)) operator before scope e = refl
update_is nodes node other operator before scope e = refl

pub assign_by_is : (nodes : List Node) (node : NodeId) (n : Option Node) (operator : BinaryOperator) (value : NodeId) (scope : Scope ℕ) → slice_get nodes node.0 ≡ n → assign_with operator n value scope ≡ assign_by_at nodes node (target_in n) operator value scope
unfolding target_in name_of
assign_by_is nodes node (Some (kinds.Name name)) operator value scope e =
    sym (ap (λ m. step (read_name scope.env (name_of m) (throw NotDefined) (λ old. assign_by operator old value scope (λ new p. write_name scope.env (name_of m) new p)))) e)
assign_by_is nodes node (Some (kinds.Dot object name)) operator value scope e =
    sym (ap (λ m. step (eval object scope (λ base. get base (name_of m) (λ old. assign_by operator old value scope (λ new p. set base (name_of m) new p))))) e)
assign_by_is nodes node (Some (kinds.Index object key)) operator value scope e = refl
assign_by_is nodes node other operator value scope e = refl

-- what is read of the world, and then done or left
pub comes_read : (nodes : List Node) (f : World ℕ → Prog ℕ) (q : Prog ℕ) (old new : State) (r : Result Next (Remaining ℕ)) → ((supply : ℕ → ℕ) → f (world_of nodes supply old) ≡ q) → DoesOrComes nodes q old new r → DoesOrComes nodes (Read f) old new r
comes_read nodes f q old new (Ok next) is h = does_read nodes 6 f q old new next is h
comes_read nodes f q old new (Err left) is h = moves_on nodes (Read f) q _ old old new (moves_read nodes f q old is) h
