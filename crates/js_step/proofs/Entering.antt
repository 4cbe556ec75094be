-- What is next, as the request that is entered.
use Rattle.std.proofs.Common.{◌≡◌, ℕ, List, IfOk, Result, Option, refl, sym, ap, ◌∙◌, arith}
use Rattle.std.specs.Prelude.{slice_get}
use Rattle.js_tree.specs.declared.node.NodeId.{NodeId}
use Rattle.js_tree.specs.declared.node.Node.{Node}
use Rattle.world_heap.specs.declared.value.Value.{Value}
use Rattle.js_semantics.specs.declared.fault.StepFault.{StepFault}
use Rattle.js_semantics.specs.declared.scope.Scope.{Scope}
use Rattle.js_semantics.specs.Prog.{Script, Node as NodeRequest, Bind, Member, Native}
use Rattle.js_semantics.specs.Rows.{row, row_of}
use Rattle.js_semantics.specs.Objects.{member_of}
use Rattle.js_semantics.specs.Statements.{script_of}
use Rattle.js_machine.specs.declared.state.State.{State}
use Rattle.js_machine.specs.declared.state.Control.{Control}
use Rattle.js_machine.specs.declared.state.Control.TheVariants as controls
use Rattle.js_machine.specs.declared.state.Next.{Next}
use Rattle.js_machine.specs.Does.{Does, Steps}
use Rattle.js_machine.proofs.Doing.{does_read_ok}
use Rattle.js_machine.proofs.Stepping.{ran_ok}

-- the row of a node that is looked up
pub node_ok : (nodes : List Node) (node : NodeId) (scope : Scope ℕ) (found : Option Node) (old new : State) (r : Result Next StepFault) → slice_get nodes node.0 ≡ found → IfOk r (λ next. Does nodes 6 (row_of found node scope) old new next) → IfOk r (λ next. Does nodes 6 (row (NodeRequest node scope)) old new next)
unfolding row
node_ok nodes node scope found old new r is = does_read_ok nodes 6 (λ w. row_of (slice_get w.tree node.0) node scope) (row_of found node scope) old new r (λ supply. ap (λ n. row_of n node scope) is)

-- each request, where it is what is next, and the control of the state was taken out
pub script_next : (nodes : List Node) (s mid new : State) (node : NodeId) (r : Result Next StepFault) → s.control ≡ controls.Script node → mid ≡ record s { control = mid.control } → IfOk r (λ next. Does nodes 6 (script_of (slice_get nodes node.0)) mid new next) → IfOk r (λ next. Steps nodes s new next)
unfolding row
script_next nodes s mid new node r is same h =
    ran_ok nodes 6 s mid new (Script node) (controls.Script node) r is (record { row_is = λ k. refl; costs = refl }) (omega arith) same
    (does_read_ok nodes 6 (λ w. script_of (slice_get w.tree node.0)) (script_of (slice_get nodes node.0)) mid new r (λ supply. refl) h)

pub node_next : (nodes : List Node) (s mid new : State) (node : NodeId) (scope : Scope ℕ) (r : Result Next StepFault) → s.control ≡ controls.Node node scope → mid ≡ record s { control = mid.control } → IfOk r (λ next. Does nodes 6 (row (NodeRequest node scope)) mid new next) → IfOk r (λ next. Steps nodes s new next)
node_next nodes s mid new node scope r is same =
    ran_ok nodes 6 s mid new (NodeRequest node scope) (controls.Node node scope) r is (record { row_is = λ k. refl; costs = refl }) (omega arith) same

pub bind_next : (nodes : List Node) (s mid new : State) (node : NodeId) (value : Value ℕ) (scope : Scope ℕ) (r : Result Next StepFault) → s.control ≡ controls.Bind node value scope → mid ≡ record s { control = mid.control } → IfOk r (λ next. Does nodes 6 (row (Bind node value scope)) mid new next) → IfOk r (λ next. Steps nodes s new next)
bind_next nodes s mid new node value scope r is same =
    ran_ok nodes 6 s mid new (Bind node value scope) (controls.Bind node value scope) r is (record { row_is = λ k. refl; costs = refl }) (omega arith) same

pub member_next : (nodes : List Node) (s mid new : State) (node : NodeId) (object : ℕ) (scope : Scope ℕ) (r : Result Next StepFault) → s.control ≡ controls.Member node object scope → mid ≡ record s { control = mid.control } → IfOk r (λ next. Does nodes 6 (member_of (slice_get nodes node.0) node object scope) mid new next) → IfOk r (λ next. Steps nodes s new next)
unfolding row
member_next nodes s mid new node object scope r is same h =
    ran_ok nodes 6 s mid new (Member node object scope) (controls.Member node object scope) r is (record { row_is = λ k. refl; costs = refl }) (omega arith) same
    (does_read_ok nodes 6 (λ w. member_of (slice_get w.tree node.0) node object scope) (member_of (slice_get nodes node.0) node object scope) mid new r (λ supply. refl) h)

pub native_next : (nodes : List Node) (s mid new : State) (id : ℕ) (receiver : Value ℕ) (arguments : List (Value ℕ)) (r : Result Next StepFault) → s.control ≡ controls.Native id receiver arguments → mid ≡ record s { control = mid.control } → IfOk r (λ next. Does nodes 6 (row (Native id receiver arguments)) mid new next) → IfOk r (λ next. Steps nodes s new next)
native_next nodes s mid new id receiver arguments r is same =
    ran_ok nodes 6 s mid new (Native id receiver arguments) (controls.Native id receiver arguments) r is (record { row_is = λ k. refl; costs = refl }) (omega arith) same

-- a state whose control was taken out, with that control again
again : (s mid : State) (c : Control ℕ) → s.control ≡ c → mid ≡ record s { control = mid.control } → record mid { control = c } ≡ s
again s mid c is same = ap (λ (x : State). record x { control = c }) same ∙ sym (ap (λ d. record s { control = d }) is)

pub again_ok : (nodes : List Node) (s mid new : State) (c : Control ℕ) (r : Result Next StepFault) → s.control ≡ c → mid ≡ record s { control = mid.control } → IfOk r (λ next. Steps nodes (record mid { control = c }) new next) → IfOk r (λ next. Steps nodes s new next)
again_ok nodes s mid new c r is same h = rw (again s mid c is same) at h

pub again_next : (nodes : List Node) (s mid new : State) (c : Control ℕ) (next : Next) → s.control ≡ c → mid ≡ record s { control = mid.control } → Steps nodes (record mid { control = c }) new next → Steps nodes s new next
again_next nodes s mid new c next is same h = rw (again s mid c is same) at h
