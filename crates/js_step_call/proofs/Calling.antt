-- Rows of calls, by what is called.
use Rattle.std.proofs.Common.{◌≡◌, ℕ, List, [], Option, Some, Result, IfOk, refl, sym, ap, ◌∙◌}
use Rattle.std.specs.Prelude.{slice_get}
use Rattle.js_tree.specs.declared.node.NodeId.{NodeId}
use Rattle.js_tree.specs.declared.node.Node.{Node}
use Rattle.js_tree.specs.declared.node.Node.TheVariants as kinds
use Rattle.js_semantics.specs.declared.scope.Scope.{Scope}
use Rattle.js_semantics.specs.declared.fault.StepFault.{StepFault}
use Rattle.js_semantics.specs.Prog.{eval, give, step}
use Rattle.js_semantics.specs.Access.{call, get}
use Rattle.js_semantics.specs.Iteration.{arguments_of}
use Rattle.js_semantics.specs.Objects.{callee_of, row_call}
use Rattle.js_machine.specs.declared.frame.CallTarget.TheVariants as targets
use Rattle.js_machine.specs.declared.state.State.{State}
use Rattle.js_machine.specs.declared.state.Next.{Next}
use Rattle.js_machine.specs.Does.{Does}
use Rattle.js_machine.specs.Frames.{arguments_rest}
use Rattle.js_machine.specs.Parts.{items_of, name_of}
use Rattle.js_machine.proofs.Doing.{does_read_ok}
use Rattle.js_step_expr.specs.declared.targets.Target.{Target}
use Rattle.js_step_expr.specs.Targets.{target_in}
use Rattle.js_step_call.specs.Called.{call_at}

module _ (nodes : List Node) (node callee : NodeId) (scope : Scope ℕ) where
  -- what a callee is called with
  call_is : (n : Option Node) → slice_get nodes callee.0 ≡ n → callee_of n callee scope (λ f receiver. arguments_of (items_of (slice_get nodes node.0)) scope (λ vs. call f receiver vs (λ v. give v))) ≡ call_at nodes node callee (target_in n) scope
  unfolding arguments_of call_at target_in name_of
  call_is (Some (kinds.Dot object name)) e =
      sym (ap (λ m. step (eval object scope (λ base. get base (name_of m) (λ f. arguments_rest nodes node 0 [] (targets.Call f base) scope)))) e)
  call_is (Some (kinds.Index object key)) e = refl
  call_is other e = refl

  pub row_ok : (target : Target) (old new : State) (r : Result Next StepFault) → target ≡ target_in (slice_get nodes callee.0) → IfOk r (λ next. Does nodes 6 (call_at nodes node callee target scope) old new next) → IfOk r (λ next. Does nodes 6 (row_call callee (items_of (slice_get nodes node.0)) scope) old new next)
  unfolding row_call
  row_ok target old new r is =
      does_read_ok nodes 6 (λ w. callee_of (slice_get w.tree callee.0) callee scope (λ f receiver. arguments_of (items_of (slice_get nodes node.0)) scope (λ vs. call f receiver vs (λ v. give v)))) (call_at nodes node callee target scope) old new r
      (λ supply. call_is (slice_get nodes callee.0) refl ∙ sym (ap (λ t. call_at nodes node callee t scope) is))
