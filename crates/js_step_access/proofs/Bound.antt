-- How an assignment to a name that is bound is put together with its row.
use Rattle.std.proofs.Common.{◌≡◌, ℕ, ◌≤◌, List, Option, Some, IfOk, Result, slice_get, ap, subst, ◌∙◌}
use Rattle.world_heap.specs.declared.value.Value.{Value}
use Rattle.js_tree.specs.declared.node.NodeId.{NodeId}
use Rattle.js_tree.specs.declared.node.Node.{Node}
use Rattle.js_tree.specs.declared.node.Node.TheVariants as kinds
use Rattle.js_semantics.specs.declared.fault.Fault.TheVariants.{NotDefined}
use Rattle.js_semantics.specs.declared.fault.StepFault.{StepFault}
use Rattle.js_semantics.specs.Access.{read_name}
use Rattle.js_semantics.specs.Prog.{Prog, Read, step, throw}
use Rattle.js_machine.specs.declared.state.State.{State}
use Rattle.js_machine.specs.declared.state.Next.{Next}
use Rattle.js_machine.specs.Closed.{IsNamed}
use Rattle.js_machine.specs.Does.{Does}
use Rattle.js_machine.specs.Parts.{name_of}
use Rattle.js_machine.proofs.Doing.{allowing, does_move_ok, does_read, does_read_ok}
use Rattle.js_primary.specs.declared.taking.Taken.{Taken}
use Rattle.js_primary.specs.declared.taking.Taken.TheVariants as taken
use Rattle.js_primary.specs.Giving.{ReadsName, TakesBound}

-- a row by its target, which takes the step of a name, reads it and goes on by k
module _ (nodes : List Node) (n : ℕ) (f : Option Node → Prog ℕ) (node : NodeId) (env : ℕ) (k : List ℕ → Value ℕ → Prog ℕ) (form : (name : List ℕ) → f (Some (kinds.Name name)) ≡ step (read_name env name (throw NotDefined) (k name))) where
  pub bound_ok : (old mid new : State) (t : Taken ℕ) (v : Value ℕ) (r : Result Next StepFault) → TakesBound nodes node env old mid t → t ≡ taken.Value v
      → IfOk r (λ next. Does nodes n (k (name_of (slice_get nodes node.0)) v) mid new next) → IfOk r (λ next. Does nodes n (Read (λ w. f (slice_get w.tree node.0))) old new next)
  unfolding name_of
  bound_ok old mid new t v r h is d =
      let reads : ReadsName nodes node env old mid (taken.Value v) = subst (TakesBound nodes node env old mid) is h in
      let p : Prog ℕ = step (read_name env reads.name (throw NotDefined) (k reads.name)) in
      does_read_ok nodes n (λ w. f (slice_get w.tree node.0)) p old new r (λ supply. ap f reads.is ∙ form reads.name)
      (does_move_ok nodes n p (k reads.name v) old mid new r (reads.reads (throw NotDefined) (k reads.name)) (rw reads.is at d))

  pub bound_ended : (old mid : State) (t : Taken ℕ) (next : Next) → 2 ≤ n → TakesBound nodes node env old mid t → t ≡ taken.Ended next → Does nodes n (Read (λ w. f (slice_get w.tree node.0))) old mid next
  bound_ended old mid t next le h is =
      let reads : ReadsName nodes node env old mid (taken.Ended next) = subst (TakesBound nodes node env old mid) is h in
      let p : Prog ℕ = step (read_name env reads.name (throw NotDefined) (k reads.name)) in
      does_read nodes n (λ w. f (slice_get w.tree node.0)) p old mid next (λ supply. ap f reads.is ∙ form reads.name) (allowing nodes 2 n p old mid next le (reads.reads (throw NotDefined) (k reads.name)))

-- a name that was read is one
pub bound_named : (nodes : List Node) (node : NodeId) (env : ℕ) (old mid : State) (t : Taken ℕ) (v : Value ℕ) → TakesBound nodes node env old mid t → t ≡ taken.Value v → IsNamed nodes node
bound_named nodes node env old mid t v h is =
    let reads : ReadsName nodes node env old mid (taken.Value v) = subst (TakesBound nodes node env old mid) is h in
    rw reads.is tt

pub not_bound_ok : (nodes : List Node) (n : ℕ) (p : Prog ℕ) (node : NodeId) (env : ℕ) (old mid new : State) (t : Taken ℕ) (r : Result Next StepFault)
    → TakesBound nodes node env old mid t → t ≡ taken.Nothing → IfOk r (λ next. Does nodes n p mid new next) → IfOk r (λ next. Does nodes n p old new next)
not_bound_ok nodes n p node env old mid new t r h is d =
    let same : mid ≡ old = subst (TakesBound nodes node env old mid) is h in rw same at d
