-- How the writing of a name is put together.
use Rattle.std.proofs.Common.{◌≡◌, ℕ, List, Option, Some, None, Bool, true, false, IfOk, Result, refl, sym, ap, ◌∙◌}
use Rattle.world_heap.specs.declared.value.Value.{Value}
use Rattle.world_heap.specs.declared.cell.Binding.{Binding}
use Rattle.js_tree.specs.declared.node.Node.{Node}
use Rattle.js_semantics.specs.declared.fault.StepFault.{StepFault}
use Rattle.js_semantics.specs.World.{World, over}
use Rattle.js_semantics.specs.Prog.{Prog, change}
use Rattle.js_semantics.specs.Access.{global_holder, write_binding, write_global, write_name}
use Rattle.js_semantics.specs.Environments.{bind_in, binding_of}
use Rattle.js_machine.specs.declared.state.State.{State}
use Rattle.js_machine.specs.declared.state.Next.{Next}
use Rattle.js_machine.specs.Does.{Does, world_of}
use Rattle.js_machine.proofs.Changing.{bind_keys, does_change_ok}
use Rattle.js_machine.proofs.Doing.{does_read_ok}
use Rattle.js_calls.specs.declared.assigning.Target.{Target}
use Rattle.js_calls.specs.declared.assigning.Target.TheVariants.{Global, Nowhere}
use Rattle.js_calls.specs.Assigning.{binding_target, target_of, write_by}

-- a binding has another value
pub bound_ok : (nodes : List Node) (n env : ℕ) (name : List ℕ) (v : Value ℕ) (p : Prog ℕ) (old mid new : State) (r : Result Next StepFault) → ((w : World ℕ) → over mid.heap w ≡ bind_in env name v (over old.heap w)) → mid.heap ≡ record old.heap { cells = mid.heap.cells } → mid ≡ record old { heap = mid.heap }
    → IfOk r (λ next. Does nodes n p mid new next) → IfOk r (λ next. Does nodes n (change (bind_in env name v) p) old new next)
bound_ok nodes n env name v p old mid new r bound kept is h = does_change_ok nodes n (bind_in env name v) p old mid new mid.heap r is kept bound (bind_keys env name v) h

module _ (name : List ℕ) (v : Value ℕ) (p : Prog ℕ) where
  binding_by : (env : ℕ) (old : Option (Value ℕ)) (fixed : Bool) → write_binding old fixed (change (bind_in env name v) p) ≡ write_by (binding_target env old fixed) name v p
  unfolding binding_target write_by
  binding_by env None fixed = refl
  binding_by env (Some old) true = refl
  binding_by env (Some old) false = refl

  global_by : (g : Option (Value ℕ)) → write_global g name v p ≡ write_by (target_of None g) name v p
  unfolding target_of write_by
  global_by None = refl
  global_by (Some g) = refl

  target_by : (b : Option (ℕ × Binding ℕ)) (g : Option (Value ℕ)) → (elim b [ Some found ↦ write_binding found.1.value found.1.fixed (change (bind_in found.0 name v) p) | None ↦ write_global g name v p ]) ≡ write_by (target_of b g) name v p
  unfolding target_of
  target_by None g = global_by g
  target_by (Some found) g = binding_by found.0 found.1.value found.1.fixed

-- what a name stands for is written
pub written_ok : (nodes : List Node) (n env : ℕ) (name : List ℕ) (v : Value ℕ) (p : Prog ℕ) (target : Target ℕ) (old new : State) (r : Result Next StepFault)
    → ((supply : ℕ → ℕ) → target ≡ target_of (binding_of env name (world_of nodes supply old)) (global_holder name (world_of nodes supply old)))
    → IfOk r (λ next. Does nodes n (write_by target name v p) old new next) → IfOk r (λ next. Does nodes n (write_name env name v p) old new next)
unfolding write_name
written_ok nodes n env name v p target old new r are =
    does_read_ok nodes n (λ w. elim (binding_of env name w) [ Some found ↦ write_binding found.1.value found.1.fixed (change (bind_in found.0 name v) p) | None ↦ write_global (global_holder name w) name v p ]) (write_by target name v p) old new r
    (λ supply. let w = world_of nodes supply old in target_by name v p (binding_of env name w) (global_holder name w) ∙ sym (ap (λ t. write_by t name v p) (are supply)))

-- what a name stands for, by what was found
pub target_held : (b : Option (ℕ × Binding ℕ)) (g : Option (Value ℕ)) (found : ℕ × Binding ℕ) (t : Target ℕ) → Some found ≡ b → t ≡ binding_target found.0 found.1.value found.1.fixed → t ≡ target_of b g
unfolding target_of
target_held b g found t e h = h ∙ ap (λ o. target_of o g) e

pub target_global : (b : Option (ℕ × Binding ℕ)) (g : Option (Value ℕ)) (global : Value ℕ) → None ≡ b → Some global ≡ g → Global global ≡ target_of b g
unfolding target_of
target_global b g global e f = ap (λ o. target_of None o) f ∙ ap (λ o. target_of o g) e

pub target_nowhere : (b : Option (ℕ × Binding ℕ)) (g : Option (Value ℕ)) → None ≡ b → None ≡ g → Nowhere ≡ target_of b g
unfolding target_of
target_nowhere b g e f = ap (λ o. target_of None o) f ∙ ap (λ o. target_of o g) e
