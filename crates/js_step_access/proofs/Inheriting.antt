-- How `instanceof` is told by a chain of prototypes.
use Rattle.std.proofs.Common.{◌≡◌, ℕ, suc, List, Option, Some, None, Bool, true, false, nat_eq, Result, IfOk, refl, sym, ap, ◌∙◌}
use Rattle.std.specs.Prelude.{option_map}
use Rattle.std.specs.Option.{option_and_then}
use Rattle.world_heap.specs.declared.value.Value.{Value}
use Rattle.world_heap.specs.declared.value.Value.TheVariants.{Bool as Boolean}
use Rattle.world_heap.specs.Heaps.{proto_of}
use Rattle.world_heap.specs.Maps.{find}
use Rattle.world_heap.specs.Views.{HeapView}
use Rattle.js_tree.specs.declared.node.Node.{Node}
use Rattle.js_semantics.specs.declared.fault.Fault.TheVariants.{NotAnObject}
use Rattle.js_semantics.specs.declared.fault.StepFault.{StepFault}
use Rattle.js_semantics.specs.World.{World, over}
use Rattle.js_semantics.specs.Prog.{Prog, throw}
use Rattle.js_semantics.specs.Properties.{object_of}
use Rattle.js_semantics.specs.Expressions.{inherits, is_above}
use Rattle.js_machine.specs.declared.state.State.{State}
use Rattle.js_machine.specs.declared.state.Next.{Next}
use Rattle.js_machine.specs.Does.{Does, world_of}
use Rattle.js_machine.specs.Frames.{instance_rest}
use Rattle.js_machine.proofs.Doing.{does_read_ok}
use Rattle.js_step_access.specs.Instances.{instance_in}

-- one turn of the walk along a chain
module _ (heap : HeapView) (w : World ℕ) (n target at : ℕ) where
  pub above_end : option_and_then proto_of (find nat_eq heap.cells at) ≡ None → is_above (suc n) target at (over heap w) ≡ false
  above_end is = rw is refl

  pub above_here : (proto : ℕ) → option_and_then proto_of (find nat_eq heap.cells at) ≡ Some proto → nat_eq proto target ≡ true → is_above (suc n) target at (over heap w) ≡ true
  above_here proto is same = rw (is, same) refl

  pub above_next : (proto : ℕ) → option_and_then proto_of (find nat_eq heap.cells at) ≡ Some proto → nat_eq proto target ≡ false → is_above (suc n) target at (over heap w) ≡ is_above n target proto (over heap w)
  above_next proto is differs = rw (is, differs) refl

-- what follows, by what is told of the chain
abbrev told_by : (Value ℕ → Prog ℕ) → Option Bool → Prog ℕ
told_by k o = elim o [ Some told ↦ k (Boolean told) | None ↦ throw NotAnObject ]

target_by : (k : Value ℕ → Prog ℕ) (x : Value ℕ) (w : World ℕ) (o : Option ℕ) → (elim o [ Some target ↦ k (Boolean (inherits (object_of x w) target w)) | None ↦ throw NotAnObject ]) ≡ told_by k (option_map (λ target. inherits (object_of x w) target w) o)
target_by k x w None = refl
target_by k x w (Some target) = refl

instance_by : (nodes : List Node) (x p : Value ℕ) (k : Value ℕ → Prog ℕ) (o : Option Bool) (old new : State) (r : Result Next StepFault) → ((w : World ℕ) → o ≡ instance_in x p (over old.heap w))
    → IfOk r (λ next. Does nodes 4 (told_by k o) old new next) → IfOk r (λ next. Does nodes 4 (instance_rest nodes x p k) old new next)
instance_by nodes x p k o old new r is h =
    does_read_ok nodes 4 (λ w. elim (object_of p w) [ Some target ↦ k (Boolean (inherits (object_of x w) target w)) | None ↦ throw NotAnObject ]) (told_by k o) old new r
    (λ supply. let w = world_of nodes supply old in target_by k x w (object_of p w) ∙ sym (ap (told_by k) (is w))) h

-- an object is on the chain or not
pub told_ok : (nodes : List Node) (x p : Value ℕ) (k : Value ℕ → Prog ℕ) (o : Option Bool) (told : Bool) (old new : State) (r : Result Next StepFault) → ((w : World ℕ) → o ≡ instance_in x p (over old.heap w)) → o ≡ Some told
    → IfOk r (λ next. Does nodes 4 (k (Boolean told)) old new next) → IfOk r (λ next. Does nodes 4 (instance_rest nodes x p k) old new next)
told_ok nodes x p k o told old new r is here h = instance_by nodes x p k (Some told) old new r (λ w. sym here ∙ is w) h

-- or there is none
pub no_object : (nodes : List Node) (x p : Value ℕ) (k : Value ℕ → Prog ℕ) (o : Option Bool) (old new : State) (r : Result Next StepFault) → ((w : World ℕ) → o ≡ instance_in x p (over old.heap w)) → o ≡ None
    → IfOk r (λ next. Does nodes 4 (throw NotAnObject) old new next) → IfOk r (λ next. Does nodes 4 (instance_rest nodes x p k) old new next)
no_object nodes x p k o old new r is none h = instance_by nodes x p k None old new r (λ w. sym none ∙ is w) h
