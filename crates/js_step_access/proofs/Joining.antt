-- How what is left of a row is put together with the row.
use Rattle.std.proofs.Common.{◌≡◌, ℕ, List, Option, Some, None, Bool, true, false, if◌then◌else◌, Result, Ok, Err, IfOk, refl, sym, ap, subst, arith}
use Rattle.std.specs.Prelude.{codes}
use Rattle.world_heap.specs.declared.value.Value.{Value}
use Rattle.js_tree.specs.declared.node.Node.{Node}
use Rattle.js_semantics.specs.declared.fault.Fault.TheVariants.{WrongOperand}
use Rattle.js_semantics.specs.declared.fault.StepFault.{StepFault}
use Rattle.js_semantics.specs.World.{cell_of}
use Rattle.js_semantics.specs.Prog.{Prog, Read, throw}
use Rattle.js_semantics.specs.Access.{get}
use Rattle.js_semantics.specs.Operators.{Computed}
use Rattle.js_semantics.specs.Expressions.{compute, is_callable}
use Rattle.js_machine.specs.declared.state.State.{State}
use Rattle.js_machine.specs.declared.state.Next.{Next}
use Rattle.js_machine.specs.declared.frame.Place.{Place}
use Rattle.js_machine.specs.declared.frame.AfterFrame.{AfterFrame}
use Rattle.js_machine.specs.Does.{Does, world_of}
use Rattle.js_machine.specs.Frames.{after_rest}
use Rattle.js_machine.proofs.Doing.{allowing, does_move_ok, does_read_ok}
use Rattle.js_step_expr.specs.declared.frames.Remaining.{Remaining}
use Rattle.js_step_expr.specs.declared.frames.Remaining.TheVariants.{Instance}
use Rattle.js_step_expr.specs.Left.{DoesOrComes, left_of}
use Rattle.js_step_expr.specs.Settling.{Settles}
use Rattle.js_step_access.specs.Instances.{instance_after}

-- what a row comes to is done
pub joined_ok : (nodes : List Node) (p : Prog ℕ) (remaining : Remaining ℕ) (old mid new : State) (r : Result Next StepFault) → DoesOrComes nodes p old mid (Err remaining) → IfOk r (λ next. Does nodes 6 (left_of nodes remaining) mid new next) → IfOk r (λ next. Does nodes 6 p old new next)
joined_ok nodes p remaining old mid new r m = does_move_ok nodes 6 p (left_of nodes remaining) old mid new r m

-- `instanceof` by whether its right side can be called
abbrev instance_by : List Node → Value ℕ → Value ℕ → Option (Place ℕ) → Bool → Prog ℕ
instance_by nodes x y place callable = if callable then get y (codes "prototype") (λ p. after_rest nodes (instance_after x place) p) else throw WrongOperand

instance_is : (nodes : List Node) (x y : Value ℕ) (place : Option (Place ℕ)) → left_of nodes (Instance x y place) ≡ Read (λ w. instance_by nodes x y place (is_callable (cell_of y w)))
instance_is nodes x y None = refl
instance_is nodes x y (Some place) = refl

instance_ok : (nodes : List Node) (x y : Value ℕ) (place : Option (Place ℕ)) (callable : Bool) (old new : State) (r : Result Next StepFault)
    → ((supply : ℕ → ℕ) → callable ≡ is_callable (cell_of y (world_of nodes supply old)))
    → IfOk r (λ next. Does nodes 6 (instance_by nodes x y place callable) old new next) → IfOk r (λ next. Does nodes 6 (left_of nodes (Instance x y place)) old new next)
instance_ok nodes x y place callable old new r is h =
    rw (instance_is nodes x y place) (does_read_ok nodes 6 (λ w. instance_by nodes x y place (is_callable (cell_of y w))) (instance_by nodes x y place callable) old new r (λ supply. ap (λ b. instance_by nodes x y place b) (sym (is supply))) h)

pub called_ok : (nodes : List Node) (x y : Value ℕ) (place : Option (Place ℕ)) (callable : Bool) (key : List ℕ) (frame : AfterFrame ℕ) (old new : State) (r : Result Next StepFault)
    → callable ≡ true → ((supply : ℕ → ℕ) → callable ≡ is_callable (cell_of y (world_of nodes supply old))) → key ≡ codes "prototype" → frame ≡ instance_after x place
    → IfOk r (λ next. Does nodes 6 (get y key (λ p. after_rest nodes frame p)) old new next) → IfOk r (λ next. Does nodes 6 (left_of nodes (Instance x y place)) old new next)
called_ok nodes x y place callable key frame old new r can is k f h =
    instance_ok nodes x y place callable old new r is (rw can (rw f at (rw k at h)))

pub refused_ok : (nodes : List Node) (x y : Value ℕ) (place : Option (Place ℕ)) (callable : Bool) (old new : State) (r : Result Next StepFault)
    → callable ≡ false → ((supply : ℕ → ℕ) → callable ≡ is_callable (cell_of y (world_of nodes supply old)))
    → IfOk r (λ next. Does nodes 6 (throw WrongOperand) old new next) → IfOk r (λ next. Does nodes 6 (left_of nodes (Instance x y place)) old new next)
refused_ok nodes x y place callable old new r not_can is h = instance_ok nodes x y place callable old new r is (rw not_can h)

-- what an operator comes to, by its answer: a value goes on, and else the step has ended
pub computed_ok : (nodes : List Node) (c d : Computed ℕ) (k : Value ℕ → Prog ℕ) (old mid new : State) (settled : Result (Value ℕ) Next) (v : Value ℕ) (r : Result Next StepFault)
    → c ≡ d → settled ≡ Ok v → Settles nodes (compute c k) k old mid settled → IfOk r (λ next. Does nodes 4 (k v) mid new next) → IfOk r (λ next. Does nodes 4 (compute d k) old new next)
computed_ok nodes c d k old mid new settled v r e is h =
    does_move_ok nodes 4 (compute d k) (k v) old mid new r (subst (λ s. Settles nodes (compute d k) k old mid s) is (subst (λ x. Settles nodes (compute x k) k old mid settled) e h))

pub computed_ended : (nodes : List Node) (c d : Computed ℕ) (k : Value ℕ → Prog ℕ) (old mid : State) (settled : Result (Value ℕ) Next) (next : Next)
    → c ≡ d → settled ≡ Err next → Settles nodes (compute c k) k old mid settled → Does nodes 4 (compute d k) old mid next
computed_ended nodes c d k old mid settled next e is h =
    allowing nodes 2 4 (compute d k) old mid next (omega arith) (subst (λ s. Settles nodes (compute d k) k old mid s) is (subst (λ x. Settles nodes (compute x k) k old mid settled) e h))
