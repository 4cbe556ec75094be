-- What is no value passes a frame that goes on only with one.
use Rattle.std.proofs.Common.{◌≢◌, ℕ, ◌+◌, ◌≤◌, List, IfOk, Result, refl, arith}
use Rattle.js_tree.specs.declared.node.Node.{Node}
use Rattle.world_heap.specs.declared.value.Value.{Value}
use Rattle.js_semantics.specs.declared.fault.StepFault.{StepFault}
use Rattle.js_semantics.specs.declared.outcome.Outcome.{Outcome}
use Rattle.js_semantics.specs.declared.outcome.Outcome.TheVariants.{Normal, Return, Break, Continue, Thrown}
use Rattle.js_semantics.specs.Prog.{Prog, End, on_value}
use Rattle.js_machine.specs.declared.frame.Frame.TheVariants as frames
use Rattle.js_machine.specs.declared.frame.AfterFrame.{AfterFrame}
use Rattle.js_machine.specs.declared.frame.AfterFrame.TheVariants as afters
use Rattle.js_machine.specs.declared.state.State.{State}
use Rattle.js_machine.specs.declared.state.Next.{Next}
use Rattle.js_machine.specs.Does.{Does, weight}
use Rattle.js_machine.proofs.Doing.{allowing_ok}

-- each frame has leave for a turn
pub after_enough : (f : AfterFrame ℕ) → 2 ≤ weight (frames.After f) + 1
after_enough afters.Give = omega arith
after_enough (afters.Result value) = omega arith
after_enough (afters.Constructed object) = omega arith
after_enough afters.Typeof = omega arith
after_enough (afters.Update operator before place) = omega arith
after_enough (afters.AssignBy operator value place scope) = omega arith
after_enough (afters.Callee node base scope) = omega arith
after_enough (afters.Instance x) = omega arith
after_enough (afters.AssignInstance x place) = omega arith
after_enough (afters.PropertyRead node at of scope) = omega arith

pub passed_ok : (nodes : List Node) (n : ℕ) (k : Value ℕ → Prog ℕ) (o : Outcome ℕ) (old new : State) (r : Result Next StepFault) → ((v : Value ℕ) → o ≢ Normal v) → 2 ≤ n → IfOk r (λ next. Does nodes 2 (End o) old new next) → IfOk r (λ next. Does nodes n (on_value k o) old new next)
passed_ok nodes n k (Normal v) old new r other le h = absurd (other v refl)
passed_ok nodes n k (Return v) old new r other le h = allowing_ok nodes 2 n (End (Return v)) old new r le h
passed_ok nodes n k Break old new r other le h = allowing_ok nodes 2 n (End Break) old new r le h
passed_ok nodes n k Continue old new r other le h = allowing_ok nodes 2 n (End Continue) old new r le h
passed_ok nodes n k (Thrown v) old new r other le h = allowing_ok nodes 2 n (End (Thrown v)) old new r le h
