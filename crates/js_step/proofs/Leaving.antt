-- The end of a call.
use Rattle.std.proofs.Common.{◌≡◌, ℕ, ◌-◌, List, IfOk, Result, refl, arith}
use Rattle.js_tree.specs.declared.node.Node.{Node}
use Rattle.js_semantics.specs.declared.fault.StepFault.{StepFault}
use Rattle.js_semantics.specs.declared.outcome.Outcome.{Outcome}
use Rattle.js_semantics.specs.Prog.{End}
use Rattle.js_semantics.specs.Access.{given_by}
use Rattle.js_semantics.specs.Run.{run}
use Rattle.js_machine.specs.declared.frame.Frame.TheVariants as frames
use Rattle.js_machine.specs.declared.state.State.{State}
use Rattle.js_machine.specs.declared.state.Next.{Next}
use Rattle.js_machine.specs.Frames.{rest}
use Rattle.js_machine.specs.Does.{Does, Moves}
use Rattle.js_machine.proofs.Doing.{does_move_ok}

moves_leave : (nodes : List Node) (o : Outcome ℕ) (old mid : State) → mid ≡ record old { depth = old.depth - 1 } → Moves nodes (rest nodes frames.Leave o) old (End (given_by o)) mid
unfolding run
moves_leave nodes o old mid is = rw is (record {
  law = λ supply ds k follows. refl;
  frames = refl;
  left = omega arith;
  keeps = λ supply f. f;
  stays = refl;
})

-- a call is active no more
pub leave_ok : (nodes : List Node) (o : Outcome ℕ) (old mid new : State) (r : Result Next StepFault) → mid ≡ record old { depth = old.depth - 1 } → IfOk r (λ next. Does nodes 2 (End (given_by o)) mid new next) → IfOk r (λ next. Does nodes 2 (rest nodes frames.Leave o) old new next)
leave_ok nodes o old mid new r is = does_move_ok nodes 2 (rest nodes frames.Leave o) (End (given_by o)) old mid new r (moves_leave nodes o old mid is)
