-- Two frames over what is entered.
use Rattle.std.proofs.Common.{◌≡◌, ◌≢◌, ℕ, ◌+◌, ◌-◌, List, [], ◌∷◌, ◌++◌, sym, ap, ◌∙◌, arith}
use mathlib.Core.Path.{fun_ext}
use Rattle.js_tree.specs.declared.node.Node.{Node}
use Rattle.js_semantics.specs.Prog.{Cont, Over, Enter, Request, bind}
use Rattle.js_semantics.specs.Rows.{row}
use Rattle.js_semantics.specs.Run.{Budget, receive, run}
use Rattle.js_semantics.proofs.Programs.{bind_assoc, spend_some}
use Rattle.js_machine.specs.declared.frame.Frame.{Frame}
use Rattle.js_machine.specs.declared.state.State.{State}
use Rattle.js_machine.specs.declared.state.Control.{Control}
use Rattle.js_machine.specs.declared.state.Next.TheVariants.{Go}
use Rattle.js_machine.specs.Frames.{rest, under}
use Rattle.js_machine.specs.Does.{world_of, budget_of, stack_rest, control_prog, control_work, weight, weights, IsEntered, Does}
use Rattle.js_machine.proofs.Doing.{under_push, weights_push, weight_most}

-- the upper frame is taken up first, and then the lower one
both : (nodes : List Node) (old new : State) (lower upper : Frame ℕ) → new.frames.items ≡ (old.frames.items ++ lower ∷ []) ++ upper ∷ [] → ◌≡◌ {A = Cont ℕ} (λ o. bind (bind (rest nodes upper o) (λ p. rest nodes lower p)) (stack_rest nodes old)) (stack_rest nodes new)
both nodes old new lower upper is =
    let k : Cont ℕ = λ o. Over in
    fun_ext (λ o. bind_assoc (rest nodes upper o) (λ p. rest nodes lower p) (stack_rest nodes old))
    ∙ sym (ap (λ (j : Cont ℕ). (λ o. bind (rest nodes upper o) j)) (under_push nodes k old.frames.items lower))
    ∙ sym (under_push nodes k (old.frames.items ++ lower ∷ []) upper)
    ∙ sym (ap (λ fs. under nodes k fs) is)

-- a request is entered, as what is next
pub entered_under : (nodes : List Node) (old new : State) (r : Request ℕ) (lower upper : Frame ℕ) (c : Control ℕ) → IsEntered c r → old.steps ≢ 0 → new.frames.items ≡ (old.frames.items ++ lower ∷ []) ++ upper ∷ [] → new ≡ record old { steps = old.steps - 1; control = c; frames = new.frames } → Does nodes 6 (Enter r (λ o. bind (rest nodes upper o) (λ p. rest nodes lower p))) old new Go
unfolding run
entered_under nodes old new r lower upper c e some frames_are is =
    let b : Budget = record (budget_of old) { steps = old.steps - 1 } in
    let heap_is : new.heap ≡ old.heap = ap (λ s. s.heap) is in
    record {
      law = λ supply ds follows.
          let w = world_of nodes supply old in
          spend_some ds (receive ds) (budget_of old) r (λ o. bind (bind (rest nodes upper o) (λ p. rest nodes lower p)) (stack_rest nodes old)) w some
          ∙ ap (λ k. run ds b w (bind (row r) k)) (both nodes old new lower upper frames_are)
          ∙ sym (ap (λ p. run ds b w p) (e.row_is (stack_rest nodes new)))
          ∙ sym (ap (λ s. run ds (budget_of s) (world_of nodes supply s) (control_prog s.control (stack_rest nodes new))) is);
      falls =
          let z : control_work new.control ≡ 6 = ap (λ s. control_work s.control) is ∙ e.costs in
          let l : weights new.frames.items ≡ weights old.frames.items + weight lower + weight upper = ap weights frames_are ∙ weights_push (old.frames.items ++ lower ∷ []) upper ∙ ap (λ n. n + weight upper) (weights_push old.frames.items lower) in
          let p : new.heap.limits.places - new.heap.counts.places ≡ old.heap.limits.places - old.heap.counts.places = ap (λ h. h.limits.places - h.counts.places) heap_is in
          let t : new.steps ≡ old.steps - 1 = ap (λ s. s.steps) is in
          let m = weight_most lower in
          let n = weight_most upper in
          omega arith;
      keeps = λ supply follows. rw (← ap (λ h. h.cells) heap_is) follows;
      stays = heap_is ∙ sym (ap (λ h. record old.heap { cells = h.cells; counts = h.counts }) heap_is);
    }
