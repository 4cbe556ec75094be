-- One step of the machine, from what is next.
use Rattle.std.proofs.Common.{◌≡◌, ℕ, ◌+◌, ◌*◌, ◌-◌, ◌≤◌, ◌<◌, List, [], ◌∷◌, ◌++◌, IfOk, Result, refl, sym, ap, ◌∙◌, arith}
use Rattle.std.proofs.lemmas.Result.{IfOk-weaker}
use Rattle.js_tree.specs.declared.node.Node.{Node}
use Rattle.js_semantics.specs.declared.mode.Mode.{Mode}
use Rattle.world_log.specs.declared.entry.Product.TheVariants.{Rest}
use Rattle.js_semantics.specs.declared.fault.StepFault.{StepFault}
use Rattle.js_semantics.specs.declared.outcome.Outcome.{Outcome}
use Rattle.js_semantics.specs.Prog.{Over, Request, bind}
use Rattle.js_semantics.specs.Rows.{row}
use Rattle.js_semantics.specs.Run.{Arrival, run}
use Rattle.js_machine.specs.declared.frame.Frame.{Frame}
use Rattle.js_machine.specs.declared.state.State.{State}
use Rattle.js_machine.specs.declared.state.Control.{Control}
use Rattle.js_machine.specs.declared.state.Control.TheVariants as controls
use Rattle.js_machine.specs.declared.state.Next.{Next}
use Rattle.js_machine.specs.declared.state.Next.TheVariants.{Go, Made}
use Rattle.js_machine.specs.Frames.{rest, under}
use Rattle.js_machine.specs.Does.{Does, Steps, IsEntered, after, world_of, budget_of, stack_rest, control_prog, control_work, to_come, weight, weights, left, work}
use Rattle.js_machine.proofs.Doing.{under_push, weights_push}

-- a row is run
pub ran : (nodes : List Node) (n : ℕ) (s mid new : State) (r : Request ℕ) (c : Control ℕ) (next : Next) → s.control ≡ c → IsEntered c r → n ≤ 6 → mid ≡ record s { control = mid.control } → Does nodes n (row r) mid new next → Steps nodes s new next
unfolding run
ran nodes n s mid new r c next is e few same h =
    let heap_is = ap (λ (x : State). x.heap) same in
    record {
      law = λ supply ds follows.
          ap (λ d. run ds (budget_of s) (world_of nodes supply s) (control_prog d (stack_rest nodes s))) is
          ∙ ap (λ p. run ds (budget_of s) (world_of nodes supply s) p) (e.row_is (stack_rest nodes s))
          ∙ sym (ap (λ (x : State). run ds (budget_of x) (world_of nodes supply x) (bind (row r) (stack_rest nodes x))) same)
          ∙ h.law supply ds follows;
      falls =
          let z : control_work s.control ≡ 6 = ap control_work is ∙ e.costs in
          let l : left mid ≡ left s = ap left same in
          let w : weights mid.frames.items ≡ weights s.frames.items = ap (λ (x : State). weights x.frames.items) same in
          let f = h.falls in
          omega arith;
      keeps = λ supply follows. rw heap_is at (h.keeps supply follows);
      stays = rw heap_is at h.stays;
    }

pub ran_ok : (nodes : List Node) (n : ℕ) (s mid new : State) (r : Request ℕ) (c : Control ℕ) (result : Result Next StepFault) → s.control ≡ c → IsEntered c r → n ≤ 6 → mid ≡ record s { control = mid.control } → IfOk result (λ next. Does nodes n (row r) mid new next) → IfOk result (λ next. Steps nodes s new next)
ran_ok nodes n s mid new r c result is e few same = IfOk-weaker result _ _ (λ next h. ran nodes n s mid new r c next is e few same h)

-- the topmost frame takes an outcome
pub took_up : (nodes : List Node) (n : ℕ) (s mid new : State) (f : Frame ℕ) (o : Outcome ℕ) (next : Next) → s.control ≡ controls.Give o → s.frames.items ≡ mid.frames.items ++ f ∷ [] → mid ≡ record s { control = mid.control; frames = mid.frames } → n ≤ weight f + 1 → Does nodes n (rest nodes f o) mid new next → Steps nodes s new next
unfolding run
took_up nodes n s mid new f o next is frames_are same few h =
    let heap_is = ap (λ (x : State). x.heap) same in
    record {
      law = λ supply ds follows.
          ap (λ d. run ds (budget_of s) (world_of nodes supply s) (control_prog d (stack_rest nodes s))) is
          ∙ ap (λ fs. run ds (budget_of s) (world_of nodes supply s) (under nodes (λ p. Over) fs o)) frames_are
          ∙ ap (λ k. run ds (budget_of s) (world_of nodes supply s) (k o)) (under_push nodes (λ p. Over) mid.frames.items f)
          ∙ sym (ap (λ (x : State). run ds (budget_of x) (world_of nodes supply x) (bind (rest nodes f o) (stack_rest nodes mid))) same)
          ∙ h.law supply ds follows;
      falls =
          let z : control_work s.control ≡ 1 = ap control_work is in
          let l : left mid ≡ left s = ap left same in
          let w : weights s.frames.items ≡ weights mid.frames.items + weight f = ap weights frames_are ∙ weights_push mid.frames.items f in
          let g = h.falls in
          omega arith;
      keeps = λ supply follows. rw heap_is at (h.keeps supply follows);
      stays = rw heap_is at h.stays;
    }

pub took_up_ok : (nodes : List Node) (n : ℕ) (s mid new : State) (f : Frame ℕ) (o : Outcome ℕ) (result : Result Next StepFault) → s.control ≡ controls.Give o → s.frames.items ≡ mid.frames.items ++ f ∷ [] → mid ≡ record s { control = mid.control; frames = mid.frames } → n ≤ weight f + 1 → IfOk result (λ next. Does nodes n (rest nodes f o) mid new next) → IfOk result (λ next. Steps nodes s new next)
took_up_ok nodes n s mid new f o result is frames_are same few = IfOk-weaker result _ _ (λ next h. took_up nodes n s mid new f o next is frames_are same few h)

-- an outcome without a frame ends all
pub ended : (nodes : List Node) (s new : State) (o : Outcome ℕ) → s.control ≡ controls.Give o → s.frames.items ≡ [] → new ≡ record s { control = controls.Stop } → Steps nodes s new Go
unfolding run
ended nodes s new o is none new_is = record {
  law = λ supply ds follows.
      ap (λ d. run ds (budget_of s) (world_of nodes supply s) (control_prog d (stack_rest nodes s))) is
      ∙ ap (λ fs. run ds (budget_of s) (world_of nodes supply s) (under nodes (λ p. Over) fs o)) none
      ∙ sym (ap (λ (x : State). to_come nodes supply x ds) new_is);
  falls =
      let z : control_work s.control ≡ 1 = ap control_work is in
      let w : work new ≡ 32 * left s + weights s.frames.items + 0 = ap work new_is in
      omega arith;
  keeps = λ supply follows. rw new_is at follows;
  stays = ap (λ (x : State). x.heap) new_is ∙ sym (ap (λ (x : State). record s.heap { cells = x.heap.cells; counts = x.heap.counts }) new_is);
}

-- the task is done, and a delivery is waited for
pub rested : (nodes : List Node) (s new : State) (m : Mode) → s.control ≡ controls.AtRest m → new ≡ record s { control = controls.Wait m } → Steps nodes s new (Made (Rest 0))
unfolding run
rested nodes s new m is new_is = record {
  law = λ supply ds follows.
      ap (λ d. run ds (budget_of s) (world_of nodes supply s) (control_prog d (stack_rest nodes s))) is
      ∙ sym (ap (λ (x : State). after (Rest 0 ∷ []) (to_come nodes supply x ds)) new_is);
  falls =
      let z : control_work s.control ≡ 1 = ap control_work is in
      let w : work new ≡ 32 * left s + weights s.frames.items + 0 = ap work new_is in
      omega arith;
  keeps = λ supply follows. rw new_is at follows;
  stays = ap (λ (x : State). x.heap) new_is ∙ sym (ap (λ (x : State). record s.heap { cells = x.heap.cells; counts = x.heap.counts }) new_is);
}
