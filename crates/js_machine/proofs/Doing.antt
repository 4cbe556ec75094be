-- How what parts of the machine do is put together.
use Rattle.std.proofs.Common.{◌≡◌, ◌≢◌, ℕ, suc, zero, ◌+◌, ◌*◌, ◌-◌, ◌≤◌, ◌<◌, List, [], ◌∷◌, ◌++◌, length, option_to_list, append-nil, Option, Some, None, Bool, true, false, IfOk, Result, Ok, Err, nat_lt, nat_eq, refl, sym, ap, ◌∙◌, arith}
use Rattle.std.proofs.lemmas.Result.{IfOk-weaker}
use Rattle.std.proofs.Math.Path.{fun_ext}
use Rattle.js_tree.specs.declared.node.Node.{Node}
use Rattle.world_heap.specs.Views.{HeapView}
use Rattle.js_semantics.specs.declared.fault.StepFault.{StepFault}
use Rattle.js_semantics.specs.declared.outcome.Outcome.{Outcome}
use Rattle.js_semantics.specs.declared.outcome.Outcome.TheVariants.{Normal, Return, Break, Continue, Thrown}
use Rattle.world_heap.specs.declared.value.Value.{Value}
use Rattle.js_semantics.specs.World.{World}
use Rattle.js_semantics.specs.Prog.{Prog, Cont, Over, End, Enter, Read, Write, Place, Make, Request, Step, step, bind, give, on_value}
use Rattle.js_semantics.specs.Rows.{row}
use Rattle.js_semantics.specs.Run.{Arrival, Budget, receive, run}
use Rattle.world_log.specs.declared.entry.Product.TheVariants.{Stopped}
use Rattle.world_log.specs.declared.entry.Stop.TheVariants.{Fuel}
use Rattle.js_semantics.proofs.Programs.{bind_assoc, spend_some, spend_none}
use Rattle.js_machine.specs.declared.frame.Frame.{Frame}
use Rattle.js_machine.specs.declared.frame.Frame.TheVariants as frames
use Rattle.js_machine.specs.declared.frame.AfterFrame.{AfterFrame}
use Rattle.js_machine.specs.declared.frame.AfterFrame.TheVariants as afters
use Rattle.js_machine.specs.declared.state.State.{State}
use Rattle.js_machine.specs.declared.state.Control.{Control}
use Rattle.js_machine.specs.declared.state.Control.TheVariants as controls
use Rattle.js_machine.specs.declared.state.Next.{Next}
use Rattle.js_machine.specs.declared.state.Next.TheVariants.{Go, Made}
use Rattle.js_machine.specs.Frames.{after_rest, rest, under}
use Rattle.js_machine.specs.Does.{Follows, world_of, budget_of, stack_rest, control_prog, control_work, IsEntered, under_frame, StepsDown, to_come, made, after, weight, weights, work, left, Stays, Does, Moves, Steps}

-- a frame on top is taken up first
pub under_push : (nodes : List Node) (k : Cont ℕ) (fs : List (Frame ℕ)) (f : Frame ℕ) → under nodes k (fs ++ f ∷ []) ≡ (λ o. bind (rest nodes f o) (under nodes k fs))
under_push nodes k [] f = refl
under_push nodes k (g ∷ fs) f = under_push nodes (λ o. bind (rest nodes g o) k) fs f

pub weights_push : (fs : List (Frame ℕ)) (f : Frame ℕ) → weights (fs ++ f ∷ []) ≡ weights fs + weight f
weights_push [] f = omega arith
weights_push (g ∷ fs) f = let e = weights_push fs f in omega arith

-- no frame has a weight above 5
pub after_most : (f : AfterFrame ℕ) → weight (frames.After f) < 4
after_most afters.Give = omega arith
after_most (afters.Result value) = omega arith
after_most (afters.Constructed object) = omega arith
after_most afters.Typeof = omega arith
after_most (afters.Update operator before place) = omega arith
after_most (afters.AssignBy operator value place scope) = omega arith
after_most (afters.Callee node base scope) = omega arith
after_most (afters.Instance x) = omega arith
after_most (afters.AssignInstance x place) = omega arith
after_most (afters.PropertyRead node at of scope) = omega arith

pub weight_most : (f : Frame ℕ) → weight f < 6
weight_most (frames.OnValue f) = omega arith
weight_most (frames.After f) = let h = after_most f in omega arith
weight_most frames.Script = omega arith
weight_most frames.Leave = omega arith
weight_most (frames.WhileBody test body scope) = omega arith
weight_most (frames.DoBody body test scope) = omega arith
weight_most (frames.ForBody turn scope) = omega arith
weight_most (frames.ForOfBody constant pattern body array place around) = omega arith
weight_most (frames.Catch pattern handler scope) = omega arith
weight_most (frames.Last last scope) = omega arith
weight_most (frames.Replaced before) = omega arith

-- more turns may be left
pub allowing : (nodes : List Node) (few many : ℕ) (p : Prog ℕ) (old new : State) (next : Next) → few ≤ many → Does nodes few p old new next → Does nodes many p old new next
allowing nodes few many p old new next le h = record { law = h.law; falls = let f = h.falls in omega arith; keeps = h.keeps; stays = h.stays }

pub allowing_ok : (nodes : List Node) (few many : ℕ) (p : Prog ℕ) (old new : State) (r : Result Next StepFault) → few ≤ many → IfOk r (λ next. Does nodes few p old new next) → IfOk r (λ next. Does nodes many p old new next)
allowing_ok nodes few many p old new r le = IfOk-weaker r _ _ (λ next h. allowing nodes few many p old new next le h)

-- what is left of a frame stands above the frames below it
under_front : (nodes : List Node) (old new : State) (frame : Option (Frame ℕ)) → new.frames.items ≡ old.frames.items ++ option_to_list frame → ◌≡◌ {A = Cont ℕ} (stack_rest nodes new) (λ o. bind (under_frame nodes frame o) (stack_rest nodes old))
under_front nodes old new None is = ap (λ fs. under nodes (λ o. Over) fs) (is ∙ append-nil old.frames.items)
under_front nodes old new (Some f) is = ap (λ fs. under nodes (λ o. Over) fs) is ∙ under_push nodes (λ o. Over) old.frames.items f

weights_front : (old : List (Frame ℕ)) (frame : Option (Frame ℕ)) → weights (old ++ option_to_list frame) ≤ weights old + 5
weights_front old None = let e = ap weights (append-nil old) in omega arith
weights_front old (Some f) = let e = weights_push old f in let m = weight_most f in omega arith

-- a request is entered, as what is next
pub entered : (nodes : List Node) (n : ℕ) (old new : State) (r : Request ℕ) (frame : Option (Frame ℕ)) (c : Control ℕ) → 2 ≤ n → IsEntered c r → old.steps ≢ 0 → new.frames.items ≡ old.frames.items ++ option_to_list frame → new ≡ record old { steps = old.steps - 1; control = c; frames = new.frames } → Does nodes n (Enter r (λ o. under_frame nodes frame o)) old new Go
unfolding run
entered nodes n old new r frame c le e some frames_are is =
    let b : Budget = record (budget_of old) { steps = old.steps - 1 } in
    let budget_is : budget_of new ≡ b = ap budget_of is in
    let heap_is : new.heap ≡ old.heap = ap (λ s. s.heap) is in
    record {
      law = λ supply ds follows.
          let w = world_of nodes supply old in
          spend_some ds (receive ds) (budget_of old) r (λ o. bind (under_frame nodes frame o) (stack_rest nodes old)) w some
          ∙ sym (ap (λ k. run ds b w (bind (row r) k)) (under_front nodes old new frame frames_are))
          ∙ sym (ap (λ p. run ds b w p) (e.row_is (stack_rest nodes new)))
          ∙ sym (ap (λ s. run ds (budget_of s) (world_of nodes supply s) (control_prog s.control (stack_rest nodes new))) is);
      falls =
          let z : control_work new.control ≡ 6 = ap (λ s. control_work s.control) is ∙ e.costs in
          let l : weights new.frames.items ≡ weights (old.frames.items ++ option_to_list frame) = ap weights frames_are in
          let p : new.heap.limits.places - new.heap.counts.places ≡ old.heap.limits.places - old.heap.counts.places = ap (λ h. h.limits.places - h.counts.places) heap_is in
          let t : new.steps ≡ old.steps - 1 = ap (λ s. s.steps) is in
          let m = weights_front old.frames.items frame in
          omega arith;
      keeps = λ supply follows. rw (← ap (λ h. h.cells) heap_is) follows;
      stays = heap_is ∙ sym (ap (λ h. record old.heap { cells = h.cells; counts = h.counts }) heap_is);
    }

-- the same, where the frame is pushed first
pub entered_by : (nodes : List Node) (n : ℕ) (old mid new : State) (r : Request ℕ) (frame : Option (Frame ℕ)) (c : Control ℕ) → 2 ≤ n → IsEntered c r → old.steps ≢ 0 → mid.frames.items ≡ old.frames.items ++ option_to_list frame → mid ≡ record old { frames = mid.frames } → new ≡ record mid { steps = mid.steps - 1; control = c } → Does nodes n (Enter r (λ o. under_frame nodes frame o)) old new Go
entered_by nodes n old mid new r frame c le e some frames_are pushed is =
    let now : State = record mid { steps = mid.steps - 1; control = c } in
    let whole : now ≡ record old { steps = old.steps - 1; control = c; frames = now.frames } = ap (λ (s : State). record s { steps = s.steps - 1; control = c; frames = mid.frames }) pushed in
    rw is (entered nodes n old now r frame c le e some frames_are whole)

-- what follows a reading is done over its frame
pub handed : (nodes : List Node) (old new : State) (frame : AfterFrame ℕ) (v : Value ℕ) → new.frames.items ≡ old.frames.items ++ frames.After frame ∷ [] → new ≡ record old { control = controls.Give (Normal v); frames = new.frames } → Does nodes 6 (after_rest nodes frame v) old new Go
unfolding run
handed nodes old new frame v frames_are is = record {
  law = λ supply ds follows.
      let w = world_of nodes supply old in
      sym (ap (λ k. run ds (budget_of old) w (k (Normal v))) (under_front nodes old new (Some (frames.After frame)) frames_are))
      ∙ sym (ap (λ s. run ds (budget_of s) (world_of nodes supply s) (control_prog s.control (stack_rest nodes new))) is);
  falls =
      let z : control_work new.control ≡ 1 = ap (λ s. control_work s.control) is in
      let l : weights new.frames.items ≡ weights old.frames.items + weight (frames.After frame) = ap weights frames_are ∙ weights_push old.frames.items (frames.After frame) in
      let p : left new ≡ left old = ap left is in
      let m = after_most frame in
      omega arith;
  keeps = λ supply follows. rw (ap (λ s. s.heap.cells) is) at follows;
  stays = ap (λ s. s.heap) is ∙ sym (ap (λ s. record old.heap { cells = s.heap.cells; counts = s.heap.counts }) is);
}

-- nothing is left to enter with
pub not_entered : (nodes : List Node) (n : ℕ) (old new : State) (r : Request ℕ) (k : Cont ℕ) → 2 ≤ n → old.steps ≡ 0 → new ≡ record old { control = controls.Stop } → Does nodes n (Enter r k) old new (Made (Stopped Fuel))
unfolding run
not_entered nodes n old new r k le none is = record {
  law = λ supply ds follows.
      spend_none ds (receive ds) (budget_of old) r (λ o. bind (k o) (stack_rest nodes old)) (world_of nodes supply old) none
      ∙ sym (ap (λ s. after (Stopped Fuel ∷ []) (to_come nodes supply s ds)) is);
  falls = let e : work new ≡ 32 * left old + weights old.frames.items + 0 = ap work is in omega arith;
  keeps = λ supply f. rw is at f;
  stays = ap (λ s. s.heap) is ∙ sym (ap (λ s. record old.heap { cells = s.heap.cells; counts = s.heap.counts }) is);
}

stays_twice : (a b c : HeapView) → Stays a b → Stays b c → Stays a c
stays_twice a b c h g = g ∙ ap (λ (v : HeapView). record v { cells = c.cells; counts = c.counts }) h

-- what p comes to is done
pub does_move : (nodes : List Node) (n : ℕ) (p q : Prog ℕ) (old mid new : State) (next : Next) → Moves nodes p old q mid → Does nodes n q mid new next → Does nodes n p old new next
does_move nodes n p q old mid new next m h = record {
  law = λ supply ds follows.
      m.law supply ds (stack_rest nodes old) (h.keeps supply follows)
      ∙ sym (ap (λ fs. run ds (budget_of mid) (world_of nodes supply mid) (bind q (under nodes (λ o. Over) fs))) m.frames)
      ∙ h.law supply ds follows;
  falls =
      let l : weights mid.frames.items ≡ weights old.frames.items = ap weights m.frames in
      let f = h.falls in
      let g = m.left in
      omega arith;
  keeps = λ supply f. m.keeps supply (h.keeps supply f);
  stays = stays_twice old.heap mid.heap new.heap m.stays h.stays;
}

pub does_move_ok : (nodes : List Node) (n : ℕ) (p q : Prog ℕ) (old mid new : State) (r : Result Next StepFault) → Moves nodes p old q mid → IfOk r (λ next. Does nodes n q mid new next) → IfOk r (λ next. Does nodes n p old new next)
does_move_ok nodes n p q old mid new r m = IfOk-weaker r _ _ (λ next h. does_move nodes n p q old mid new next m h)

-- moves, one after another
pub moves_on : (nodes : List Node) (p q r : Prog ℕ) (old mid new : State) → Moves nodes p old q mid → Moves nodes q mid r new → Moves nodes p old r new
moves_on nodes p q r old mid new m h = record {
  law = λ supply ds k f. m.law supply ds k (h.keeps supply f) ∙ h.law supply ds k f;
  frames = h.frames ∙ m.frames;
  left = let a = m.left in let b = h.left in omega arith;
  keeps = λ supply f. m.keeps supply (h.keeps supply f);
  stays = stays_twice old.heap mid.heap new.heap m.stays h.stays;
}

-- a program that comes to another at once, in the same state
pub moves_by : (nodes : List Node) (p q : Prog ℕ) (s : State) → ((supply : ℕ → ℕ) (ds : List Arrival) (k : Cont ℕ) → run ds (budget_of s) (world_of nodes supply s) (bind p k) ≡ run ds (budget_of s) (world_of nodes supply s) (bind q k)) → Moves nodes p s q s
moves_by nodes p q s same = record { law = λ supply ds k f. same supply ds k; frames = refl; left = omega arith; keeps = λ supply f. f; stays = refl }

-- nothing is done
pub moves_still : (nodes : List Node) (p : Prog ℕ) (s : State) → Moves nodes p s p s
moves_still nodes p s = moves_by nodes p p s (λ supply ds k. refl)

-- the world is read
pub moves_read : (nodes : List Node) (f : World ℕ → Prog ℕ) (q : Prog ℕ) (s : State) → ((supply : ℕ → ℕ) → f (world_of nodes supply s) ≡ q) → Moves nodes (Read f) s q s
unfolding run
moves_read nodes f q s is = moves_by nodes (Read f) q s (λ supply ds k. ap (λ p. run ds (budget_of s) (world_of nodes supply s) (bind p k)) (is supply))

pub does_read_ok : (nodes : List Node) (n : ℕ) (f : World ℕ → Prog ℕ) (q : Prog ℕ) (old new : State) (r : Result Next StepFault) → ((supply : ℕ → ℕ) → f (world_of nodes supply old) ≡ q) → IfOk r (λ next. Does nodes n q old new next) → IfOk r (λ next. Does nodes n (Read f) old new next)
does_read_ok nodes n f q old new r is = does_move_ok nodes n (Read f) q old old new r (moves_read nodes f q old is)

pub does_read : (nodes : List Node) (n : ℕ) (f : World ℕ → Prog ℕ) (q : Prog ℕ) (old new : State) (next : Next) → ((supply : ℕ → ℕ) → f (world_of nodes supply old) ≡ q) → Does nodes n q old new next → Does nodes n (Read f) old new next
does_read nodes n f q old new next is = does_move nodes n (Read f) q old old new next (moves_read nodes f q old is)

-- a step is taken where a node stands that has no row of its own
pub moves_step : (nodes : List Node) (p : Prog ℕ) (old mid : State) → StepsDown old mid true → Moves nodes (step p) old p mid
unfolding run row
moves_step nodes p old mid (some, is) = rw is (record {
  law = λ supply ds k follows. spend_some ds (receive ds) (budget_of old) Step (λ o. bind p k) (world_of nodes supply old) some;
  frames = refl;
  left = omega arith;
  keeps = λ supply f. f;
  stays = refl;
})

pub does_step_ok : (nodes : List Node) (n : ℕ) (p : Prog ℕ) (old mid new : State) (r : Result Next StepFault) → StepsDown old mid true → IfOk r (λ next. Does nodes n p mid new next) → IfOk r (λ next. Does nodes n (step p) old new next)
does_step_ok nodes n p old mid new r h = does_move_ok nodes n _ _ old mid new r (moves_step nodes p old mid h)

-- or none is left
pub not_stepped : (nodes : List Node) (p : Prog ℕ) (old new : State) → StepsDown old new false → Does nodes 6 (step p) old new (Made (Stopped Fuel))
not_stepped nodes p old new (none, is) = not_entered nodes 6 old new Step (λ o. p) (omega arith) none is

given : (o : Outcome ℕ) → on_value (λ v. give v) o ≡ End o
given (Normal v) = refl
given (Return v) = refl
given Break = refl
given Continue = refl
given (Thrown v) = refl

-- what is done with a value that is given is what is done with the outcome
pub passed : ◌≡◌ {A = Cont ℕ} (λ o. on_value (λ v. give v) o) (λ o. End o)
passed = fun_ext given
