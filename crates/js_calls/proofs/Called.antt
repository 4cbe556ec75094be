-- How calls are put together.
use Rattle.std.proofs.Common.{◌≡◌, ℕ, ◌+◌, ◌≤◌, ◌<◌, List, [], ◌∷◌, ◌++◌, Option, Some, None, true, false, if◌then◌else◌, IfOk, Result, Ok, Err, nat_lt, refl, sym, ap, subst, ◌∙◌, arith}
use Rattle.std.specs.Prelude.{slice_get, unwrap_or}
use Rattle.std.proofs.lemmas.Result.{IfOk-weaker}
use Rattle.std.proofs.lemmas.Bool.Decides.{nat_tests}
use Rattle.world_heap.specs.declared.value.Value.{Value}
use Rattle.world_heap.specs.declared.cell.Binding.{Binding}
use Rattle.world_heap.specs.declared.cell.Cell.{Cell}
use Rattle.world_heap.specs.declared.cell.Cell.TheVariants.{Object, Array, Closure, Native, Far, Error, Map, Set, Promise, Port, Buffer, View, Symbol, Env}
use Rattle.js_tree.specs.declared.node.NodeId.{NodeId}
use Rattle.js_tree.specs.declared.node.Node.{Node}
use Rattle.js_tree.specs.declared.node.Function.{Function}
use Rattle.js_semantics.specs.declared.fault.Fault.TheVariants.{NotAFunction, TooManyCalls}
use Rattle.js_semantics.specs.declared.fault.StepFault.{StepFault}
use Rattle.world_log.specs.declared.entry.Product.TheVariants.{Stopped}
use Rattle.world_log.specs.declared.entry.Stop.{Stop}
use Rattle.js_semantics.specs.declared.scope.Scope.{Scope}
use Rattle.js_semantics.specs.declared.outcome.Outcome.{Outcome}
use Rattle.js_semantics.specs.World.{World, cell_of, over}
use Rattle.js_semantics.specs.Prog.{Prog, Cont, Over, End, Enter, Write, Native as NativeRequest, Node as NodeRequest, alloc, bind, give, on_value, throw}
use Rattle.js_semantics.specs.Access.{activate, bind_parameters, call, call_cell, function_of, invoke, leave, patterns_of, run_body, run_function}
use Rattle.js_semantics.specs.Environments.{env_cell, parameters_of}
use Rattle.js_semantics.specs.Run.{run}
use Rattle.js_semantics.proofs.Programs.{bind_assoc}
use Rattle.js_machine.specs.declared.frame.Frame.{Frame}
use Rattle.js_machine.specs.declared.frame.Frame.TheVariants as frames
use Rattle.js_machine.specs.declared.frame.AfterFrame.{AfterFrame}
use Rattle.js_machine.specs.declared.state.State.{State}
use Rattle.js_machine.specs.declared.state.Next.{Next}
use Rattle.js_machine.specs.declared.state.Next.TheVariants.{Made}
use Rattle.js_machine.specs.Frames.{after_rest, parameters_rest, rest, under}
use Rattle.js_machine.specs.Parts.{body_in, body_node, parameters_from, parameters_in, rest_in, rest_parameter}
use Rattle.js_machine.specs.Does.{world_of, budget_of, stack_rest, under_frame, weight, weights, left, Allocates, Does, Moves}
use Rattle.js_machine.proofs.Doing.{after_most, allowing_ok, does_move_ok, does_read, does_read_ok, passed, under_push, weights_push}
use Rattle.js_machine.proofs.Allocating.{does_alloc_ok, not_alloc}
use Rattle.js_calls.specs.declared.callee.Callee.{Callee}
use Rattle.js_calls.specs.declared.callee.Callee.TheVariants as callees
use Rattle.js_calls.specs.Callees.{callee_in}
use Rattle.js_calls.specs.Calling.{after_frame, allowance, by_callee, call_frames, ending}

-- what is done with a value is what the frame of it leaves
pub ended : (nodes : List Node) (frame : Option (AfterFrame ℕ)) → ◌≡◌ {A = Cont ℕ} (on_value (ending nodes frame)) (λ o. under_frame nodes (after_frame frame) o)
unfolding ending
ended nodes None = passed
ended nodes (Some frame) = refl

under_two : (nodes : List Node) (k : Cont ℕ) (fs : List (Frame ℕ)) (f g : Frame ℕ) → under nodes k (fs ++ f ∷ g ∷ []) ≡ (λ o. bind (rest nodes g o) (λ p. bind (rest nodes f p) (under nodes k fs)))
under_two nodes k [] f g = refl
under_two nodes k (h ∷ fs) f g = under_two nodes (λ o. bind (rest nodes h o) k) fs f g

weights_two : (fs : List (Frame ℕ)) (f g : Frame ℕ) → weights (fs ++ f ∷ g ∷ []) ≡ weights fs + (weight f + weight g)
weights_two [] f g = omega arith
weights_two (h ∷ fs) f g = let e = weights_two fs f g in omega arith

-- what is done at the end of a call over its frames
call_under : (nodes : List Node) (frame : Option (AfterFrame ℕ)) (k : Cont ℕ) (fs : List (Frame ℕ)) → ◌≡◌ {A = Cont ℕ} (under nodes k (fs ++ call_frames frame)) (λ o. bind (leave (on_value (ending nodes frame)) o) (under nodes k fs))
call_under nodes None k fs =
    under_push nodes k fs frames.Leave
    ∙ sym (ap {B = Cont ℕ} (λ (j : Cont ℕ) (o : Outcome ℕ). bind (leave j o) (under nodes k fs)) (ended nodes None))
call_under nodes (Some frame) k fs =
    under_two nodes k fs (frames.After frame) frames.Leave
    ∙ sym (ap {B = Cont ℕ} (λ (j : Cont ℕ) (o : Outcome ℕ). bind (leave j o) (under nodes k fs)) (ended nodes (Some frame)))

call_weights : (frame : Option (AfterFrame ℕ)) (fs : List (Frame ℕ)) (n : ℕ) → allowance frame ≤ n → weights (fs ++ call_frames frame) + 2 ≤ weights fs + n
unfolding allowance
call_weights None fs n le = let e = weights_push fs frames.Leave in omega arith
call_weights (Some frame) fs n le = let e = weights_two fs (frames.After frame) frames.Leave in omega arith

-- what is done over the frames of a call
called : (nodes : List Node) (n : ℕ) (p : Prog ℕ) (old mid new : State) (frame : Option (AfterFrame ℕ)) (next : Next) → allowance frame ≤ n → mid.frames.items ≡ old.frames.items ++ call_frames frame → mid ≡ record old { frames = mid.frames }
    → Does nodes 2 p mid new next → Does nodes n (bind p (leave (on_value (ending nodes frame)))) old new next
unfolding run
called nodes n p old mid new frame next le frames_are is h =
    let K : Cont ℕ = on_value (ending nodes frame) in
    record {
      law = λ supply ds follows.
          let w = world_of nodes supply old in
          let b = budget_of old in
          ap (λ q. run ds b w q) (bind_assoc p (leave K) (stack_rest nodes old))
          ∙ sym (ap (λ k. run ds b w (bind p k)) (ap (λ fs. under nodes (λ o. Over) fs) frames_are ∙ call_under nodes frame (λ o. Over) old.frames.items))
          ∙ sym (ap (λ (s : State). run ds (budget_of s) (world_of nodes supply s) (bind p (stack_rest nodes mid))) is)
          ∙ h.law supply ds follows;
      falls =
          let l : weights mid.frames.items ≡ weights (old.frames.items ++ call_frames frame) = ap weights frames_are in
          let m = call_weights frame old.frames.items n le in
          let t : left mid ≡ left old = ap left is in
          let f = h.falls in
          omega arith;
      keeps = λ supply follows. rw (ap (λ s. s.heap.cells) is) at (h.keeps supply follows);
      stays = rw (ap (λ s. s.heap) is) at h.stays;
    }

pub called_ok : (nodes : List Node) (n : ℕ) (p : Prog ℕ) (old mid new : State) (frame : Option (AfterFrame ℕ)) (r : Result Next StepFault) → allowance frame ≤ n → mid.frames.items ≡ old.frames.items ++ call_frames frame → mid ≡ record old { frames = mid.frames }
    → IfOk r (λ next. Does nodes 2 p mid new next) → IfOk r (λ next. Does nodes n (bind p (leave (on_value (ending nodes frame)))) old new next)
called_ok nodes n p old mid new frame r le frames_are is = IfOk-weaker r _ _ (λ next h. called nodes n p old mid new frame next le frames_are is h)

-- each call may take the turns of what only ends
pub allows : (frame : Option (AfterFrame ℕ)) (n : ℕ) → allowance frame ≤ n → 2 ≤ n
unfolding allowance
allows None n le = omega arith
allows (Some frame) n le = omega arith

-- a call is counted as active
moves_active : (nodes : List Node) (node env : ℕ) (receiver : Value ℕ) (arguments : List (Value ℕ)) (k : Cont ℕ) (function : Function) (old mid : State) → function_of (slice_get nodes node) ≡ Some function → old.depth < old.heap.limits.depth → mid ≡ record old { depth = old.depth + 1 }
    → Moves nodes (invoke node env receiver arguments k) old (run_function function env receiver arguments k) mid
unfolding invoke run
moves_active nodes node env receiver arguments k function old mid found below is =
    let deep : nat_lt old.depth old.heap.limits.depth ≡ true = grind (arith, nat_tests) in
    rw is (record {
      law = λ supply ds j follows.
          let w = world_of nodes supply old in
          ap (λ o. run ds (budget_of old) w (bind (activate o env receiver arguments k w) j)) found
          ∙ ap (λ b. run ds (budget_of old) w (bind (if b then Write (record w { depth = w.depth + 1 }) (run_function function env receiver arguments k) else throw TooManyCalls) j)) deep;
      frames = refl;
      left = omega arith;
      keeps = λ supply f. f;
      stays = refl;
    })

pub active_ok : (nodes : List Node) (n node env : ℕ) (receiver : Value ℕ) (arguments : List (Value ℕ)) (k : Cont ℕ) (function : Function) (old mid new : State) (r : Result Next StepFault) → function_of (slice_get nodes node) ≡ Some function → old.depth < old.heap.limits.depth → mid ≡ record old { depth = old.depth + 1 }
    → IfOk r (λ next. Does nodes n (run_function function env receiver arguments k) mid new next) → IfOk r (λ next. Does nodes n (invoke node env receiver arguments k) old new next)
active_ok nodes n node env receiver arguments k function old mid new r found below is = does_move_ok nodes n _ _ old mid new r (moves_active nodes node env receiver arguments k function old mid found below is)

-- a node without a function isn't called
pub no_function_ok : (nodes : List Node) (n node env : ℕ) (receiver : Value ℕ) (arguments : List (Value ℕ)) (k : Cont ℕ) (old new : State) (r : Result Next StepFault) → 2 ≤ n → function_of (slice_get nodes node) ≡ None
    → IfOk r (λ next. Does nodes 2 (throw NotAFunction) old new next) → IfOk r (λ next. Does nodes n (invoke node env receiver arguments k) old new next)
unfolding invoke
no_function_ok nodes n node env receiver arguments k old new r le none h =
    does_read_ok nodes n (λ w. activate (function_of (slice_get w.tree node)) env receiver arguments k w) (throw NotAFunction) old new r
    (λ supply. ap (λ o. activate o env receiver arguments k (world_of nodes supply old)) none) (allowing_ok nodes 2 n _ old new r le h)

-- nor is one above the limit of active calls
pub too_deep_ok : (nodes : List Node) (n node env : ℕ) (receiver : Value ℕ) (arguments : List (Value ℕ)) (k : Cont ℕ) (function : Function) (old new : State) (r : Result Next StepFault) → 2 ≤ n → function_of (slice_get nodes node) ≡ Some function → old.heap.limits.depth ≤ old.depth
    → IfOk r (λ next. Does nodes 2 (throw TooManyCalls) old new next) → IfOk r (λ next. Does nodes n (invoke node env receiver arguments k) old new next)
unfolding invoke
too_deep_ok nodes n node env receiver arguments k function old new r le found above h =
    let deep : nat_lt old.depth old.heap.limits.depth ≡ false = grind (arith, nat_tests) in
    does_read_ok nodes n (λ w. activate (function_of (slice_get w.tree node)) env receiver arguments k w) (throw TooManyCalls) old new r
    (λ supply. let w = world_of nodes supply old in
    ap (λ o. activate o env receiver arguments k w) found
    ∙ ap (λ b. if b then Write (record w { depth = w.depth + 1 }) (run_function function env receiver arguments k) else throw TooManyCalls) deep)
    (allowing_ok nodes 2 n _ old new r le h)

-- a call by what stands at the callee
called_by : (cell : Option (Cell ℕ)) (receiver : Value ℕ) (arguments : List (Value ℕ)) (k : Value ℕ → Prog ℕ) → call_cell cell receiver arguments k ≡ by_callee (callee_in cell) receiver arguments k
unfolding by_callee callee_in
called_by None receiver arguments k = refl
called_by (Some (Object b)) receiver arguments k = refl
called_by (Some (Array p vs f)) receiver arguments k = refl
called_by (Some (Closure b n e r)) receiver arguments k = refl
called_by (Some (Native b i vs)) receiver arguments k = refl
called_by (Some (Far b n)) receiver arguments k = refl
called_by (Some (Error b e)) receiver arguments k = refl
called_by (Some (Map b es)) receiver arguments k = refl
called_by (Some (Set b vs)) receiver arguments k = refl
called_by (Some (Promise b s rs)) receiver arguments k = refl
called_by (Some (Port b n h ms cs)) receiver arguments k = refl
called_by (Some (Buffer b bs)) receiver arguments k = refl
called_by (Some (View b l o n)) receiver arguments k = refl
called_by (Some (Symbol t)) receiver arguments k = refl
called_by (Some (Env o bs)) receiver arguments k = refl

pub call_ok : (nodes : List Node) (n : ℕ) (callee receiver : Value ℕ) (arguments : List (Value ℕ)) (k : Value ℕ → Prog ℕ) (seen : Callee ℕ) (old new : State) (r : Result Next StepFault) → ((w : World ℕ) → seen ≡ callee_in (cell_of callee (over old.heap w)))
    → IfOk r (λ next. Does nodes n (by_callee seen receiver arguments k) old new next) → IfOk r (λ next. Does nodes n (call callee receiver arguments k) old new next)
unfolding call
call_ok nodes n callee receiver arguments k seen old new r is =
    does_read_ok nodes n (λ w. call_cell (cell_of callee w) receiver arguments k) (by_callee seen receiver arguments k) old new r
    (λ supply. called_by (cell_of callee (world_of nodes supply old)) receiver arguments k ∙ sym (ap (λ c. by_callee c receiver arguments k) (is (world_of nodes supply old))))

-- what is done with a value, where there is a frame and where there is none
pub ended_none : (nodes : List Node) → ◌≡◌ {A = Value ℕ → Prog ℕ} (ending nodes None) (λ v. give v)
unfolding ending
ended_none nodes = refl

pub ended_some : (nodes : List Node) (frame : AfterFrame ℕ) → ◌≡◌ {A = Value ℕ → Prog ℕ} (ending nodes (Some frame)) (λ v. after_rest nodes frame v)
unfolding ending
ended_some nodes frame = refl

pub none_allowed : (n : ℕ) → 3 ≤ n → allowance None ≤ n
unfolding allowance
none_allowed n h = omega arith

pub light_allowed : (frame : AfterFrame ℕ) → weight (frames.After frame) ≤ 1 → allowance (Some frame) ≤ 4
unfolding allowance
light_allowed frame h = omega arith

pub some_allowed : (frame : AfterFrame ℕ) → allowance (Some frame) ≤ 6
unfolding allowance
some_allowed frame = let m = after_most frame in omega arith

-- the environment of a call is made
body_is : (nodes : List Node) (node : NodeId) (function : Function) (arguments : List (Value ℕ)) (scope : Scope ℕ) → function_of (slice_get nodes node.0) ≡ Some function → run_body function arguments scope ≡ parameters_rest nodes node 0 arguments scope
unfolding parameters_from rest_parameter body_node
body_is nodes node function arguments scope found =
    sym (ap (λ o. bind_parameters (parameters_in o) (rest_in o) arguments scope (Enter (NodeRequest (body_in o) scope) (λ p. End p))) found)

pub function_ok : (nodes : List Node) (n : ℕ) (node : NodeId) (env : ℕ) (receiver : Value ℕ) (arguments : List (Value ℕ)) (k : Cont ℕ) (function : Function) (bindings : List (Binding ℕ)) (old mid new : State) (inner : ℕ) (r : Result Next StepFault)
    → function_of (slice_get nodes node.0) ≡ Some function → bindings ≡ parameters_of nodes (patterns_of function) → Allocates (Env (Some env) bindings) old mid (Ok inner)
    → IfOk r (λ next. Does nodes n (bind (parameters_rest nodes node 0 arguments (record { env = inner; receiver = receiver })) (leave k)) mid new next) → IfOk r (λ next. Does nodes n (run_function function env receiver arguments k) old new next)
function_ok nodes n node env receiver arguments k function bindings old mid new inner r found are made h =
    let go : ℕ → Prog ℕ = λ loc. bind (run_body function arguments (record { env = loc; receiver = receiver })) (leave k) in
    does_read_ok nodes n (λ w. alloc (env_cell (Some env) (parameters_of w.tree (patterns_of function))) go) (alloc (Env (Some env) bindings) go) old new r
    (λ supply. sym (ap (λ bs. alloc (Env (Some env) bs) go) are))
    (does_alloc_ok nodes n (Env (Some env) bindings) go old mid new inner r refl made
    (subst (λ p. IfOk r (λ next. Does nodes n (bind p (leave k)) mid new next)) (sym (body_is nodes node function arguments (record { env = inner; receiver = receiver }) found)) h))

pub no_environment : (nodes : List Node) (n : ℕ) (env : ℕ) (receiver : Value ℕ) (arguments : List (Value ℕ)) (k : Cont ℕ) (function : Function) (bindings : List (Binding ℕ)) (old new : State) (stop : Stop)
    → 1 ≤ n → bindings ≡ parameters_of nodes (patterns_of function) → Allocates (Env (Some env) bindings) old new (Err stop) → Does nodes n (run_function function env receiver arguments k) old new (Made (Stopped stop))
no_environment nodes n env receiver arguments k function bindings old new stop some are made =
    let go : ℕ → Prog ℕ = λ loc. bind (run_body function arguments (record { env = loc; receiver = receiver })) (leave k) in
    does_read nodes n (λ w. alloc (env_cell (Some env) (parameters_of w.tree (patterns_of function))) go) (alloc (Env (Some env) bindings) go) old new (Made (Stopped stop))
    (λ supply. sym (ap (λ bs. alloc (Env (Some env) bs) go) are))
    (not_alloc nodes n (Env (Some env) bindings) go old new stop some made)

-- a call of a closure, and of a built-in function
pub closure_ok : (nodes : List Node) (n node env : ℕ) (kept : Option (Value ℕ)) (receiver given : Value ℕ) (arguments : List (Value ℕ)) (frame : Option (AfterFrame ℕ)) (old new : State) (r : Result Next StepFault) → given ≡ unwrap_or kept receiver
    → IfOk r (λ next. Does nodes n (invoke node env given arguments (on_value (ending nodes frame))) old new next) → IfOk r (λ next. Does nodes n (by_callee (callees.Closure node env kept) receiver arguments (ending nodes frame)) old new next)
unfolding by_callee
closure_ok nodes n node env kept receiver given arguments frame old new r is h = subst (λ v. IfOk r (λ next. Does nodes n (invoke node env v arguments (on_value (ending nodes frame))) old new next)) is h

pub native_ok : (nodes : List Node) (n id : ℕ) (receiver : Value ℕ) (arguments : List (Value ℕ)) (frame : Option (AfterFrame ℕ)) (left_is : Option (Frame ℕ)) (old new : State) (r : Result Next StepFault) → allowance frame ≤ n → left_is ≡ after_frame frame
    → IfOk r (λ next. Does nodes 2 (Enter (NativeRequest id receiver arguments) (λ o. under_frame nodes left_is o)) old new next) → IfOk r (λ next. Does nodes n (by_callee (callees.Native id) receiver arguments (ending nodes frame)) old new next)
unfolding by_callee
native_ok nodes n id receiver arguments frame left_is old new r le is h =
    let same : ◌≡◌ {A = Cont ℕ} (λ o. under_frame nodes left_is o) (on_value (ending nodes frame)) = ap {B = Cont ℕ} (λ (f : Option (Frame ℕ)) (o : Outcome ℕ). under_frame nodes f o) is ∙ sym (ended nodes frame) in
    allowing_ok nodes 2 n _ old new r (allows frame n le) (subst (λ k. IfOk r (λ next. Does nodes 2 (Enter (NativeRequest id receiver arguments) k) old new next)) same h)

pub other_ok : (nodes : List Node) (n : ℕ) (receiver : Value ℕ) (arguments : List (Value ℕ)) (frame : Option (AfterFrame ℕ)) (old new : State) (r : Result Next StepFault) → allowance frame ≤ n
    → IfOk r (λ next. Does nodes 2 (throw NotAFunction) old new next) → IfOk r (λ next. Does nodes n (by_callee callees.Other receiver arguments (ending nodes frame)) old new next)
unfolding by_callee
other_ok nodes n receiver arguments frame old new r le h = allowing_ok nodes 2 n _ old new r (allows frame n le) h
