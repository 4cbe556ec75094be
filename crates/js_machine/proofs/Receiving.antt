-- What a delivery starts.
use Rattle.std.proofs.Common.{◌≡◌, ℕ, suc, ◌+◌, ◌-◌, List, [], ◌∷◌, length, Bool, true, false, not, nat_eq, IfOk, Result, if◌then◌else◌, refl, sym, ap, ◌∙◌, arith}
use Rattle.js_names.specs.Patterns.{nodes_of}
use Rattle.std.proofs.lemmas.Result.{IfOk-weaker}
use Rattle.world_kind.specs.declared.WorldKind.{WorldKind}
use Rattle.js_tree.specs.declared.node.Node.{Node}
use Rattle.world_heap.specs.declared.limits.Counts.{Counts}
use Rattle.world_heap.specs.Views.{HeapView}
use Rattle.world_log.specs.declared.entry.Entry.TheVariants as entry
use Rattle.js_semantics.specs.declared.mode.Mode.TheVariants.{Idle, Crossing}
use Rattle.world_log.specs.declared.entry.Delivery.{Delivery}
use Rattle.world_log.specs.declared.entry.Delivery.TheVariants.{Load}
use Rattle.js_semantics.specs.declared.fault.StepFault.{StepFault}
use Rattle.js_semantics.specs.Alone.{alone_by, trace_of}
use Rattle.js_semantics.specs.Prog.{Over, Enter, Script, bind}
use Rattle.js_semantics.specs.Realm.{realm, realm_length}
use Rattle.js_semantics.specs.World.{limited}
use Rattle.js_machine.specs.declared.frame.Frame.TheVariants as frames
use Rattle.js_machine.specs.Frames.{rest, under}
use Rattle.js_machine.proofs.Doing.{does_move_ok}
use Rattle.js_semantics.specs.Run.{Arrival, Budget, Cut, Then, deliver, first_budget, first_world, load_row, refilled, run, script_end}
use Rattle.js_machine.specs.declared.state.State.{State}
use Rattle.js_machine.specs.declared.state.Control.{Control}
use Rattle.js_machine.specs.declared.state.Control.TheVariants as controls
use Rattle.js_machine.specs.declared.state.Next.{Next}
use Rattle.js_machine.specs.Does.{Does, IsFresh, IsRealm, Moves, Receives, after, awaits_in, does_await, budget_of, control_prog, made, setting_of, stack_rest, to_come, world_of}

-- the script is loaded where that is waited for
waits_idle : (c : Control ℕ) (loaded : Bool) → awaits_in c loaded Load ≡ true → (c ≡ controls.Wait Idle) × (not loaded ≡ true)
waits_idle (controls.Script node) loaded h = absurd (cc)
waits_idle (controls.Node node scope) loaded h = absurd (cc)
waits_idle (controls.Bind node value scope) loaded h = absurd (cc)
waits_idle (controls.Member node object scope) loaded h = absurd (cc)
waits_idle (controls.Native id receiver arguments) loaded h = absurd (cc)
waits_idle (controls.Give o) loaded h = absurd (cc)
waits_idle (controls.AtRest m) loaded h = absurd (cc)
waits_idle (controls.Wait Idle) loaded h = (refl, h)
waits_idle (controls.Wait Crossing) loaded h = absurd (cc)
waits_idle controls.Stop loaded h = absurd (cc)

-- a delivery, from what it starts
received : (nodes : List Node) (fresh : Bool) (s mid new : State) (next : Next) → does_await s Load ≡ true → mid ≡ record s { steps = refilled s.heap.limits (record { fresh = fresh; what = Load }) s.steps } → Does nodes 2 load_row mid new next → Receives nodes (record { fresh = fresh; what = Load }) s new next
unfolding run
received nodes fresh s mid new next may mid_is h =
    let d : Arrival = record { fresh = fresh; what = Load } in
    let idle = waits_idle s.control s.loaded may in
    let heap_is = ap (λ (x : State). x.heap) mid_is in
    record {
      law = λ supply ds follows.
          let k = stack_rest nodes s in
          let w = world_of nodes supply s in
          let b : Budget = record (budget_of s) { steps = refilled s.heap.limits d s.steps } in
          ap (λ c. run (d ∷ ds) (budget_of s) w (control_prog c k)) idle.0
          ∙ ap (λ t. if t then Then (entry.Delivery d.fresh d.what) (run ds b w (bind (deliver d.what) k)) else Cut w) idle.1
          ∙ sym (ap (λ (x : State). Then (entry.Delivery d.fresh d.what) (run ds (budget_of x) (world_of nodes supply x) (bind load_row (stack_rest nodes x)))) mid_is)
          ∙ ap (λ t. Then (entry.Delivery d.fresh d.what) t) (h.law supply ds follows);
      keeps = λ supply follows. rw heap_is at (h.keeps supply follows);
      stays = rw heap_is at h.stays;
    }

received_ok : (nodes : List Node) (fresh : Bool) (s mid new : State) (r : Result Next StepFault) → does_await s Load ≡ true → mid ≡ record s { steps = refilled s.heap.limits (record { fresh = fresh; what = Load }) s.steps } → IfOk r (λ next. Does nodes 2 load_row mid new next) → IfOk r (λ next. Receives nodes (record { fresh = fresh; what = Load }) s new next)
received_ok nodes fresh s mid new r may mid_is = IfOk-weaker r _ _ (λ next h. received nodes fresh s mid new next may mid_is h)

pub received_any : (nodes : List Node) (fresh : Bool) (d : Delivery) (s mid new : State) (r : Result Next StepFault) → does_await s d ≡ true → mid ≡ record s { steps = refilled s.heap.limits (record { fresh = fresh; what = d }) s.steps } → IfOk r (λ next. Does nodes 2 load_row mid new next) → IfOk r (λ next. Receives nodes (record { fresh = fresh; what = d }) s new next)
received_any nodes fresh Load s mid new r may mid_is = received_ok nodes fresh s mid new r may mid_is

-- a new state makes what its world makes alone
pub fresh_alone : (nodes : List Node) (supply : ℕ → ℕ) (ds : List Arrival) (kind : WorldKind) (heap : HeapView) (s : State) → IsFresh kind heap s → IsRealm supply kind heap → to_come nodes supply s ds ≡ alone_by supply (setting_of nodes kind heap) ds
unfolding alone_by trace_of run
fresh_alone nodes supply ds kind heap s (heap_is, frames_are, control_is, steps_are, depth_is, kind_is, loaded_is) is =
    let places : s.heap.limits.places - s.heap.counts.places ≡ heap.limits.places =
    ap (λ (h : HeapView). h.limits.places - h.counts.places) heap_is ∙ ap (λ (c : Counts). heap.limits.places - c.places) is.counts ∙ omega arith in
    let budget : budget_of s ≡ first_budget heap.limits = λ i. record { steps = steps_are i; places = places i } in
    let cells : s.heap.cells ≡ realm (limited (realm_length kind + heap.limits.cells) supply) kind = ap (λ (h : HeapView). h.cells) heap_is ∙ is.cells in
    let units : s.heap.counts.units ≡ 0 = ap (λ (h : HeapView). h.counts.units) heap_is ∙ ap (λ (c : Counts). c.units) is.counts in
    let limits : s.heap.limits ≡ heap.limits = ap (λ (h : HeapView). h.limits) heap_is in
    let locations : limited (s.heap.base + s.heap.limits.cells) supply ≡ limited (realm_length kind + heap.limits.cells) supply =
    ap (λ (h : HeapView). limited (h.base + h.limits.cells) supply) heap_is ∙ ap (λ b. limited (b + heap.limits.cells) supply) is.base in
    let world : world_of nodes supply s ≡ first_world nat_eq (limited (realm_length kind + heap.limits.cells) supply) (setting_of nodes kind heap) =
    λ i. record { heap = cells i; depth = depth_is i; units = units i; limits = limits i; kind = kind_is i; tree = nodes; loaded = loaded_is i; supply = locations i; same = nat_eq } in
    λ i. run ds (budget i) (world i) (control_prog (control_is i) (under nodes (λ o. Over) (frames_are i)))

length-nodes : (tree : List (Node × ℕ)) → length (nodes_of tree) ≡ length tree
length-nodes [] = refl
length-nodes (n ∷ ns) = ap suc (length-nodes ns)

-- the script is entered, and is loaded from now on
pub loaded_ok : (tree : List (Node × ℕ)) (root : ℕ) (old new : State) (r : Result Next StepFault) → root ≡ length tree - 1 → IfOk r (λ next. Does (nodes_of tree) 2 (Enter (Script (record { 0 = root })) (λ o. rest (nodes_of tree) frames.Script o)) (record old { loaded = true }) new next) → IfOk r (λ next. Does (nodes_of tree) 2 load_row old new next)
unfolding run
loaded_ok tree root old new r root_is h =
    let nodes = nodes_of tree in
    let e : root ≡ length nodes - 1 = root_is ∙ sym (ap (λ n. n - 1) (length-nodes tree)) in
    let now : State = record old { loaded = true } in
    let moves : Moves nodes load_row old (Enter (Script (record { 0 = root })) (λ o. script_end o)) now = record {
      law = λ supply ds k follows. sym (ap (λ n. run ds (budget_of now) (world_of nodes supply now) (bind (Enter (Script (record { 0 = n })) (λ o. script_end o)) k)) e);
      frames = refl;
      left = omega arith;
      keeps = λ supply f. f;
      stays = refl;
    } in
    does_move_ok nodes 2 load_row (Enter (Script (record { 0 = root })) (λ o. script_end o)) old now new r moves h
