-- What a part of the machine does.
use Rattle.std.specs.Prelude.{◌≡◌, ◌≢◌, ℕ, suc, ◌+◌, ◌-◌, ◌*◌, ◌<◌, ◌≤◌, nat_eq, length, Bool, true, false, not, List, [], ◌∷◌, ◌++◌, Result, Ok, Err, Option, Some, None}
use Rattle.js_tree.specs.declared.node.Node.{Node}
use Rattle.world_heap.specs.declared.cell.Cell.{Cell}
use Rattle.world_heap.specs.Maps.{keys, stands}
use Rattle.world_heap.specs.Views.{HeapView}
use Rattle.world_heap.specs.declared.limits.HeapFault.TheVariants as full
use Rattle.world_heap.specs.Growth.{first_full, counts_with, grown}
use Rattle.world_kind.specs.declared.WorldKind.{WorldKind}
use Rattle.world_log.specs.declared.entry.Delivery.{Delivery}
use Rattle.world_log.specs.declared.entry.Delivery.TheVariants.{Load}
use Rattle.world_log.specs.declared.entry.Entry.TheVariants as entry
use Rattle.js_semantics.specs.declared.mode.Mode.TheVariants.{Idle}
use Rattle.world_log.specs.declared.entry.Product.{Product}
use Rattle.world_log.specs.declared.entry.Stop.{Stop}
use Rattle.world_log.specs.declared.entry.Stop.TheVariants.{Cells, Places}
use Rattle.js_semantics.specs.World.{World, limited}
use Rattle.js_semantics.specs.Prog.{Prog, Cont, End, Over, Await, Request, Script, Node as NodeRequest, Bind, Member, Native, bind}
use Rattle.js_semantics.specs.Rows.{row}
use Rattle.js_semantics.specs.Realm.{realm, realm_length}
use Rattle.js_semantics.specs.Run.{Arrival, Budget, Setting, Trace, Then, run, at_rest}
use Rattle.js_machine.specs.declared.state.State.{State}
use Rattle.js_machine.specs.declared.state.Control.{Control}
use Rattle.js_machine.specs.declared.state.Control.TheVariants as controls
use Rattle.js_machine.specs.declared.state.Next.{Next}
use Rattle.js_machine.specs.declared.state.Next.TheVariants.{Go, Made}
use Rattle.js_machine.specs.declared.frame.Frame.{Frame}
use Rattle.js_machine.specs.declared.frame.Frame.TheVariants as frames
use Rattle.js_machine.specs.declared.frame.AfterFrame.TheVariants as afters
use Rattle.js_machine.specs.Frames.{rest, under}

-- the n-th cell has the n-th location of the supply
abbrev pub Follows : (ℕ → ℕ) → ℕ → List (ℕ × Cell ℕ) → Type 0
Follows supply n [] = Unit {0}
Follows supply n (c ∷ cs) = (c.0 ≡ supply n) × Follows supply (suc n) cs

-- the world that a state is, over a tree with these nodes
abbrev pub world_of : List Node → (ℕ → ℕ) → State → World ℕ
world_of nodes supply s = record {
  heap = s.heap.cells;
  depth = s.depth;
  units = s.heap.counts.units;
  limits = s.heap.limits;
  kind = s.kind;
  tree = nodes;
  loaded = s.loaded;
  supply = limited (s.heap.base + s.heap.limits.cells) supply;
  same = nat_eq;
}

-- what a state may still do
abbrev pub budget_of : State → Budget
budget_of s = record { steps = s.steps; places = s.heap.limits.places - s.heap.counts.places }

-- what all frames leave
abbrev pub stack_rest : List Node → State → Cont ℕ
stack_rest nodes s = under nodes (λ o. Over) s.frames.items

-- what is next, with what is done after it
abbrev pub control_prog : Control ℕ → Cont ℕ → Prog ℕ
control_prog (controls.Script node) k = bind (row (Script node)) k
control_prog (controls.Node node scope) k = bind (row (NodeRequest node scope)) k
control_prog (controls.Bind node value scope) k = bind (row (Bind node value scope)) k
control_prog (controls.Member node object scope) k = bind (row (Member node object scope)) k
control_prog (controls.Native id receiver arguments) k = bind (row (Native id receiver arguments)) k
control_prog (controls.Give o) k = k o
control_prog (controls.AtRest m) k = bind (at_rest m) k
control_prog (controls.Wait m) k = Await m k
control_prog controls.Stop k = Over

-- what is still to come from a state, with these deliveries
abbrev pub to_come : List Node → (ℕ → ℕ) → State → List Arrival → Trace ℕ
to_come nodes supply s ds = run ds (budget_of s) (world_of nodes supply s) (control_prog s.control (stack_rest nodes s))

-- the products of a step
abbrev pub made : Next → List Product
made Go = []
made (Made e) = e ∷ []

-- a trace behind products
abbrev pub after : List Product → Trace ℕ → Trace ℕ
after [] t = t
after (e ∷ es) t = Then (entry.Product e) (after es t)

-- whether there is a step to make
abbrev pub is_running : Control ℕ → Bool
is_running (controls.Wait m) = false
is_running controls.Stop = false
is_running other = true

-- How many turns a frame may take without a step. What follows a reading may call a setter, which leaves a frame for the
-- call and one for what comes after it; and any other frame may read, which leaves a frame for what follows and one for
-- the call of a getter.
abbrev pub weight : Frame ℕ → ℕ
weight (frames.OnValue f) = 5
weight (frames.After (afters.Result value)) = 1
weight (frames.After (afters.Constructed object)) = 1
weight (frames.After f) = 3
weight frames.Script = 1
weight frames.Leave = 1
weight other = 5

abbrev pub weights : List (Frame ℕ) → ℕ
weights [] = 0
weights (f ∷ fs) = weight f + weights fs

abbrev pub control_work : Control ℕ → ℕ
control_work (controls.Give o) = 1
control_work (controls.AtRest m) = 1
control_work (controls.Wait m) = 0
control_work controls.Stop = 0
control_work other = 6

-- the steps and places that are left: entering a node costs a step
abbrev pub left : State → ℕ
left s = s.steps + (s.heap.limits.places - s.heap.counts.places)

-- at most so many turns are made before the next yield
abbrev pub work : State → ℕ
work s = 32 * left s + weights s.frames.items + control_work s.control

-- Nothing but the cells and counts of a heap differs.
abbrev pub Stays : HeapView → HeapView → Type 0
Stays old new = new ≡ record old { cells = new.cells; counts = new.counts }

-- From old, the program p and then the frames give the products of next, and then what comes from new. At most so many
-- turns less `allowed` are left as before.
pub record Does (nodes : List Node) (allowed : ℕ) (p : Prog ℕ) (old new : State) (next : Next) : Type 0 where
  pub law : (supply : ℕ → ℕ) (ds : List Arrival) → Follows supply 0 new.heap.cells → run ds (budget_of old) (world_of nodes supply old) (bind p (stack_rest nodes old)) ≡ after (made next) (to_come nodes supply new ds)
  pub falls : work new < 32 * left old + weights old.frames.items + allowed
  pub keeps : (supply : ℕ → ℕ) → Follows supply 0 new.heap.cells → Follows supply 0 old.heap.cells
  pub stays : Stays old.heap new.heap

-- From old, the program p comes to q in new: nothing is made, and no more is left.
pub record Moves (nodes : List Node) (p : Prog ℕ) (old : State) (q : Prog ℕ) (new : State) : Type 0 where
  pub law : (supply : ℕ → ℕ) (ds : List Arrival) (k : Cont ℕ) → Follows supply 0 new.heap.cells → run ds (budget_of old) (world_of nodes supply old) (bind p k) ≡ run ds (budget_of new) (world_of nodes supply new) (bind q k)
  pub frames : new.frames.items ≡ old.frames.items
  pub left : left new + 0 < left old + 1
  pub keeps : (supply : ℕ → ℕ) → Follows supply 0 new.heap.cells → Follows supply 0 old.heap.cells
  pub stays : Stays old.heap new.heap

-- one step
pub record Steps (nodes : List Node) (old new : State) (next : Next) : Type 0 where
  pub law : (supply : ℕ → ℕ) (ds : List Arrival) → Follows supply 0 new.heap.cells → to_come nodes supply old ds ≡ after (made next) (to_come nodes supply new ds)
  pub falls : work new < work old
  pub keeps : (supply : ℕ → ℕ) → Follows supply 0 new.heap.cells → Follows supply 0 old.heap.cells
  pub stays : Stays old.heap new.heap

-- a step is taken, or none was left and the world stops
abbrev pub StepsDown : State → State → Bool → Type 0
StepsDown old new true = (old.steps ≢ 0) × (new ≡ record old { steps = old.steps - 1 })
StepsDown old new false = (old.steps ≡ 0) × (new ≡ record old { control = controls.Stop })

-- what a frame leaves, where there is one
abbrev pub under_frame : List Node → Option (Frame ℕ) → Cont ℕ
under_frame nodes None o = End o
under_frame nodes (Some f) o = rest nodes f o

-- the request is entered by this being next
pub record IsEntered (c : Control ℕ) (r : Request ℕ) : Type 0 where
  pub row_is : (k : Cont ℕ) → control_prog c k ≡ bind (row r) k
  pub costs : control_work c ≡ 6

-- a new cell, or a stop where one would pass a limit
abbrev pub Allocates : Cell ℕ → State → State → Result ℕ Stop → Type 0
Allocates cell old new (Ok loc) = (length old.heap.cells ≡ old.heap.base + old.heap.counts.cells)
    × (first_full old.heap.limits (counts_with old.heap.counts cell) ≡ None)
    × (new ≡ record old { heap = record old.heap { cells = old.heap.cells ++ (loc, cell) ∷ []; counts = counts_with old.heap.counts cell } })
    × (stands nat_eq (keys old.heap.cells) loc ≡ false)
Allocates cell old new (Err Cells) = (length old.heap.cells ≡ old.heap.base + old.heap.counts.cells)
    × (first_full old.heap.limits (counts_with old.heap.counts cell) ≡ Some full.Cells) × (new ≡ record old { control = controls.Stop })
Allocates cell old new (Err Places) = (length old.heap.cells ≡ old.heap.base + old.heap.counts.cells)
    × (first_full old.heap.limits (counts_with old.heap.counts cell) ≡ Some full.Places) × (new ≡ record old { control = controls.Stop })
Allocates cell old new (Err other) = ⊥

-- so many units are counted, or the world stops where they would pass the limit
abbrev pub CountsUnits : ℕ → State → State → Bool → Type 0
CountsUnits units old new true = (old.heap.counts.units + units ≤ old.heap.limits.units)
    × (new ≡ record old { heap = record old.heap { counts = grown old.heap.counts 0 0 units } })
CountsUnits units old new false = (old.heap.limits.units < old.heap.counts.units + units) × (new ≡ record old { control = controls.Stop })

-- the start of what a delivery does: a delivery is taken, and then come the products of next and what comes from new
pub record Receives (nodes : List Node) (d : Arrival) (old new : State) (next : Next) : Type 0 where
  pub law : (supply : ℕ → ℕ) (ds : List Arrival) → Follows supply 0 new.heap.cells → to_come nodes supply old (d ∷ ds) ≡ Then (entry.Delivery d.fresh d.what) (after (made next) (to_come nodes supply new ds))
  pub keeps : (supply : ℕ → ℕ) → Follows supply 0 new.heap.cells → Follows supply 0 old.heap.cells
  pub stays : Stays old.heap new.heap

-- whether a delivery may come: the script is loaded once, between tasks
abbrev pub awaits_in : Control ℕ → Bool → Delivery → Bool
awaits_in (controls.Wait Idle) loaded Load = not loaded
awaits_in other loaded d = false

abbrev pub does_await : State → Delivery → Bool
does_await s d = awaits_in s.control s.loaded d

-- a new state over a heap, before anything has happened
abbrev pub IsFresh : WorldKind → HeapView → State → Type 0
IsFresh kind heap s = (s.heap ≡ heap) × (s.frames.items ≡ []) × (s.control ≡ controls.Wait Idle) × (s.steps ≡ 0) × (s.depth ≡ 0) × (s.kind ≡ kind) × (s.loaded ≡ false)

-- a heap that has the built-in cells of a kind of world alone, the n-th at the n-th location of the supply
pub record IsRealm (supply : ℕ → ℕ) (kind : WorldKind) (heap : HeapView) : Type 0 where
  pub cells : heap.cells ≡ realm (limited (realm_length kind + heap.limits.cells) supply) kind
  pub base : heap.base ≡ realm_length kind
  pub counts : heap.counts ≡ record { cells = 0; places = 0; units = 0 }

-- the world of a kind with these limits and this script
abbrev pub setting_of : List Node → WorldKind → HeapView → Setting
setting_of nodes kind heap = record { kind = kind; limits = heap.limits; tree = nodes }
