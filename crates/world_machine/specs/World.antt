-- A world in its pool, and what is still to come from it.
use Rattle.std.specs.Prelude.{◌≡◌, ◌≢◌, ℕ, suc, ◌+◌, ◌<◌, List, [], ◌∷◌, ◌++◌, length, map, Bool, true, false, Option, Some, None, option_map, IfSome, IsSomeAnd, nat_eq}
use Rattle.std.specs.Option.{option_map_or}
use Rattle.std.specs.Prelude.{drop}
use Rattle.js_tree.specs.declared.node.Node as nodes
use Rattle.world_heap.specs.declared.cell.Cell.{Cell}
use Rattle.world_heap.specs.Maps.{keys, without}
use Rattle.world_heap.specs.Shelf.{values_of}
use Rattle.world_heap.specs.Stored.{IsDistinct}
use Rattle.world_heap.specs.Views.{HeapView, PoolView, SeatView, IsOwned}
use Rattle.world_log.specs.declared.entry.Delivery.{Delivery}
use Rattle.world_log.specs.declared.entry.Delivery.TheVariants.{Load}
use Rattle.world_log.specs.declared.entry.Product as log
use Rattle.world_log.specs.declared.entry.Product.TheVariants as products
use Rattle.world_log.specs.declared.entry.Entry.{Entry}
use Rattle.world_log.specs.declared.entry.Entry.TheVariants as entry
use Rattle.js_names.specs.Patterns.{nodes_of}
use Rattle.js_semantics.specs.Run.{Arrival, Trace, entries}
use Rattle.js_machine.specs.declared.state.State.{State}
use Rattle.js_machine.specs.Closed.{AllFit}
use Rattle.js_machine.specs.Does.{Follows, awaits_in, is_running, to_come, work}
use Rattle.alone_laws.specs.Sizes.{cells_at_end}
use Rattle.alone_laws.specs.Turns.{Turns}
use Rattle.world_machine.specs.declared.machine.Machine.{Machine}
use Rattle.world_machine.specs.declared.world.World.{World}
use Rattle.world_machine.specs.declared.yielding.Yield.{Yield}
use Rattle.world_machine.specs.declared.yielding.Yield.TheVariants.{Stopped}
use Rattle.world_machine.specs.Yields.{EndsBy}

-- the heap of a seat in its pool
abbrev pub heap_in : SeatView → PoolView → HeapView
heap_in seat pool = record {
  owner = seat.owner;
  cells = values_of pool.maps seat.owner;
  others = without nat_eq pool.maps seat.owner;
  counts = seat.counts;
  limits = seat.limits;
  base = seat.base;
  given = pool.given;
}

-- the state of a machine over its heap
abbrev pub state_over : Machine → HeapView → State
state_over m heap = record {
  alloc = m.alloc;
  heap = heap;
  frames = m.frames;
  control = m.control;
  steps = m.steps;
  depth = m.depth;
  kind = m.kind;
  loaded = m.loaded;
}

-- a state, as its machine and its pool
pub record Parts (s : State) (m : Machine) (pool : PoolView) : Type 0 where
  pub state : state_over m (heap_in m.seat pool) ≡ s
  pub owned : IsOwned pool.maps m.seat.owner m.seat.counts m.seat.base
  pub distinct : IsDistinct (keys (values_of pool.maps m.seat.owner))
  pub count : length pool.maps ≡ length s.heap.others + 1

-- locations for cells, no two of them the same
abbrev pub AreDistinct : (ℕ → ℕ) → Type 0
AreDistinct supply = (a b : ℕ) → supply a ≡ supply b → a ≡ b

-- the state of a machine over these cells, in a pool without others
abbrev pub state_with : Machine → List (ℕ × Cell ℕ) → State
state_with m cells = state_over m (record { owner = m.seat.owner; cells = cells; others = []; counts = m.seat.counts; limits = m.seat.limits; base = m.seat.base; given = 0 })

-- what is still to come from a machine over these cells, with these deliveries
abbrev pub trace_from : List nodes.Node → (ℕ → ℕ) → Machine → List (ℕ × Cell ℕ) → List Arrival → Trace ℕ
trace_from script supply m cells ds = to_come script supply (state_with m cells) ds

abbrev pub coming_from : List nodes.Node → (ℕ → ℕ) → Machine → List (ℕ × Cell ℕ) → List Arrival → List Entry
coming_from script supply m cells ds = entries (trace_from script supply m cells ds)

-- what is still to come, whatever distinct locations the cells get that will be made
abbrev pub Promises : List nodes.Node → Machine → List (ℕ × Cell ℕ) → (List Arrival → List Entry) → Type 0
Promises script m cells coming = (supply : ℕ → ℕ) (ds : List Arrival) → AreDistinct supply → Follows supply 0 cells → coming_from script supply m cells ds ≡ coming ds

-- how many cells there will be
abbrev pub Counts : List nodes.Node → Machine → List (ℕ × Cell ℕ) → (List Arrival → ℕ) → Type 0
Counts script m cells count = (supply : ℕ → ℕ) (ds : List Arrival) → AreDistinct supply → Follows supply 0 cells → cells_at_end (trace_from script supply m cells ds) ≡ count ds

-- all that a machine holds fits its cells in the pool: its state over its heap is closed
abbrev pub FitsIn : List nodes.Node → Machine → PoolView → Type 0
FitsIn script m pool = AllFit script m.kind (values_of pool.maps m.seat.owner) m.frames.items m.control

-- A machine has its cells in the pool and is closed, waits or has stopped, and makes turns.
pub record Sits (script : List nodes.Node) (m : Machine) (pool : PoolView) : Type 0 where
  pub owned : IsOwned pool.maps m.seat.owner m.seat.counts m.seat.base
  pub below : m.seat.owner < pool.given
  pub distinct : IsDistinct (keys (values_of pool.maps m.seat.owner))
  pub closed : FitsIn script m pool
  pub waits : is_running m.control ≡ false
  pub turns : (supply : ℕ → ℕ) (ds : List Arrival) → Follows supply 0 (values_of pool.maps m.seat.owner) → Turns false (coming_from script supply m (values_of pool.maps m.seat.owner) ds)

-- A machine has its cells in the pool, is closed and makes turns, of which it may be inside one.
pub record Turning (script : List nodes.Node) (m : Machine) (pool : PoolView) : Type 0 where
  pub owned : IsOwned pool.maps m.seat.owner m.seat.counts m.seat.base
  pub below : m.seat.owner < pool.given
  pub distinct : IsDistinct (keys (values_of pool.maps m.seat.owner))
  pub closed : FitsIn script m pool
  pub inside : Bool
  pub turns : (supply : ℕ → ℕ) (ds : List Arrival) → Follows supply 0 (values_of pool.maps m.seat.owner) → Turns inside (coming_from script supply m (values_of pool.maps m.seat.owner) ds)

-- ---- what callers speak of

-- the owner number of a world in its pool
unfoldable pub owner_of : World → Option ℕ
owner_of world = option_map (λ m. m.seat.owner) world.machine

-- The world stands in this pool, between two deliveries. Its state is closed: each location that it holds stands.
unfoldable pub IsIn : World → PoolView → Type 0
IsIn world pool = IsSomeAnd world.machine (λ m. Sits (nodes_of world.script) m pool)

-- The world stands in this pool, closed, and may be running: what is still to come may be the rest of a turn.
unfoldable pub IsRunning : World → PoolView → Type 0
IsRunning world pool = IsSomeAnd world.machine (λ m. Turning (nodes_of world.script) m pool)

-- At most so many turns a world makes before it waits for a delivery or has stopped.
unfoldable pub turns_left : World → ℕ
turns_left world = option_map_or (λ m. work (state_with m [])) world.machine 0

-- The entries that are still to come from a world in its pool are these, for each list of further deliveries.
unfoldable pub IsComing : World → PoolView → (List Arrival → List Entry) → Type 0
IsComing world pool coming = IfSome world.machine (λ m. Promises (nodes_of world.script) m (values_of pool.maps m.seat.owner) coming)

-- So many cells a world in its pool will have after each list of further deliveries, those that are built in among them.
unfoldable pub IsFilling : World → PoolView → (List Arrival → ℕ) → Type 0
IsFilling world pool count = IfSome world.machine (λ m. Counts (nodes_of world.script) m (values_of pool.maps m.seat.owner) count)

-- how many cells a world has in its pool
unfoldable pub size_in : World → PoolView → ℕ
size_in world pool = option_map_or (λ m. length (values_of pool.maps m.seat.owner)) world.machine 0

-- whether a delivery may come
unfoldable pub is_awaited : World → Delivery → Bool
is_awaited world what = option_map_or (λ m. awaits_in m.control m.loaded what) world.machine false

-- entries that begin with this one, or there are none
abbrev pub Takes : Bool → Entry → List Entry → Type 0
Takes true first es = (more : List Entry) × (es ≡ first ∷ more)
Takes false first es = es ≡ []

-- the state of a world over its pool, taken out of the world
abbrev pub IsTaken : World → PoolView → State → World → Type 0
IsTaken old pool s new = (m : Machine) × (old.machine ≡ Some m) × (s ≡ state_over m (heap_in m.seat pool)) × (new ≡ record old { machine = None })

-- a state put into a world, beside its pool
abbrev pub IsPut : State → World → World → PoolView → Type 0
IsPut s old new pool = (m : Machine) × (new ≡ record old { machine = Some m }) × Parts s m pool

-- What another world of the pool is stays as it was.
pub record IsSpared (w : World) (old new : PoolView) : Type 0 where
  pub stands : IsIn w new
  pub comes : (coming : List Arrival → List Entry) → IsComing w old coming → IsComing w new coming
  pub fills : (count : List Arrival → ℕ) → IsFilling w old count → IsFilling w new count
  pub size : size_in w new ≡ size_in w old

-- all worlds of a pool but one stay as they were
abbrev pub Spares : World → PoolView → PoolView → Type 0
Spares world old new = (w : World) → owner_of w ≢ owner_of world → IsIn w old → IsSpared w old new

-- From a world in its pool these deliveries are taken and these entries made: what is still to come is what stood behind
-- them, and the other worlds stay as they were. The world may be running.
pub record Passes (taken : List Arrival) (made : List Entry) (old : World) (before : PoolView) (new : World) (after : PoolView) : Type 0 where
  pub runs : IsRunning new after
  pub law : (coming : List Arrival → List Entry) (ds : List Arrival) → IsComing old before coming → coming (taken ++ ds) ≡ made ++ drop (length made) (coming (taken ++ ds))
  pub comes : (coming : List Arrival → List Entry) → IsComing old before coming → IsComing new after (λ ds. drop (length made) (coming (taken ++ ds)))
  pub fills : (cells : List Arrival → ℕ) → IsFilling old before cells → IsFilling new after (λ ds. cells (taken ++ ds))
  pub owner : owner_of new ≡ owner_of old
  pub spares : Spares old before after
  pub given : after.given ≡ before.given
  pub count : length after.maps ≡ length before.maps

-- behind a stop nothing is to come
abbrev pub IsLastStop : log.Product → World → PoolView → Type 0
IsLastStop made world pool = (coming : List Arrival → List Entry) (stop : _) (ds : List Arrival) → made ≡ products.Stopped stop → IsComing world pool coming → coming ds ≡ []

-- A world rests in its pool or has stopped: without a delivery nothing is to come, and no cell is made.
pub record Rests (world : World) (pool : PoolView) : Type 0 where
  pub stands : IsIn world pool
  pub quiet : (coming : List Arrival → List Entry) → IsComing world pool coming → coming [] ≡ []
  pub size : (cells : List Arrival → ℕ) → IsFilling world pool cells → size_in world pool ≡ cells []

-- the entry of the next product, where there is one
abbrev pub next_entry : Option log.Product → List Entry
next_entry (Some made) = entry.Product made ∷ []
next_entry None = []

-- where there is no next product the world rests, and a stop is the last
abbrev pub StandsBehind : Option log.Product → World → PoolView → Type 0
StandsBehind (Some made) world pool = IsLastStop made world pool
StandsBehind None world pool = Rests world pool

-- These deliveries are taken and these entries made, and then the next product, if there is one.
abbrev pub GoesOn : List Arrival → List Entry → World → PoolView → Option log.Product → World → PoolView → Type 0
GoesOn taken first old before made new after = Passes taken (first ++ next_entry made) old before new after × StandsBehind made new after

-- what is still to come behind a delivery and these products
abbrev pub behind : (List Arrival → List Entry) → Arrival → List log.Product → List Arrival → List Entry
behind coming d made ds = drop (suc (length made)) (coming (d ∷ ds))

-- A new world in a pool: what is to come from it is this, it will have so many cells, and its script may be loaded.
pub record IsBegun (coming : List Arrival → List Entry) (cells : List Arrival → ℕ) (old : PoolView) (world : World) (new : PoolView) : Type 0 where
  pub stands : IsIn world new
  pub comes : IsComing world new coming
  pub fills : IsFilling world new cells
  pub size : size_in world new ≡ cells []
  pub awaits : is_awaited world Load ≡ true
  pub apart : (w : World) → IsIn w old → owner_of w ≢ owner_of world
  pub spares : Spares world old new
  pub given : new.given ≡ old.given + 1
  pub count : length new.maps ≡ length old.maps + 1

-- A world takes a delivery, makes these products, the last of which is its yield, and rests or has stopped.
pub record Resumes (d : Arrival) (old : World) (before : PoolView) (made : List log.Product) (y : Yield) (new : World) (after : PoolView) : Type 0 where
  pub stands : IsIn new after
  pub comes : (coming : List Arrival → List Entry) → IsComing old before coming → IsComing new after (behind coming d made)
  pub law : (coming : List Arrival → List Entry) (ds : List Arrival) → IsComing old before coming → coming (d ∷ ds) ≡ entry.Delivery d.fresh d.what ∷ (map entry.Product made ++ behind coming d made ds)
  pub rests : (coming : List Arrival → List Entry) → IsComing old before coming → behind coming d made [] ≡ []
  pub fills : (cells : List Arrival → ℕ) → IsFilling old before cells → IsFilling new after (λ ds. cells (d ∷ ds))
  pub size : (cells : List Arrival → ℕ) → IsFilling old before cells → size_in new after ≡ cells (d ∷ [])
  pub yields : EndsBy y made
  pub stops : (coming : List Arrival → List Entry) (stop : _) (ds : List Arrival) → y ≡ Stopped stop → IsComing old before coming → behind coming d made ds ≡ []
  pub closed : (stop : _) (what : Delivery) → y ≡ Stopped stop → is_awaited new what ≡ false
  pub owner : owner_of new ≡ owner_of old
  pub spares : Spares old before after
  pub given : after.given ≡ before.given
  pub count : length after.maps ≡ length before.maps

-- The world has left the pool, with all its cells.
pub record IsEnded (world : World) (old new : PoolView) : Type 0 where
  pub maps : (owner : ℕ) → owner_of world ≡ Some owner → new.maps ≡ without nat_eq old.maps owner
  pub spares : Spares world old new
  pub given : new.given ≡ old.given
  pub count : length old.maps ≡ length new.maps + 1
