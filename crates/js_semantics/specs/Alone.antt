-- The transcript that one world makes by itself of its script and its deliveries, and the laws of it.
use Rattle.std.specs.Prelude.{◌≡◌, ◌<◌, ◌+◌, ℕ, suc, List, ◌++◌, Option, Bool, nat_eq}
use Rattle.world_log.specs.declared.entry.Entry.{Entry}
use Rattle.js_semantics.specs.declared.mode.Mode.TheVariants.{Idle}
use Rattle.js_semantics.specs.World.{World, limited}
use Rattle.js_semantics.specs.Prog.{Over, Await, Enter, Request, Cont}
use Rattle.js_semantics.specs.Realm.{realm_length}
use Rattle.js_semantics.specs.Rows.{row}
use Rattle.js_semantics.specs.Run.{and_then, Arrival, Trace, Setting, entries, run, first_world, first_budget}

-- what comes of a world, over any type of locations
unfoldable pub trace_of : {L : Type 0} → Setting → List Arrival → (L → L → Bool) → (ℕ → Option L) → Trace L
trace_of setting ds same supply = run ds (first_budget setting.limits) (first_world same supply setting) (Await Idle (λ o. Over))

-- how many cells a world may have, those that are built in among them
abbrev pub cells_of : Setting → ℕ
cells_of setting = realm_length setting.kind + setting.limits.cells

-- what comes of a world whose n-th cell gets the location `supply n`
unfoldable pub alone_by : (ℕ → ℕ) → Setting → List Arrival → Trace ℕ
alone_by supply setting ds = trace_of setting ds nat_eq (limited (cells_of setting) supply)

-- the transcript of a world alone, whose cells get the locations 0, 1, 2 in turn
unfoldable pub alone : Setting → List Arrival → List Entry
alone setting ds = entries (alone_by (λ n. n) setting ds)

-- locations that are given out are distinct
abbrev pub IsDistinctSupply : ℕ → (ℕ → ℕ) → Type 0
IsDistinctSupply cells supply = (a b : ℕ) → a < cells → b < cells → supply a ≡ supply b → a ≡ b

-- The transcript is the same for every supply of distinct locations.
unfoldable pub IsRenamed : Type 0
IsRenamed = (supply : ℕ → ℕ) (setting : Setting) (ds : List Arrival) → IsDistinctSupply (cells_of setting) supply → entries (alone_by supply setting ds) ≡ alone setting ds

-- a list that another begins with
abbrev pub Begins : {A : Type 0} → List A → List A → Type 0
Begins front whole = (rest : _) × (whole ≡ front ++ rest)

-- The transcript of more deliveries begins with that of the first ones.
unfoldable pub IsContinued : Type 0
IsContinued = (setting : Setting) (ds more : List Arrival) → Begins (alone setting ds) (alone setting (ds ++ more))

-- There is one transcript for each setting and list of deliveries, whatever distinct locations the cells get.
unfoldable pub IsDetermined : Type 0
IsDetermined = (supply other : ℕ → ℕ) (setting : Setting) (ds : List Arrival) → IsDistinctSupply (cells_of setting) supply → IsDistinctSupply (cells_of setting) other → entries (alone_by supply setting ds) ≡ entries (alone_by other setting ds)

-- A request is evaluated by recursion: what comes of it is what comes of its row with one step less, and then of what is
-- done with the outcome, in the world and with the steps, places and deliveries that the row has left.
unfoldable pub IsRecursive : Type 0
IsRecursive = (ds : List Arrival) (steps places : ℕ) (w : World ℕ) (r : Request ℕ) (k : Cont ℕ) → run ds (record { steps = suc steps; places = places }) w (Enter r k) ≡ and_then (run ds (record { steps = steps; places = places }) w (row r)) (λ o v b later. run later b v (k o))
