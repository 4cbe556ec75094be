-- What a world makes of a list of deliveries (ECMA-262, 16.1.6: ScriptEvaluation).
use Rattle.std.specs.Prelude.{◌-◌, ℕ, zero, suc, List, [], ◌∷◌, length, Option, Bool, true, false, not, if◌then◌else◌}
use Rattle.world_kind.specs.declared.WorldKind.{WorldKind}
use Rattle.world_heap.specs.Views.{Bounds}
use Rattle.js_tree.specs.declared.node.Node as nodes
use Rattle.world_log.specs.declared.entry.Delivery.{Delivery}
use Rattle.world_log.specs.declared.entry.Delivery.TheVariants.{Load}
use Rattle.world_log.specs.declared.entry.Entry.{Entry}
use Rattle.world_log.specs.declared.entry.Entry.TheVariants as entry
use Rattle.js_semantics.specs.declared.mode.Mode.{Mode}
use Rattle.js_semantics.specs.declared.mode.Mode.TheVariants.{Idle, Crossing}
use Rattle.world_log.specs.declared.entry.Product.TheVariants.{Uncaught, Rest, Stopped}
use Rattle.world_log.specs.declared.entry.Stop.TheVariants.{Fuel, Places}
use Rattle.js_semantics.specs.World.{World}
use Rattle.js_semantics.specs.declared.outcome.Outcome.{Outcome}
use Rattle.js_semantics.specs.declared.outcome.Outcome.TheVariants.{Thrown}
use Rattle.js_semantics.specs.Prog.{Prog, Cont, End, Over, Enter, Make, Read, Write, Place, Await, Request, Script, bind, count_units}
use Rattle.js_semantics.specs.Display.{line_of}
use Rattle.js_semantics.specs.Realm.{realm}
use Rattle.js_semantics.specs.Rows.{row}

-- A delivery, and whether it is the first to the world in its task: then it fills the steps.
pub record Arrival : Type 0 where
  pub fresh : Bool
  pub what : Delivery

-- what a world may still do
pub record Budget : Type 0 where
  pub steps : ℕ
  pub places : ℕ

-- the steps after a delivery has come
abbrev pub refilled : Bounds → Arrival → ℕ → ℕ
refilled limits d steps = if d.fresh then limits.steps else steps

-- What comes of a program: the entries one after another, and at the end how it is left.
pub data Trace (L : Type 0) : Type 0 where
  Then : Entry → Trace L → Trace L
  -- the program has ended, with what is left and these deliveries
  Ended : Outcome L → World L → Budget → List Arrival → Trace L
  -- the world has stopped, or waits and no delivery comes that fits
  Cut : World L → Trace L

-- what is done at the end, where a step is needed, where a place is, and where a delivery is needed
abbrev pub Ending : Type 0 → Type 0
Ending L = Outcome L → World L → Trace L

abbrev pub Entering : Type 0 → Type 0
Entering L = Request L → Cont L → World L → Trace L

abbrev pub Placing : Type 0 → Type 0
Placing L = Prog L → World L → Trace L

abbrev pub Waiting : Type 0 → Type 0
Waiting L = Mode → Cont L → World L → Trace L

module _ {L : Type 0} where
  -- The end of a task: no job waits, since nothing adds one yet.
  abbrev pub at_rest : Mode → Prog L
  at_rest m = Make (Rest 0) (Await m (λ o. End o))

  -- the end of the script: a thrown value that nothing caught is shown
  abbrev pub script_end : Cont L
  script_end (Thrown v) = Read (λ w. let text = line_of w (v ∷ []) in count_units (length text) (Make (Uncaught text) (at_rest Idle)))
  script_end other = at_rest Idle

  -- the script, whose root is the last node
  abbrev pub load_row : Prog L
  load_row = Read (λ w. Write (record w { loaded = true }) (Enter (Script (record { 0 = length w.tree - 1 })) (λ o. script_end o)))

  -- what a delivery starts
  abbrev pub deliver : Delivery → Prog L
  deliver Load = load_row

  -- Whether a delivery may come to a world that waits so: its script is loaded once, between tasks.
  abbrev pub fits : Mode → Delivery → World L → Bool
  fits Idle Load w = not w.loaded
  fits Crossing Load w = false

  -- the entries of a trace
  abbrev pub entries : Trace L → List Entry
  entries (Then e t) = e ∷ entries t
  entries (Ended o w b ds) = []
  entries (Cut w) = []

  -- the program up to where one of these is needed
  abbrev pub walk : Ending L → Entering L → Placing L → Waiting L → World L → Prog L → Trace L
  walk done enter place wait w (End o) = done o w
  walk done enter place wait w Over = Cut w
  walk done enter place wait w (Enter r k) = enter r k w
  walk done enter place wait w (Make e p) = Then (entry.Product e) (walk done enter place wait w p)
  walk done enter place wait w (Read k) = walk done enter place wait w (k w)
  walk done enter place wait w (Write v p) = walk done enter place wait v p
  walk done enter place wait w (Place p) = place p w
  walk done enter place wait w (Await m k) = wait m k w

  -- a place is counted, with so many left
  abbrev pub take_place : (ℕ → Ending L) → (ℕ → Entering L) → (ℕ → Waiting L) → ℕ → Placing L
  take_place done enter wait zero p w = Then (entry.Product (Stopped Places)) (Cut w)
  take_place done enter wait (suc n) p w = walk (done n) (enter n) (take_place done enter wait n) (wait n) w p

  -- what comes of a program with so many places left
  abbrev pub go_with : (ℕ → Ending L) → (ℕ → Entering L) → (ℕ → Waiting L) → ℕ → World L → Prog L → Trace L
  go_with done enter wait n w p = walk (done n) (enter n) (take_place done enter wait n) (wait n) w p

  abbrev pub end_with : List Arrival → ℕ → ℕ → Ending L
  end_with ds steps places o w = Ended o w (record { steps = steps; places = places }) ds

  -- Entering takes one step. With so many left, where `later` says what comes from the next delivery on.
  abbrev pub spend : List Arrival → (ℕ → ℕ → Waiting L) → ℕ → ℕ → Entering L
  spend ds later zero n r k w = Then (entry.Product (Stopped Fuel)) (Cut w)
  spend ds later (suc steps) n r k w = go_with (end_with ds steps) (spend ds later steps) (later steps) n w (bind (row r) k)

  -- up to the next delivery
  abbrev pub run_with : List Arrival → (ℕ → ℕ → Waiting L) → Budget → World L → Prog L → Trace L
  run_with ds later b w p = go_with (end_with ds b.steps) (spend ds later b.steps) (later b.steps) b.places w p

  -- from the next delivery on; one that doesn't fit ends the transcript before it
  abbrev pub receive : List Arrival → ℕ → ℕ → Waiting L
  receive [] steps n m k w = Cut w
  receive (d ∷ ds) steps n m k w =
      if fits m d.what w then Then (entry.Delivery d.fresh d.what) (go_with (end_with ds (refilled w.limits d steps)) (spend ds (receive ds) (refilled w.limits d steps)) (receive ds (refilled w.limits d steps)) n w (bind (deliver d.what) k)) else Cut w

  -- what comes of a program in a world, with so much left, and the deliveries that it takes
  unfoldable pub run : List Arrival → Budget → World L → Prog L → Trace L
  run ds b w p = run_with ds (receive ds) b w p

-- What a world is made of: its kind, its limits and its script.
pub record Setting : Type 0 where
  pub kind : WorldKind
  pub limits : Bounds
  pub tree : List nodes.Node

-- it has no steps left
abbrev pub first_budget : Bounds → Budget
first_budget limits = record { steps = 0; places = limits.places }

module _ {L : Type 0} where
  -- a world in which nothing has happened
  abbrev pub first_world : (L → L → Bool) → (ℕ → Option L) → Setting → World L
  first_world same supply setting = record {
    heap = realm supply setting.kind;
    depth = 0;
    units = 0;
    limits = setting.limits;
    kind = setting.kind;
    tree = setting.tree;
    loaded = false;
    supply = supply;
    same = same;
  }

  -- a trace, and then what is done with the outcome, the world and what is left
  abbrev pub and_then : Trace L → (Outcome L → World L → Budget → List Arrival → Trace L) → Trace L
  and_then (Then e t) go = Then e (and_then t go)
  and_then (Ended o w b ds) go = go o w b ds
  and_then (Cut w) go = Cut w
