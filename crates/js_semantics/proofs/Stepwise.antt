-- A node is evaluated by recursion: its row with one step less, and then what is done with its outcome.
use Rattle.std.proofs.Common.{◌≡◌, ℕ, zero, suc, List, [], ◌∷◌, Bool, true, false, if◌then◌else◌, refl, sym, ap, ◌∙◌}
use Rattle.world_log.specs.declared.entry.Entry.TheVariants as entry
use Rattle.js_semantics.specs.declared.mode.Mode.{Mode}
use Rattle.js_semantics.specs.World.{World}
use Rattle.js_semantics.specs.declared.outcome.Outcome.{Outcome}
use Rattle.js_semantics.specs.Prog.{Prog, Cont, End, Over, Make, Read, Write, Place, Enter, Await, Request, bind}
use Rattle.js_semantics.specs.Rows.{row}
use Rattle.js_semantics.specs.Run.{Arrival, Trace, Then, Cut, Budget, end_with, spend, take_place, receive, run, refilled, fits, deliver, and_then}
use Rattle.js_semantics.specs.Alone.{IsRecursive}
use Rattle.js_semantics.proofs.Programs.{bind_assoc}

-- One program and then another: what comes of the first, and then of the second from where the first has ended.
module _ {L : Type 0} (k : Cont L) where
  second : Outcome L → World L → Budget → List Arrival → Trace L
  unfolding run
  second o w b ds = run ds b w (k o)

  abbrev at : ℕ → ℕ → Budget
  at steps n = record { steps = steps; places = n }

  EnterLaw : List Arrival → ℕ → Type 0
  EnterLaw ds steps =
      (n : ℕ) (r : Request L) (j : Cont L) (w : World L) → spend ds (receive ds) steps n r (λ o. bind (j o) k) w ≡ and_then (spend ds (receive ds) steps n r j w) second

  WaitLaw : List Arrival → ℕ → Type 0
  WaitLaw ds steps =
      (n : ℕ) (m : Mode) (j : Cont L) (w : World L) → receive ds steps n m (λ o. bind (j o) k) w ≡ and_then (receive ds steps n m j w) second

  PlaceLaw : List Arrival → ℕ → ℕ → Type 0
  PlaceLaw ds steps n =
      (p : Prog L) (w : World L) → take_place (end_with ds steps) (spend ds (receive ds) steps) (receive ds steps) n (bind p k) w ≡ and_then (take_place (end_with ds steps) (spend ds (receive ds) steps) (receive ds steps) n p w) second

  walk_bind : (ds : List Arrival) (steps n : ℕ) → EnterLaw ds steps → PlaceLaw ds steps n → WaitLaw ds steps → (w : World L) (p : Prog L) → run ds (at steps n) w (bind p k) ≡ and_then (run ds (at steps n) w p) second
  unfolding second EnterLaw WaitLaw PlaceLaw run
  walk_bind ds steps n enter place wait w (End o) = refl
  walk_bind ds steps n enter place wait w Over = refl
  walk_bind ds steps n enter place wait w (Enter r j) = enter n r j w
  walk_bind ds steps n enter place wait w (Make e p) = ap (λ t. Then (entry.Product e) t) (walk_bind ds steps n enter place wait w p)
  walk_bind ds steps n enter place wait w (Read j) = walk_bind ds steps n enter place wait w (j w)
  walk_bind ds steps n enter place wait w (Write v p) = walk_bind ds steps n enter place wait v p
  walk_bind ds steps n enter place wait w (Place p) = place p w
  walk_bind ds steps n enter place wait w (Await m j) = wait n m j w

  place_bind : (ds : List Arrival) (steps : ℕ) → EnterLaw ds steps → WaitLaw ds steps → (n : ℕ) → PlaceLaw ds steps n
  unfolding PlaceLaw run
  place_bind ds steps enter wait zero p w = refl
  place_bind ds steps enter wait (suc n) p w = walk_bind ds steps n enter (place_bind ds steps enter wait n) wait w p

  go_bind : (ds : List Arrival) (steps : ℕ) → EnterLaw ds steps → WaitLaw ds steps → (n : ℕ) (w : World L) (p : Prog L) → run ds (at steps n) w (bind p k) ≡ and_then (run ds (at steps n) w p) second
  go_bind ds steps enter wait n w p = walk_bind ds steps n enter (place_bind ds steps enter wait n) wait w p

  spend_bind : (ds : List Arrival) → ((steps : ℕ) → WaitLaw ds steps) → (steps : ℕ) → EnterLaw ds steps
  unfolding EnterLaw run
  spend_bind ds wait zero n r j w = refl
  spend_bind ds wait (suc s) n r j w =
      sym (ap (λ p. run ds (at s n) w p) (bind_assoc (row r) j k))
      ∙ go_bind ds s (spend_bind ds wait s) (wait s) n w (bind (row r) j)

  -- a delivery, where what comes later is known
  delivery_bind : (d : Arrival) (ds : List Arrival) → ((steps : ℕ) → WaitLaw ds steps) → (steps n : ℕ) (m : Mode) (j : Cont L) (w : World L) (b : Bool) → (if b then Then (entry.Delivery d.fresh d.what) (run ds (at steps n) w (bind (deliver d.what) (λ o. bind (j o) k))) else Cut w) ≡ and_then (if b then Then (entry.Delivery d.fresh d.what) (run ds (at steps n) w (bind (deliver d.what) j)) else Cut w) second
  delivery_bind d ds wait steps n m j w true =
      ap (λ t. Then (entry.Delivery d.fresh d.what) t) (sym (ap (λ p. run ds (at steps n) w p) (bind_assoc (deliver d.what) j k)) ∙ go_bind ds steps (spend_bind ds wait steps) (wait steps) n w (bind (deliver d.what) j))
  delivery_bind d ds wait steps n m j w false = refl

  receive_bind : (ds : List Arrival) (steps : ℕ) → WaitLaw ds steps
  unfolding WaitLaw run
  receive_bind [] steps n m j w = refl
  receive_bind (d ∷ ds) steps n m j w = delivery_bind d ds (receive_bind ds) (refilled w.limits d steps) n m j w (fits m d.what w)

  run_bind : (ds : List Arrival) (steps n : ℕ) (w : World L) (p : Prog L) → run ds (at steps n) w (bind p k) ≡ and_then (run ds (at steps n) w p) second
  run_bind ds steps n w p = go_bind ds steps (spend_bind ds (receive_bind ds) steps) (receive_bind ds steps) n w p

-- A node is evaluated by recursion: its row, and then what is done with the outcome.
pub run_enter : {L : Type 0} (ds : List Arrival) (steps n : ℕ) (w : World L) (r : Request L) (k : Cont L) → run ds (record { steps = suc steps; places = n }) w (Enter r k) ≡ and_then (run ds (record { steps = steps; places = n }) w (row r)) (λ o v b later. run later b v (k o))
unfolding second run
run_enter ds steps n w r k = run_bind k ds steps n w (row r)

pub recursive : IsRecursive
unfolding IsRecursive
recursive ds steps places w r k = run_enter ds steps places w r k
