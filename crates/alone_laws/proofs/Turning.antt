-- What a world makes of each delivery ends with one yield.
use Rattle.std.proofs.Common.{◌≡◌, ℕ, zero, suc, List, [], ◌∷◌, Bool, true, false, refl}
use Rattle.std.specs.Prelude.{if◌then◌else◌, nat_eq, nat_lt, ◌+◌}
use Rattle.world_log.specs.declared.entry.Delivery.{Delivery}
use Rattle.world_log.specs.declared.entry.Delivery.TheVariants.{Load}
use Rattle.world_log.specs.declared.entry.Entry.TheVariants as entry
use Rattle.world_log.specs.declared.entry.Product.TheVariants.{Console, Uncaught, Rest, Stopped}
use Rattle.js_semantics.specs.declared.mode.Mode.{Mode}
use Rattle.js_semantics.specs.declared.mode.Mode.TheVariants.{Idle}
use Rattle.js_semantics.specs.declared.outcome.Outcome.{Outcome}
use Rattle.js_semantics.specs.declared.outcome.Outcome.TheVariants.{Normal, Return, Break, Continue, Thrown}
use Rattle.js_semantics.specs.World.{World, limited}
use Rattle.js_semantics.specs.Prog.{Prog, Cont, End, Over, Enter, Make, Read, Write, Place, Await, Request, bind, count_units}
use Rattle.js_semantics.specs.Rows.{row}
use Rattle.js_semantics.specs.Run.{Arrival, Trace, Then, Cut, Ending, Entering, Placing, Waiting, entries, walk, take_place, go_with, end_with, spend, receive, refilled, fits, deliver, run, first_world, script_end}
use Rattle.js_semantics.specs.Alone.{alone_by, trace_of, cells_of}
use Rattle.alone_laws.specs.Turns.{Turns, IsYielding}
use Rattle.alone_laws.proofs.Orderly.{IsOver, Orderly, none_asked, bind_orderly}
use Rattle.alone_laws.proofs.OrderlyRows.{row_steady}

module _ {L : Type 0} where
  -- the program waits, and nothing follows the wait
  abbrev pub IsParked : Prog L → Type 0
  IsParked (Await m k) = (o : Outcome L) → IsOver (k o)
  IsParked p = ⊥

  -- a whole program inside a turn
  abbrev pub IsWhole : Bool → Prog L → Type 0
  IsWhole asked p = Orderly asked (λ o. ⊥) IsParked p

  abbrev Inside : Trace L → Type 0
  Inside t = Turns true (entries t)

  abbrev EnterLaw : Entering L → Type 0
  EnterLaw enter = (r : Request L) (k : Cont L) (w : World L) → ((o : Outcome L) → IsWhole false (k o)) → Inside (enter r k w)

  abbrev PlaceLaw : Placing L → Type 0
  PlaceLaw place = (p : Prog L) (w : World L) → IsWhole false p → Inside (place p w)

  abbrev WaitLaw : Waiting L → Type 0
  WaitLaw wait = (m : Mode) (k : Cont L) (w : World L) → ((o : Outcome L) → IsOver (k o)) → Turns false (entries (wait m k w))

  parked_turns : (done : Ending L) (enter : Entering L) (place : Placing L) (wait : Waiting L) → WaitLaw wait → (w : World L) (p : Prog L) → IsParked p → Turns false (entries (walk done enter place wait w p))
  parked_turns done enter place wait d w (Await m k) x = d m k w x
  parked_turns done enter place wait d w p x = absurd x

  pub over_none : (done : Ending L) (enter : Entering L) (place : Placing L) (wait : Waiting L) (w : World L) (p : Prog L) → IsOver p → entries (walk done enter place wait w p) ≡ []
  over_none done enter place wait w Over x = refl
  over_none done enter place wait w p x = absurd x

  walk_turns : (done : Ending L) (enter : Entering L) (place : Placing L) (wait : Waiting L) → EnterLaw enter → PlaceLaw place → WaitLaw wait → (w : World L) (p : Prog L) → IsWhole false p → Inside (walk done enter place wait w p)
  walk_turns done enter place wait b c d w (End o) x = absurd x
  walk_turns done enter place wait b c d w Over x = absurd x
  walk_turns done enter place wait b c d w (Enter r k) x = b r k w x
  walk_turns done enter place wait b c d w (Make (Console level text) p) x = walk_turns done enter place wait b c d w p x
  walk_turns done enter place wait b c d w (Make (Uncaught text) p) x = walk_turns done enter place wait b c d w p x
  walk_turns done enter place wait b c d w (Make (Rest jobs) p) x = parked_turns done enter place wait d w p x
  walk_turns done enter place wait b c d w (Make (Stopped stop) p) x = over_none done enter place wait w p x
  walk_turns done enter place wait b c d w (Read k) x = walk_turns done enter place wait b c d w (k w) (x w (none_asked w))
  walk_turns done enter place wait b c d w (Write v p) x = walk_turns done enter place wait b c d v p x.1
  walk_turns done enter place wait b c d w (Place p) x = c p w x
  walk_turns done enter place wait b c d w (Await m k) x = absurd x

  -- the same with a number of places, or of steps and places, left
  abbrev EntersLaw : (ℕ → Entering L) → Type 0
  EntersLaw enter = (n : ℕ) → EnterLaw (enter n)

  abbrev WaitsLaw : (ℕ → Waiting L) → Type 0
  WaitsLaw wait = (n : ℕ) → WaitLaw (wait n)

  place_turns : (done : ℕ → Ending L) (enter : ℕ → Entering L) (wait : ℕ → Waiting L) → EntersLaw enter → WaitsLaw wait → (n : ℕ) → PlaceLaw (take_place done enter wait n)
  place_turns done enter wait b d zero p w x = refl
  place_turns done enter wait b d (suc n) p w x =
      walk_turns (done n) (enter n) (take_place done enter wait n) (wait n) (b n) (place_turns done enter wait b d n) (d n) w p x

  go_turns : (done : ℕ → Ending L) (enter : ℕ → Entering L) (wait : ℕ → Waiting L) → EntersLaw enter → WaitsLaw wait → (n : ℕ) (w : World L) (p : Prog L) → IsWhole false p → Inside (go_with done enter wait n w p)
  go_turns done enter wait b d n w p x =
      walk_turns (done n) (enter n) (take_place done enter wait n) (wait n) (b n) (place_turns done enter wait b d n) (d n) w p x

  spend_turns : (ds : List Arrival) (later : ℕ → ℕ → Waiting L) → ((steps : ℕ) → WaitsLaw (later steps)) → (steps : ℕ) → EntersLaw (spend ds later steps)
  spend_turns ds later h zero n r k w x = refl
  spend_turns ds later h (suc steps) n r k w x =
      go_turns (end_with ds steps) (spend ds later steps) (later steps) (spend_turns ds later h steps) (h steps) n w (bind (row r) k) (bind_orderly false (λ o. ⊥) IsParked (row r) k (row_steady false r) x)

  -- what a delivery starts, where nothing follows it
  if_whole : (asked b : Bool) (p q : Prog L) (k : Cont L) → IsWhole asked (bind p k) → IsWhole asked (bind q k) → IsWhole asked (bind (if b then p else q) k)
  if_whole asked true p q k x y = x
  if_whole asked false p q k x y = y

  count_whole : (asked : Bool) (n : ℕ) (p : Prog L) (k : Cont L) → IsWhole asked (bind p k) → IsWhole asked (bind (count_units n p) k)
  unfolding count_units
  count_whole asked n p k x = λ w l. if_whole asked (nat_lt w.limits.units (w.units + n)) _ _ k tt (l, x)

  pub script_end_whole : (asked : Bool) (k : Cont L) → ((o : Outcome L) → IsOver (k o)) → (o : Outcome L) → IsWhole asked (bind (script_end o) k)
  script_end_whole asked k h (Thrown v) = λ w l. count_whole asked _ _ k h
  script_end_whole asked k h (Normal v) = h
  script_end_whole asked k h (Return v) = h
  script_end_whole asked k h Break = h
  script_end_whole asked k h Continue = h

  deliver_whole : (d : Delivery) (k : Cont L) → ((o : Outcome L) → IsOver (k o)) → IsWhole false (bind (deliver d) k)
  deliver_whole Load k h = λ w l. (none_asked (record w { loaded = true }), λ o. script_end_whole false k h o)

  chosen_turns : (b : Bool) (d : Arrival) (w : World L) (t : Trace L) → Inside t → Turns false (entries (if b then Then (entry.Delivery d.fresh d.what) t else Cut w))
  chosen_turns true d w t h = h
  chosen_turns false d w t h = refl

  pub receive_turns : (ds : List Arrival) (steps : ℕ) → WaitsLaw (receive ds steps)
  receive_turns [] steps n m k w x = refl
  receive_turns (d ∷ ds) steps n m k w x =
      let left = refilled w.limits d steps in
      chosen_turns (fits m d.what w) d w _ (go_turns (end_with ds left) (spend ds (receive ds) left) (receive ds left) (spend_turns ds (receive ds) (receive_turns ds) left) (receive_turns ds left) n w (bind (deliver d.what) k) (deliver_whole d.what k x))

pub yielding : IsYielding
unfolding IsYielding alone_by trace_of run
yielding supply setting ds =
    receive_turns ds 0 setting.limits.places Idle (λ o. Over) (first_world nat_eq (limited (cells_of setting) supply) setting) (λ o. tt)
