-- The transcript of more deliveries begins with that of the first ones.
use Rattle.std.proofs.Common.{ℕ, zero, suc, List, [], ◌∷◌, ◌++◌, Bool, true, false, refl, ap}
use Rattle.std.specs.Prelude.{if◌then◌else◌, nat_eq}
use Rattle.js_semantics.specs.declared.mode.Mode.{Mode}
use Rattle.js_semantics.specs.declared.mode.Mode.TheVariants.{Idle}
use Rattle.world_log.specs.declared.entry.Entry.TheVariants as entry
use Rattle.js_semantics.specs.World.{World, limited}
use Rattle.js_semantics.specs.declared.outcome.Outcome.{Outcome}
use Rattle.js_semantics.specs.Prog.{Prog, Cont, End, Over, Enter, Make, Read, Write, Place, Await, Request, bind}
use Rattle.js_semantics.specs.Rows.{row}
use Rattle.js_semantics.specs.Run.{Arrival, Trace, Then, Cut, Ending, Entering, Placing, Waiting, entries, walk, take_place, go_with, end_with, spend, receive, refilled, fits, deliver, run, first_world}
use Rattle.js_semantics.specs.Alone.{Begins, IsContinued, alone, alone_by, trace_of, cells_of}

empty_begins : {A : Type 0} (xs : List A) → Begins [] xs
empty_begins xs = (xs, refl)

begins_with : {A : Type 0} (x : A) (xs ys : List A) → Begins xs ys → Begins (x ∷ xs) (x ∷ ys)
begins_with x xs ys (rest, e) = (rest, ap (λ zs. x ∷ zs) e)

module _ {L : Type 0} where
  abbrev Before : Trace L → Trace L → Type 0
  Before s t = Begins (entries s) (entries t)

  abbrev EndLaw : Ending L → Ending L → Type 0
  EndLaw done other = (o : Outcome L) (w : World L) → Before (done o w) (other o w)

  abbrev EnterLaw : Entering L → Entering L → Type 0
  EnterLaw enter other = (r : Request L) (k : Cont L) (w : World L) → Before (enter r k w) (other r k w)

  abbrev PlaceLaw : Placing L → Placing L → Type 0
  PlaceLaw place other = (p : Prog L) (w : World L) → Before (place p w) (other p w)

  abbrev WaitLaw : Waiting L → Waiting L → Type 0
  WaitLaw wait other = (m : Mode) (k : Cont L) (w : World L) → Before (wait m k w) (other m k w)

  walk_before : (done done' : Ending L) (enter enter' : Entering L) (place place' : Placing L) (wait wait' : Waiting L) → EndLaw done done' → EnterLaw enter enter' → PlaceLaw place place' → WaitLaw wait wait' → (w : World L) (p : Prog L) → Before (walk done enter place wait w p) (walk done' enter' place' wait' w p)
  walk_before done done' enter enter' place place' wait wait' a b c d w (End o) = a o w
  walk_before done done' enter enter' place place' wait wait' a b c d w Over = empty_begins []
  walk_before done done' enter enter' place place' wait wait' a b c d w (Enter r k) = b r k w
  walk_before done done' enter enter' place place' wait wait' a b c d w (Make e p) =
      begins_with (entry.Product e) _ _ (walk_before done done' enter enter' place place' wait wait' a b c d w p)
  walk_before done done' enter enter' place place' wait wait' a b c d w (Read k) =
      walk_before done done' enter enter' place place' wait wait' a b c d w (k w)
  walk_before done done' enter enter' place place' wait wait' a b c d w (Write v p) =
      walk_before done done' enter enter' place place' wait wait' a b c d v p
  walk_before done done' enter enter' place place' wait wait' a b c d w (Place p) = c p w
  walk_before done done' enter enter' place place' wait wait' a b c d w (Await m k) = d m k w

  -- the same with a number of places, or of steps and places, left
  abbrev EndsLaw : (ℕ → Ending L) → (ℕ → Ending L) → Type 0
  EndsLaw done other = (n : ℕ) → EndLaw (done n) (other n)

  abbrev EntersLaw : (ℕ → Entering L) → (ℕ → Entering L) → Type 0
  EntersLaw enter other = (n : ℕ) → EnterLaw (enter n) (other n)

  abbrev WaitsLaw : (ℕ → Waiting L) → (ℕ → Waiting L) → Type 0
  WaitsLaw wait other = (n : ℕ) → WaitLaw (wait n) (other n)

  place_before : (done done' : ℕ → Ending L) (enter enter' : ℕ → Entering L) (wait wait' : ℕ → Waiting L) → EndsLaw done done' → EntersLaw enter enter' → WaitsLaw wait wait' → (n : ℕ) → PlaceLaw (take_place done enter wait n) (take_place done' enter' wait' n)
  place_before done done' enter enter' wait wait' a b d zero p w = ([], refl)
  place_before done done' enter enter' wait wait' a b d (suc n) p w =
      walk_before (done n) (done' n) (enter n) (enter' n) (take_place done enter wait n) (take_place done' enter' wait' n) (wait n) (wait' n) (a n) (b n) (place_before done done' enter enter' wait wait' a b d n) (d n) w p

  go_before : (done done' : ℕ → Ending L) (enter enter' : ℕ → Entering L) (wait wait' : ℕ → Waiting L) → EndsLaw done done' → EntersLaw enter enter' → WaitsLaw wait wait' → (n : ℕ) (w : World L) (p : Prog L) → Before (go_with done enter wait n w p) (go_with done' enter' wait' n w p)
  go_before done done' enter enter' wait wait' a b d n w p =
      walk_before (done n) (done' n) (enter n) (enter' n) (take_place done enter wait n) (take_place done' enter' wait' n) (wait n) (wait' n) (a n) (b n) (place_before done done' enter enter' wait wait' a b d n) (d n) w p

  end_before : (ds es : List Arrival) (steps : ℕ) → EndsLaw (end_with ds steps) (end_with es steps)
  end_before ds es steps n o w = empty_begins []

  spend_before : (ds es : List Arrival) (later later' : ℕ → ℕ → Waiting L) → ((steps : ℕ) → WaitsLaw (later steps) (later' steps)) → (steps : ℕ) → EntersLaw (spend ds later steps) (spend es later' steps)
  spend_before ds es later later' h zero n r k w = ([], refl)
  spend_before ds es later later' h (suc steps) n r k w =
      go_before (end_with ds steps) (end_with es steps) (spend ds later steps) (spend es later' steps) (later steps) (later' steps) (end_before ds es steps) (spend_before ds es later later' h steps) (h steps) n w (bind (row r) k)

  chosen_before : (b : Bool) (d : Arrival) (w : World L) (s t : Trace L) → Before s t → Before (if b then Then (entry.Delivery d.fresh d.what) s else Cut w) (if b then Then (entry.Delivery d.fresh d.what) t else Cut w)
  chosen_before true d w s t h = begins_with (entry.Delivery d.fresh d.what) (entries s) (entries t) h
  chosen_before false d w s t h = empty_begins []

  receive_before : (ds more : List Arrival) (steps : ℕ) → WaitsLaw (receive ds steps) (receive (ds ++ more) steps)
  receive_before [] more steps n m k w = empty_begins _
  receive_before (d ∷ ds) more steps n m k w =
      let left = refilled w.limits d steps in
      chosen_before (fits m d.what w) d w _ _ (go_before (end_with ds left) (end_with (ds ++ more) left) (spend ds (receive ds) left) (spend (ds ++ more) (receive (ds ++ more)) left) (receive ds left) (receive (ds ++ more) left) (end_before ds (ds ++ more) left) (spend_before ds (ds ++ more) (receive ds) (receive (ds ++ more)) (receive_before ds more) left) (receive_before ds more left) n w (bind (deliver d.what) k))

pub continued : IsContinued
unfolding IsContinued alone alone_by trace_of run
continued setting ds more =
    receive_before ds more 0 setting.limits.places Idle (λ o. Over) (first_world nat_eq (limited (cells_of setting) (λ n. n)) setting)
