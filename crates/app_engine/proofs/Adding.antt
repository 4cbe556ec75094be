-- What a world makes of more deliveries only adds, from the next delivery on, and it takes the deliveries in their order.
use Rattle.std.proofs.Common.{◌≡◌, ℕ, zero, suc, List, [], ◌∷◌, ◌++◌, Bool, true, false, refl, ap, sym}
use Rattle.std.specs.Prelude.{if◌then◌else◌, nat_eq}
use Rattle.std.specs.List.{flat_map}
use Rattle.world_log.specs.declared.entry.Entry.{Entry}
use Rattle.world_log.specs.declared.entry.Entry.TheVariants as entry
use Rattle.js_semantics.specs.declared.mode.Mode.{Mode}
use Rattle.js_semantics.specs.declared.mode.Mode.TheVariants.{Idle}
use Rattle.js_semantics.specs.declared.outcome.Outcome.{Outcome}
use Rattle.js_semantics.specs.World.{World, limited}
use Rattle.js_semantics.specs.Prog.{Prog, Cont, End, Over, Enter, Make, Read, Write, Place, Await, Request, bind}
use Rattle.js_semantics.specs.Rows.{row}
use Rattle.js_semantics.specs.Run.{Arrival, Setting, Trace, Then, Cut, Ending, Entering, Placing, Waiting, entries, walk, take_place, go_with, end_with, spend, receive, refilled, fits, deliver, run, first_world}
use Rattle.js_semantics.specs.Alone.{alone, alone_by, trace_of, cells_of}
use Rattle.app_engine.specs.Log.{deliveries, delivery_of}
use Rattle.app_engine.specs.Laws.{BeginsByDelivery, Causal, IsCausal}
use Rattle.app_engine.proofs.Lists.{tails, none_of}

-- What comes of these deliveries, and of these and more.
record Goes (ds more : List Arrival) (xs ys : List Entry) : Type 0 where
  rest : List Entry
  adds : ys ≡ xs ++ rest
  begins : BeginsByDelivery rest
  takes : flat_map delivery_of ys ≡ ds ++ more → flat_map delivery_of xs ≡ ds

none_goes : (ds more : List Arrival) → Goes ds more [] []
none_goes ds more = record { rest = []; adds = refl; begins = tt; takes = λ e. sym (none_of ds more e) }

product_goes : (ds more : List Arrival) (p : _) (xs ys : List Entry) → Goes ds more xs ys → Goes ds more (entry.Product p ∷ xs) (entry.Product p ∷ ys)
product_goes ds more p xs ys h = record { rest = h.rest; adds = ap (λ zs. entry.Product p ∷ zs) h.adds; begins = h.begins; takes = h.takes }

one_goes : (ds more : List Arrival) (p : _) → Goes ds more (entry.Product p ∷ []) (entry.Product p ∷ [])
one_goes ds more p = product_goes ds more p [] [] (none_goes ds more)

delivery_goes : (d : Arrival) (ds more : List Arrival) (xs ys : List Entry) → Goes ds more xs ys
    → Goes (d ∷ ds) more (entry.Delivery d.fresh d.what ∷ xs) (entry.Delivery d.fresh d.what ∷ ys)
delivery_goes d ds more xs ys h = record {
  rest = h.rest;
  adds = ap (λ zs. entry.Delivery d.fresh d.what ∷ zs) h.adds;
  begins = h.begins;
  takes = λ e. ap (λ (others : List Arrival). d ∷ others) (h.takes (tails d d (flat_map delivery_of ys) (ds ++ more) e));
}

module _ {L : Type 0} (ds more : List Arrival) where
  abbrev Before : Trace L → Trace L → Type 0
  Before s t = Goes ds more (entries s) (entries t)

  abbrev EndLaw : Ending L → Ending L → Type 0
  EndLaw done other = (o : Outcome L) (w : World L) → Before (done o w) (other o w)

  abbrev EnterLaw : Entering L → Entering L → Type 0
  EnterLaw enter other = (r : Request L) (k : Cont L) (w : World L) → Before (enter r k w) (other r k w)

  abbrev PlaceLaw : Placing L → Placing L → Type 0
  PlaceLaw place other = (p : Prog L) (w : World L) → Before (place p w) (other p w)

  abbrev WaitLaw : Waiting L → Waiting L → Type 0
  WaitLaw wait other = (m : Mode) (k : Cont L) (w : World L) → Before (wait m k w) (other m k w)

  walk_before : (done done' : Ending L) (enter enter' : Entering L) (place place' : Placing L) (wait wait' : Waiting L) → EndLaw done done' → EnterLaw enter enter' → PlaceLaw place place' → WaitLaw wait wait' → (w : World L) (p : Prog L) → Before (walk done enter place wait w p) (walk done' enter' place' wait' w p)
  walk_before done done' enter enter' place place' wait wait' a b c d w (End o) = a o w
  walk_before done done' enter enter' place place' wait wait' a b c d w Over = none_goes ds more
  walk_before done done' enter enter' place place' wait wait' a b c d w (Enter r k) = b r k w
  walk_before done done' enter enter' place place' wait wait' a b c d w (Make e p) =
      product_goes ds more e _ _ (walk_before done done' enter enter' place place' wait wait' a b c d w p)
  walk_before done done' enter enter' place place' wait wait' a b c d w (Read k) =
      walk_before done done' enter enter' place place' wait wait' a b c d w (k w)
  walk_before done done' enter enter' place place' wait wait' a b c d w (Write v p) =
      walk_before done done' enter enter' place place' wait wait' a b c d v p
  walk_before done done' enter enter' place place' wait wait' a b c d w (Place p) = c p w
  walk_before done done' enter enter' place place' wait wait' a b c d w (Await m k) = d m k w

  -- the same with a number of places, or of steps and places, left
  abbrev EndsLaw : (ℕ → Ending L) → (ℕ → Ending L) → Type 0
  EndsLaw done other = (n : ℕ) → EndLaw (done n) (other n)

  abbrev EntersLaw : (ℕ → Entering L) → (ℕ → Entering L) → Type 0
  EntersLaw enter other = (n : ℕ) → EnterLaw (enter n) (other n)

  abbrev WaitsLaw : (ℕ → Waiting L) → (ℕ → Waiting L) → Type 0
  WaitsLaw wait other = (n : ℕ) → WaitLaw (wait n) (other n)

  place_before : (done done' : ℕ → Ending L) (enter enter' : ℕ → Entering L) (wait wait' : ℕ → Waiting L) → EndsLaw done done' → EntersLaw enter enter' → WaitsLaw wait wait' → (n : ℕ) → PlaceLaw (take_place done enter wait n) (take_place done' enter' wait' n)
  place_before done done' enter enter' wait wait' a b d zero p w = one_goes ds more _
  place_before done done' enter enter' wait wait' a b d (suc n) p w =
      walk_before (done n) (done' n) (enter n) (enter' n) (take_place done enter wait n) (take_place done' enter' wait' n) (wait n) (wait' n) (a n) (b n) (place_before done done' enter enter' wait wait' a b d n) (d n) w p

  go_before : (done done' : ℕ → Ending L) (enter enter' : ℕ → Entering L) (wait wait' : ℕ → Waiting L) → EndsLaw done done' → EntersLaw enter enter' → WaitsLaw wait wait' → (n : ℕ) (w : World L) (p : Prog L) → Before (go_with done enter wait n w p) (go_with done' enter' wait' n w p)
  go_before done done' enter enter' wait wait' a b d n w p =
      walk_before (done n) (done' n) (enter n) (enter' n) (take_place done enter wait n) (take_place done' enter' wait' n) (wait n) (wait' n) (a n) (b n) (place_before done done' enter enter' wait wait' a b d n) (d n) w p

  end_before : (steps : ℕ) → EndsLaw (end_with ds steps) (end_with (ds ++ more) steps)
  end_before steps n o w = none_goes ds more

  spend_before : (later later' : ℕ → ℕ → Waiting L) → ((steps : ℕ) → WaitsLaw (later steps) (later' steps)) → (steps : ℕ) → EntersLaw (spend ds later steps) (spend (ds ++ more) later' steps)
  spend_before later later' h zero n r k w = one_goes ds more _
  spend_before later later' h (suc steps) n r k w =
      go_before (end_with ds steps) (end_with (ds ++ more) steps) (spend ds later steps) (spend (ds ++ more) later' steps) (later steps) (later' steps) (end_before steps) (spend_before later later' h steps) (h steps) n w (bind (row r) k)

module _ {L : Type 0} where
  -- what comes from a delivery that was not awaited before
  further : (more : List Arrival) (steps n : ℕ) (m : Mode) (k : Cont L) (w : World L) → BeginsByDelivery (entries (receive more steps n m k w))
  further [] steps n m k w = tt
  further (d ∷ ds) steps n m k w = begun (fits m d.what w) d w _
    where
      begun : (b : Bool) (d : Arrival) (w : World L) (t : Trace L) → BeginsByDelivery (entries (if b then Then (entry.Delivery d.fresh d.what) t else Cut w))
      begun true d w t = tt
      begun false d w t = tt

  chosen_before : (b : Bool) (d : Arrival) (ds more : List Arrival) (w : World L) (s t : Trace L) → Goes ds more (entries s) (entries t)
      → Goes (d ∷ ds) more (entries (if b then Then (entry.Delivery d.fresh d.what) s else Cut w)) (entries (if b then Then (entry.Delivery d.fresh d.what) t else Cut w))
  chosen_before true d ds more w s t h = delivery_goes d ds more (entries s) (entries t) h
  chosen_before false d ds more w s t h = none_goes (d ∷ ds) more

  receive_before : (ds more : List Arrival) (steps : ℕ) → WaitsLaw {L = L} ds more (receive ds steps) (receive (ds ++ more) steps)
  receive_before [] more steps n m k w = record { rest = entries (receive more steps n m k w); adds = refl; begins = further more steps n m k w; takes = λ e. refl }
  receive_before (d ∷ ds) more steps n m k w =
      let left = refilled w.limits d steps in
      chosen_before (fits m d.what w) d ds more w _ _ (go_before ds more (end_with ds left) (end_with (ds ++ more) left) (spend ds (receive ds) left) (spend (ds ++ more) (receive (ds ++ more)) left) (receive ds left) (receive (ds ++ more) left) (end_before ds more left) (spend_before ds more (receive ds) (receive (ds ++ more)) (receive_before ds more) left) (receive_before ds more left) n w (bind (deliver d.what) k))

goes : (setting : Setting) (ds more : List Arrival) → Goes ds more (alone setting ds) (alone setting (ds ++ more))
unfolding alone alone_by trace_of run
goes setting ds more =
    receive_before ds more 0 setting.limits.places Idle (λ o. Over) (first_world nat_eq (limited (cells_of setting) (λ n. n)) setting)

pub causal_of : (setting : Setting) → Causal (alone setting)
unfolding deliveries
causal_of setting = record {
  adds = λ ds more. let h = goes setting ds more in (h.rest, h.adds, h.begins);
  takes = λ ds more. (goes setting ds more).takes;
}

pub causal : IsCausal
unfolding IsCausal
causal = causal_of
