-- A world takes a delivery exactly where it fits: its script is loaded once, and then nothing more comes.
use Rattle.std.proofs.Common.{◌≡◌, ℕ, zero, suc, List, [], ◌∷◌, ◌++◌, map, Bool, true, false, refl, sym, ap, ◌∙◌}
use Rattle.std.specs.Prelude.{◌-◌, ◌&&◌, not, if◌then◌else◌, length, nat_eq}
use Rattle.std.specs.List.{list_any}
use Rattle.std.proofs.lemmas.List.{append-nil}
use Rattle.std.proofs.Math.Bool.{and-false}
use Rattle.world_log.specs.declared.entry.Delivery.{Delivery}
use Rattle.world_log.specs.declared.entry.Delivery.TheVariants.{Load}
use Rattle.world_log.specs.declared.entry.Product.{Product}
use Rattle.world_log.specs.declared.entry.Product.TheVariants.{Console, Uncaught, Rest, Stopped}
use Rattle.world_log.specs.declared.entry.Stop.TheVariants.{Fuel, Places}
use Rattle.world_log.specs.declared.entry.Entry.{Entry}
use Rattle.world_log.specs.declared.entry.Entry.TheVariants as entry
use Rattle.js_semantics.specs.declared.mode.Mode.{Mode}
use Rattle.js_semantics.specs.declared.mode.Mode.TheVariants.{Idle, Crossing}
use Rattle.js_semantics.specs.declared.outcome.Outcome.{Outcome}
use Rattle.js_semantics.specs.World.{World, limited}
use Rattle.js_semantics.specs.Prog.{Prog, Cont, End, Over, Enter, Make, Read, Write, Place, Await, Request, Script, bind}
use Rattle.js_semantics.specs.Rows.{row}
use Rattle.js_semantics.specs.Run.{Arrival, Trace, Then, Cut, Ending, Entering, Placing, Waiting, entries, walk, take_place, go_with, end_with, spend, receive, refilled, fits as may_come, deliver, run, first_world, script_end}
use Rattle.js_semantics.specs.Alone.{alone_by, trace_of, cells_of}
use Rattle.alone_laws.specs.Fitting.{IsFitting, added, deliveries, fits, has_taken, is_between, is_stop, takes}
use Rattle.alone_laws.proofs.Orderly.{bind_orderly}
use Rattle.alone_laws.proofs.OrderlyRows.{row_steady}
use Rattle.alone_laws.proofs.Turning.{IsParked, IsWhole, over_none, script_end_whole}

module _ {L : Type 0} where
  -- two traces of the same products and of nothing else
  abbrev Alike : Trace L → Trace L → Type 0
  Alike s t = (made : List Product) × ((entries s ≡ map entry.Product made) × (entries t ≡ map entry.Product made))

  makes : (e : Product) (s t : Trace L) → Alike s t → Alike (Then (entry.Product e) s) (Then (entry.Product e) t)
  makes e s t (made, (a, b)) = (e ∷ made, (ap (λ es. entry.Product e ∷ es) a, ap (λ es. entry.Product e ∷ es) b))

  both_end : (s t : Trace L) → entries s ≡ [] → entries t ≡ [] → Alike s t
  both_end s t a b = ([], (a, b))

  -- a world whose script was loaded
  abbrev IsLoaded : World L → Type 0
  IsLoaded w = w.loaded ≡ true

  abbrev EnterLaw : Entering L → Entering L → Type 0
  EnterLaw enter other = (r : Request L) (k : Cont L) (w : World L) → IsLoaded w → ((o : Outcome L) → IsWhole true (k o)) → Alike (enter r k w) (other r k w)

  abbrev PlaceLaw : Placing L → Placing L → Type 0
  PlaceLaw place other = (p : Prog L) (w : World L) → IsLoaded w → IsWhole true p → Alike (place p w) (other p w)

  -- nothing more comes
  abbrev WaitLaw : Waiting L → Type 0
  WaitLaw wait = (m : Mode) (k : Cont L) (w : World L) → IsLoaded w → entries (wait m k w) ≡ []

  parked_none : (done : Ending L) (enter : Entering L) (place : Placing L) (wait : Waiting L) → WaitLaw wait → (w : World L) (p : Prog L) → IsLoaded w → IsParked p → entries (walk done enter place wait w p) ≡ []
  parked_none done enter place wait d w (Await m k) l x = d m k w l
  parked_none done enter place wait d w p l x = absurd x

  walk_alike : (done done' : Ending L) (enter enter' : Entering L) (place place' : Placing L) (wait wait' : Waiting L) → EnterLaw enter enter' → PlaceLaw place place' → WaitLaw wait → WaitLaw wait' → (w : World L) (p : Prog L) → IsLoaded w → IsWhole true p → Alike (walk done enter place wait w p) (walk done' enter' place' wait' w p)
  walk_alike done done' enter enter' place place' wait wait' b c d d' w (End o) l x = absurd x
  walk_alike done done' enter enter' place place' wait wait' b c d d' w Over l x = absurd x
  walk_alike done done' enter enter' place place' wait wait' b c d d' w (Enter r k) l x = b r k w l x
  walk_alike done done' enter enter' place place' wait wait' b c d d' w (Make (Console level text) p) l x =
      makes (Console level text) _ _ (walk_alike done done' enter enter' place place' wait wait' b c d d' w p l x)
  walk_alike done done' enter enter' place place' wait wait' b c d d' w (Make (Uncaught text) p) l x =
      makes (Uncaught text) _ _ (walk_alike done done' enter enter' place place' wait wait' b c d d' w p l x)
  walk_alike done done' enter enter' place place' wait wait' b c d d' w (Make (Rest jobs) p) l x =
      makes (Rest jobs) _ _ (both_end (walk done enter place wait w p) (walk done' enter' place' wait' w p) (parked_none done enter place wait d w p l x) (parked_none done' enter' place' wait' d' w p l x))
  walk_alike done done' enter enter' place place' wait wait' b c d d' w (Make (Stopped stop) p) l x =
      makes (Stopped stop) _ _ (both_end (walk done enter place wait w p) (walk done' enter' place' wait' w p) (over_none done enter place wait w p x) (over_none done' enter' place' wait' w p x))
  walk_alike done done' enter enter' place place' wait wait' b c d d' w (Read k) l x =
      walk_alike done done' enter enter' place place' wait wait' b c d d' w (k w) l (x w (λ e. l))
  walk_alike done done' enter enter' place place' wait wait' b c d d' w (Write v p) l x =
      walk_alike done done' enter enter' place place' wait wait' b c d d' v p (x.0 refl) x.1
  walk_alike done done' enter enter' place place' wait wait' b c d d' w (Place p) l x = c p w l x
  walk_alike done done' enter enter' place place' wait wait' b c d d' w (Await m k) l x = absurd x

  -- the same with a number of places, or of steps and places, left
  abbrev EntersLaw : (ℕ → Entering L) → (ℕ → Entering L) → Type 0
  EntersLaw enter other = (n : ℕ) → EnterLaw (enter n) (other n)

  abbrev WaitsLaw : (ℕ → Waiting L) → Type 0
  WaitsLaw wait = (n : ℕ) → WaitLaw (wait n)

  place_alike : (done done' : ℕ → Ending L) (enter enter' : ℕ → Entering L) (wait wait' : ℕ → Waiting L) → EntersLaw enter enter' → WaitsLaw wait → WaitsLaw wait' → (n : ℕ) → PlaceLaw (take_place done enter wait n) (take_place done' enter' wait' n)
  place_alike done done' enter enter' wait wait' b d d' zero p w l x = (Stopped Places ∷ [], (refl, refl))
  place_alike done done' enter enter' wait wait' b d d' (suc n) p w l x =
      walk_alike (done n) (done' n) (enter n) (enter' n) (take_place done enter wait n) (take_place done' enter' wait' n) (wait n) (wait' n) (b n) (place_alike done done' enter enter' wait wait' b d d' n) (d n) (d' n) w p l x

  go_alike : (done done' : ℕ → Ending L) (enter enter' : ℕ → Entering L) (wait wait' : ℕ → Waiting L) → EntersLaw enter enter' → WaitsLaw wait → WaitsLaw wait' → (n : ℕ) (w : World L) (p : Prog L) → IsLoaded w → IsWhole true p → Alike (go_with done enter wait n w p) (go_with done' enter' wait' n w p)
  go_alike done done' enter enter' wait wait' b d d' n w p l x =
      walk_alike (done n) (done' n) (enter n) (enter' n) (take_place done enter wait n) (take_place done' enter' wait' n) (wait n) (wait' n) (b n) (place_alike done done' enter enter' wait wait' b d d' n) (d n) (d' n) w p l x

  -- a script is loaded once
  loaded_once : (m : Mode) (what : Delivery) (w : World L) → IsLoaded w → may_come m what w ≡ false
  loaded_once Idle Load w l = ap not l
  loaded_once Crossing Load w l = refl

  receive_none : (ds : List Arrival) (steps : ℕ) → WaitsLaw (receive ds steps)
  receive_none [] steps n m k w l = refl
  receive_none (d ∷ ds) steps n m k w l =
      let left = refilled w.limits d steps in
      ap (λ b. entries (if b then Then (entry.Delivery d.fresh d.what) (go_with (end_with ds left) (spend ds (receive ds) left) (receive ds left) n w (bind (deliver d.what) k)) else Cut w)) (loaded_once m d.what w l)

  spend_alike : (ds more : List Arrival) (steps : ℕ) → EntersLaw (spend ds (receive ds) steps) (spend more (receive more) steps)
  spend_alike ds more zero n r k w l x = (Stopped Fuel ∷ [], (refl, refl))
  spend_alike ds more (suc steps) n r k w l x =
      go_alike (end_with ds steps) (end_with more steps) (spend ds (receive ds) steps) (spend more (receive more) steps) (receive ds steps) (receive more steps) (spend_alike ds more steps) (receive_none ds steps) (receive_none more steps) n w (bind (row r) k) l (bind_orderly true (λ o. ⊥) IsParked (row r) k (row_steady true r) x)

  -- what comes behind the first delivery that a world takes
  abbrev turn : List Arrival → ℕ → ℕ → World L → Delivery → Trace L
  turn ds steps n w what = go_with (end_with ds steps) (spend ds (receive ds) steps) (receive ds steps) n w (bind (deliver what) (λ o. Over))

  turn_alike : (ds more : List Arrival) (steps n : ℕ) (w : World L) (what : Delivery) → Alike (turn ds steps n w what) (turn more steps n w what)
  turn_alike ds more steps n w Load =
      spend_alike ds more steps n (Script (record { 0 = length w.tree - 1 })) (λ o. bind (script_end o) (λ p. Over)) (record w { loaded = true }) refl (λ o. script_end_whole true (λ p. Over) (λ p. tt) o)

  -- the first delivery is taken
  first_comes : (what : Delivery) (w : World L) → w.loaded ≡ false → may_come Idle what w ≡ true
  first_comes Load w l = ap not l

  first_taken : (d : Arrival) (ds : List Arrival) (n : ℕ) (w : World L) → w.loaded ≡ false → entries (receive (d ∷ ds) 0 n Idle (λ o. Over) w) ≡ entry.Delivery d.fresh d.what ∷ entries (turn ds (refilled w.limits d 0) n w d.what)
  first_taken d ds n w l =
      ap (λ b. entries (if b then Then (entry.Delivery d.fresh d.what) (turn ds (refilled w.limits d 0) n w d.what) else Cut w)) (first_comes d.what w l)

-- what comes first fits, and nothing does behind it
first_fits : (what : Delivery) → (has_taken [] [] && fits [] what) ≡ true
unfolding has_taken deliveries fits
first_fits Load = refl

none_fits : (ds : List Arrival) (fresh : Bool) (first what : Delivery) (es : List Entry) → (has_taken ds (entry.Delivery fresh first ∷ es) && fits (entry.Delivery fresh first ∷ es) what) ≡ false
unfolding fits
none_fits ds fresh Load Load es =
    let whole = entry.Delivery fresh Load ∷ es in
    ap (λ b. has_taken ds whole && (not (list_any is_stop whole) && b)) (and-false (is_between whole))
    ∙ ap (λ b. has_taken ds whole && b) (and-false (not (list_any is_stop whole)))
    ∙ and-false (has_taken ds whole)

-- what nothing is added to
same_ends : (es whole : List Entry) (d : Arrival) (taken : Bool) → whole ≡ es → taken ≡ false → whole ≡ es ++ added taken d []
same_ends es whole d taken e none = e ∙ sym (append-nil es) ∙ ap (λ b. es ++ added b d []) (sym none)

pub fitting : IsFitting
unfolding IsFitting alone_by trace_of run
fitting supply setting [] d =
    let w = first_world nat_eq (limited (cells_of setting) supply) setting in
    let n = setting.limits.places in
    let alike = turn_alike [] [] (refilled w.limits d 0) n w d.what in
    (alike.0, first_taken d [] n w refl ∙ ap (λ es. entry.Delivery d.fresh d.what ∷ es) alike.1.0 ∙ ap (λ b. added b d alike.0) (sym (first_fits d.what)))
fitting supply setting (c ∷ ds) d =
    let w = first_world nat_eq (limited (cells_of setting) supply) setting in
    let n = setting.limits.places in
    let left = refilled w.limits c 0 in
    let first = entry.Delivery c.fresh c.what in
    let more = ds ++ d ∷ [] in
    let alike = turn_alike ds more left n w c.what in
    let before = first_taken c ds n w refl in
    let after = first_taken c more n w refl in
    let same = after ∙ ap (λ es. first ∷ es) (alike.1.1 ∙ sym alike.1.0) ∙ sym before in
    ([], same_ends _ _ d _ same (ap (λ es. takes (c ∷ ds) es d) before ∙ none_fits (c ∷ ds) c.fresh c.what d.what _))
