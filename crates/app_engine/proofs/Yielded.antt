-- A world that is loaded makes products up to one yield.
use Rattle.std.proofs.Common.{◌≡◌, ℕ, zero, suc, [], Bool, true, false, refl}
use Rattle.std.specs.Prelude.{if◌then◌else◌, nat_eq, nat_lt, ◌+◌}
use Rattle.world_log.specs.declared.entry.Product.TheVariants.{Console, Uncaught, Rest, Stopped}
use Rattle.js_semantics.specs.declared.mode.Mode.{Mode}
use Rattle.js_semantics.specs.declared.outcome.Outcome.{Outcome}
use Rattle.js_semantics.specs.declared.outcome.Outcome.TheVariants.{Normal, Return, Break, Continue, Thrown}
use Rattle.js_semantics.specs.World.{World, limited}
use Rattle.js_semantics.specs.Prog.{Prog, Cont, End, Over, Enter, Make, Read, Write, Place, Await, Request, bind, count_units}
use Rattle.js_semantics.specs.Rows.{row}
use Rattle.js_semantics.specs.Run.{Setting, Ending, Entering, Placing, Waiting, entries, walk, take_place, go_with, end_with, spend, receive, run, first_world, script_end, load_row}
use Rattle.js_semantics.specs.Alone.{alone, alone_by, trace_of, cells_of}
use Rattle.app_engine.specs.Log.{first_load}
use Rattle.app_engine.specs.Laws.{Yields, IsYielding}
use Rattle.app_engine.proofs.Lists.{tail_of}
use Rattle.alone_laws.proofs.Orderly.{Calm, IsOver, over_still}
use Rattle.alone_laws.proofs.OrderlyRows.{row_calm}

module _ (L : Type 0) where
  -- the program waits at once
  abbrev IsWaiting : Prog L → Type 0
  IsWaiting (Await m k) = Unit {0}
  IsWaiting p = ⊥

  -- A program that ends with no outcome: with a rest with no job that waits, or a stop.
  abbrev Endless : Prog L → Type 0
  Endless (End o) = ⊥
  Endless Over = ⊥
  Endless (Enter r k) = (o : Outcome L) → Endless (k o)
  Endless (Make (Console level text) p) = Endless p
  Endless (Make (Uncaught text) p) = Endless p
  Endless (Make (Rest jobs) p) = (jobs ≡ 0) × IsWaiting p
  Endless (Make (Stopped stop) p) = IsOver p
  Endless (Read k) = (w : World L) → Endless (k w)
  Endless (Write w p) = Endless p
  Endless (Place p) = Endless p
  Endless (Await m k) = ⊥

  -- a row, and then a program that ends so
  calm_endless : (p : Prog L) (k : Cont L) → Calm p → ((o : Outcome L) → Endless (k o)) → Endless (bind p k)
  calm_endless (End o) k x h = h o
  calm_endless Over k x h = absurd x
  calm_endless (Enter r j) k x h = λ o. calm_endless (j o) k (x o) h
  calm_endless (Make (Console level text) p) k x h = calm_endless p k x h
  calm_endless (Make (Uncaught text) p) k x h = calm_endless p k x h
  calm_endless (Make (Rest jobs) p) k x h = absurd x
  calm_endless (Make (Stopped stop) p) k x h = over_still p k x
  calm_endless (Read j) k x h = λ w. calm_endless (j w) k (x w) h
  calm_endless (Write w p) k x h = calm_endless p k x h
  calm_endless (Place p) k x h = calm_endless p k x h
  calm_endless (Await m j) k x h = absurd x

  abbrev EnterLaw : Entering L → Type 0
  EnterLaw enter = (r : Request L) (k : Cont L) (w : World L) → ((o : Outcome L) → Endless (k o)) → Yields (entries (enter r k w))

  abbrev PlaceLaw : Placing L → Type 0
  PlaceLaw place = (p : Prog L) (w : World L) → Endless p → Yields (entries (place p w))

  -- no delivery comes
  abbrev WaitLaw : Waiting L → Type 0
  WaitLaw wait = (m : Mode) (k : Cont L) (w : World L) → entries (wait m k w) ≡ []

  waiting_none : (done : Ending L) (enter : Entering L) (place : Placing L) (wait : Waiting L) → WaitLaw wait → (w : World L) (p : Prog L) → IsWaiting p → entries (walk done enter place wait w p) ≡ []
  waiting_none done enter place wait d w (Await m k) x = d m k w
  waiting_none done enter place wait d w p x = absurd x

  over_none : (done : Ending L) (enter : Entering L) (place : Placing L) (wait : Waiting L) (w : World L) (p : Prog L) → IsOver p → entries (walk done enter place wait w p) ≡ []
  over_none done enter place wait w Over x = refl
  over_none done enter place wait w p x = absurd x

  walk_yields : (done : Ending L) (enter : Entering L) (place : Placing L) (wait : Waiting L) → EnterLaw enter → PlaceLaw place → WaitLaw wait → (w : World L) (p : Prog L) → Endless p → Yields (entries (walk done enter place wait w p))
  walk_yields done enter place wait b c d w (End o) x = absurd x
  walk_yields done enter place wait b c d w Over x = absurd x
  walk_yields done enter place wait b c d w (Enter r k) x = b r k w x
  walk_yields done enter place wait b c d w (Make (Console level text) p) x = walk_yields done enter place wait b c d w p x
  walk_yields done enter place wait b c d w (Make (Uncaught text) p) x = walk_yields done enter place wait b c d w p x
  walk_yields done enter place wait b c d w (Make (Rest jobs) p) x = (x.0, waiting_none done enter place wait d w p x.1)
  walk_yields done enter place wait b c d w (Make (Stopped stop) p) x = over_none done enter place wait w p x
  walk_yields done enter place wait b c d w (Read k) x = walk_yields done enter place wait b c d w (k w) (x w)
  walk_yields done enter place wait b c d w (Write v p) x = walk_yields done enter place wait b c d v p x
  walk_yields done enter place wait b c d w (Place p) x = c p w x
  walk_yields done enter place wait b c d w (Await m k) x = absurd x

  abbrev EntersLaw : (ℕ → Entering L) → Type 0
  EntersLaw enter = (n : ℕ) → EnterLaw (enter n)

  abbrev WaitsLaw : (ℕ → Waiting L) → Type 0
  WaitsLaw wait = (n : ℕ) → WaitLaw (wait n)

  place_yields : (done : ℕ → Ending L) (enter : ℕ → Entering L) (wait : ℕ → Waiting L) → EntersLaw enter → WaitsLaw wait → (n : ℕ) → PlaceLaw (take_place done enter wait n)
  place_yields done enter wait b d zero p w x = refl
  place_yields done enter wait b d (suc n) p w x =
      walk_yields (done n) (enter n) (take_place done enter wait n) (wait n) (b n) (place_yields done enter wait b d n) (d n) w p x

  go_yields : (done : ℕ → Ending L) (enter : ℕ → Entering L) (wait : ℕ → Waiting L) → EntersLaw enter → WaitsLaw wait → (n : ℕ) (w : World L) (p : Prog L) → Endless p → Yields (entries (go_with done enter wait n w p))
  go_yields done enter wait b d n w p x =
      walk_yields (done n) (enter n) (take_place done enter wait n) (wait n) (b n) (place_yields done enter wait b d n) (d n) w p x

  none_waits : (steps : ℕ) → WaitsLaw (receive [] steps)
  none_waits steps n m k w = refl

  spend_yields : (steps : ℕ) → EntersLaw (spend [] (receive []) steps)
  spend_yields zero n r k w x = refl
  spend_yields (suc steps) n r k w x =
      go_yields (end_with [] steps) (spend [] (receive []) steps) (receive [] steps) (spend_yields steps) (none_waits steps) n w (bind (row r) k) (calm_endless (row r) k (row_calm r) x)

  -- a program that ends with no outcome leaves nothing for what follows it
  waits_still : (p : Prog L) (k : Cont L) → IsWaiting p → IsWaiting (bind p k)
  waits_still (Await m j) k x = tt
  waits_still p k x = absurd x

  bind_endless : (p : Prog L) (k : Cont L) → Endless p → Endless (bind p k)
  bind_endless (End o) k x = absurd x
  bind_endless Over k x = absurd x
  bind_endless (Enter r j) k x = λ o. bind_endless (j o) k (x o)
  bind_endless (Make (Console level text) p) k x = bind_endless p k x
  bind_endless (Make (Uncaught text) p) k x = bind_endless p k x
  bind_endless (Make (Rest jobs) p) k x = (x.0, waits_still p k x.1)
  bind_endless (Make (Stopped stop) p) k x = over_still p k x
  bind_endless (Read j) k x = λ w. bind_endless (j w) k (x w)
  bind_endless (Write w p) k x = bind_endless p k x
  bind_endless (Place p) k x = bind_endless p k x
  bind_endless (Await m j) k x = absurd x

  if_endless : (b : Bool) (p q : Prog L) → Endless p → Endless q → Endless (if b then p else q)
  if_endless true p q x y = x
  if_endless false p q x y = y

  count_endless : (n : ℕ) (p : Prog L) → Endless p → Endless (count_units n p)
  unfolding count_units
  count_endless n p x = λ w. if_endless (nat_lt w.limits.units (w.units + n)) _ _ tt x

  script_end_endless : (o : Outcome L) → Endless (script_end o)
  script_end_endless (Thrown v) = λ w. count_endless _ _ (refl, tt)
  script_end_endless (Normal v) = (refl, tt)
  script_end_endless (Return v) = (refl, tt)
  script_end_endless Break = (refl, tt)
  script_end_endless Continue = (refl, tt)

  load_endless : Endless load_row
  load_endless = λ w o. script_end_endless o

yields_of : (setting : Setting) → Yields (tail_of (alone setting first_load))
unfolding alone alone_by trace_of run
yields_of setting =
    go_yields ℕ (end_with [] setting.limits.steps) (spend [] (receive []) setting.limits.steps) (receive [] setting.limits.steps) (spend_yields ℕ setting.limits.steps) (none_waits ℕ setting.limits.steps)
    setting.limits.places (first_world nat_eq (limited (cells_of setting) (λ n. n)) setting) (bind load_row (λ o. Over)) (bind_endless ℕ load_row (λ o. Over) (load_endless ℕ))

pub yielding : IsYielding
unfolding IsYielding alone alone_by trace_of run
yielding setting = (tail_of (alone setting first_load), refl, yields_of setting)
