-- What programs make: lines of the console, and a stop with nothing behind it.
use Rattle.std.proofs.Common.{◌≡◌, ℕ, zero, suc, List, length, Bool, true, false, Option, Some, None}
use Rattle.std.specs.Prelude.{if◌then◌else◌, nat_lt, ◌+◌}
use Rattle.parcel.specs.declared.parcel.ErrorKind.{ErrorKind}
use Rattle.world_heap.specs.declared.value.Value.{Value}
use Rattle.world_heap.specs.declared.value.Value.TheVariants.{Str}
use Rattle.world_heap.specs.declared.cell.Cell.{Cell}
use Rattle.world_heap.specs.Heaps.{places_of}
use Rattle.world_log.specs.declared.entry.Product.TheVariants.{Console, Uncaught, Rest, Stopped}
use Rattle.js_semantics.specs.declared.fault.Fault.{Fault}
use Rattle.js_semantics.specs.declared.fault.Fault.TheVariants.{TooLong}
use Rattle.js_semantics.specs.Faults.{kind_of, message_of}
use Rattle.js_semantics.specs.declared.outcome.Outcome.{Outcome}
use Rattle.js_semantics.specs.declared.outcome.Outcome.TheVariants.{Normal, Return, Break, Continue, Thrown}
use Rattle.js_semantics.specs.World.{World}
use Rattle.js_semantics.specs.Prog.{Prog, Cont, End, Over, Enter, Make, Read, Write, Place, Await, bind, on_value, count_places, count_units, placed, alloc, make_error, throw, make_text}

module _ {L : Type 0} where
  abbrev pub IsOver : Prog L → Type 0
  IsOver Over = Unit {0}
  IsOver p = ⊥

  -- what is asked of a world in which a program goes on: nothing, or that its script was loaded
  abbrev pub Meets : Bool → World L → Type 0
  Meets asked w = asked ≡ true → w.loaded ≡ true

  -- A program makes lines of the console and values that nothing caught; after a rest comes what may come there, and after
  -- a stop nothing. It ends with such outcomes alone, and leaves a world such as it was asked to be.
  abbrev pub Orderly : Bool → (Outcome L → Type 0) → (Prog L → Type 0) → Prog L → Type 0
  Orderly asked E W (End o) = E o
  Orderly asked E W Over = ⊥
  Orderly asked E W (Enter r k) = (o : Outcome L) → Orderly asked E W (k o)
  Orderly asked E W (Make (Console level text) p) = Orderly asked E W p
  Orderly asked E W (Make (Uncaught text) p) = Orderly asked E W p
  Orderly asked E W (Make (Rest jobs) p) = W p
  Orderly asked E W (Make (Stopped stop) p) = IsOver p
  Orderly asked E W (Read k) = (w : World L) → Meets asked w → Orderly asked E W (k w)
  Orderly asked E W (Write w p) = Meets asked w × Orderly asked E W p
  Orderly asked E W (Place p) = Orderly asked E W p
  Orderly asked E W (Await m k) = ⊥

  -- an orderly program that makes no rest, and may end with any outcome
  abbrev pub Steady : Bool → Prog L → Type 0
  Steady asked p = Orderly asked (λ o. Unit {0}) (λ q. ⊥) p

  abbrev pub SteadyFor : Bool → {A : Type 0} → (A → Prog L) → Type 0
  SteadyFor asked {A} k = (a : A) → Steady asked (k a)

  -- the same where nothing is asked of a world
  abbrev pub Calm : Prog L → Type 0
  Calm (End o) = Unit {0}
  Calm Over = ⊥
  Calm (Enter r k) = (o : Outcome L) → Calm (k o)
  Calm (Make (Console level text) p) = Calm p
  Calm (Make (Uncaught text) p) = Calm p
  Calm (Make (Rest jobs) p) = ⊥
  Calm (Make (Stopped stop) p) = IsOver p
  Calm (Read k) = (w : World L) → Calm (k w)
  Calm (Write w p) = Calm p
  Calm (Place p) = Calm p
  Calm (Await m k) = ⊥

  -- no world is asked for anything
  pub none_asked : (w : World L) → Meets false w
  none_asked w e = absurd (cc)

  pub steady_calm : (p : Prog L) → Steady false p → Calm p
  steady_calm (End o) x = tt
  steady_calm Over x = x
  steady_calm (Enter r k) x = λ o. steady_calm (k o) (x o)
  steady_calm (Make (Console level text) p) x = steady_calm p x
  steady_calm (Make (Uncaught text) p) x = steady_calm p x
  steady_calm (Make (Rest jobs) p) x = x
  steady_calm (Make (Stopped stop) p) x = x
  steady_calm (Read k) x = λ w. steady_calm (k w) (x w (none_asked w))
  steady_calm (Write w p) x = steady_calm p x.1
  steady_calm (Place p) x = steady_calm p x
  steady_calm (Await m k) x = x

  pub over_still : (p : Prog L) (k : Cont L) → IsOver p → IsOver (bind p k)
  over_still Over k x = tt
  over_still p k x = absurd x

module _ {L : Type 0} (asked : Bool) where
  pub if_steady : (b : Bool) (p q : Prog L) → Steady asked p → Steady asked q → Steady asked (if b then p else q)
  if_steady true p q x y = x
  if_steady false p q x y = y

  pub on_value_steady : (k : Value L → Prog L) → SteadyFor asked k → (o : Outcome L) → Steady asked (on_value k o)
  on_value_steady k h (Normal v) = h v
  on_value_steady k h (Return v) = tt
  on_value_steady k h Break = tt
  on_value_steady k h Continue = tt
  on_value_steady k h (Thrown v) = tt

  pub count_places_steady : (n : ℕ) (p : Prog L) → Steady asked p → Steady asked (count_places n p)
  count_places_steady zero p h = h
  count_places_steady (suc n) p h = count_places_steady n p h

  pub count_units_steady : (n : ℕ) (p : Prog L) → Steady asked p → Steady asked (count_units n p)
  unfolding count_units
  count_units_steady n p h = λ w l. if_steady (nat_lt w.limits.units (w.units + n)) _ _ tt (l, h)

  placed_steady : (at : Option L) (cell : Cell L) (k : L → Prog L) → SteadyFor asked k → Steady asked (placed at cell k)
  placed_steady None cell k h = tt
  placed_steady (Some loc) cell k h = count_places_steady (places_of cell) _ (λ w l. (l, h loc))

  pub alloc_steady : (cell : Cell L) (k : L → Prog L) → SteadyFor asked k → Steady asked (alloc cell k)
  unfolding alloc
  alloc_steady cell k h = λ w l. placed_steady (w.supply (length w.heap)) cell k h

  pub make_error_steady : (kind : ErrorKind) (message : Option (List ℕ)) (k : L → Prog L) → SteadyFor asked k → Steady asked (make_error kind message k)
  make_error_steady kind message k h = λ w l. alloc_steady _ k h

pub throw_steady : (L : Type 0) (asked : Bool) (fault : Fault) → Steady {L = L} asked (throw fault)
unfolding throw
throw_steady L asked fault = make_error_steady asked (kind_of fault) (Some (message_of fault)) _ (λ loc. tt)

module _ {L : Type 0} (asked : Bool) where
  pub make_text_steady : (text : List ℕ) (k : Value L → Prog L) → SteadyFor asked k → Steady asked (make_text text k)
  unfolding make_text
  make_text_steady text k h = if_steady asked (nat_lt 1_048_576 (length text)) _ _ (throw_steady L asked TooLong) (count_units_steady asked (length text) _ (h (Str text)))

  -- one program, and then what is done with its outcome
  pub bind_orderly : (E : Outcome L → Type 0) (W : Prog L → Type 0) (p : Prog L) (k : Cont L) → Steady asked p → ((o : Outcome L) → Orderly asked E W (k o)) → Orderly asked E W (bind p k)
  bind_orderly E W (End o) k x h = h o
  bind_orderly E W Over k x h = absurd x
  bind_orderly E W (Enter r j) k x h = λ o. bind_orderly E W (j o) k (x o) h
  bind_orderly E W (Make (Console level text) p) k x h = bind_orderly E W p k x h
  bind_orderly E W (Make (Uncaught text) p) k x h = bind_orderly E W p k x h
  bind_orderly E W (Make (Rest jobs) p) k x h = absurd x
  bind_orderly E W (Make (Stopped stop) p) k x h = over_still p k x
  bind_orderly E W (Read j) k x h = λ w l. bind_orderly E W (j w) k (x w l) h
  bind_orderly E W (Write w p) k x h = (x.0, bind_orderly E W p k x.1 h)
  bind_orderly E W (Place p) k x h = bind_orderly E W p k x h
  bind_orderly E W (Await m j) k x h = absurd x

  pub bind_steady : (p : Prog L) (k : Cont L) → Steady asked p → ((o : Outcome L) → Steady asked (k o)) → Steady asked (bind p k)
  bind_steady p k x h = bind_orderly (λ o. Unit {0}) (λ q. ⊥) p k x h

pub ruleset steady = (tt, if_steady, on_value_steady, count_places_steady, count_units_steady, alloc_steady, make_error_steady, throw_steady, make_text_steady)
