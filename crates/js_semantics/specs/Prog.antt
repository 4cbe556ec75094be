-- A row in steps: what it asks for, with what it does with each answer (ECMA-262, 5.2.3 and 6.2.4: completions).
use Rattle.std.specs.Prelude.{ℕ, [], ◌∷◌, ◌++◌, ◌+◌, zero, suc, nat_lt, if◌then◌else◌, length, Bool, true, false, List, Option, Some, None, codes}
use Rattle.js_tree.specs.declared.node.NodeId.{NodeId}
use Rattle.parcel.specs.declared.parcel.ErrorKind.{ErrorKind}
use Rattle.world_heap.specs.declared.value.Value.{Value}
use Rattle.world_heap.specs.declared.value.Value.TheVariants.{Undefined, Str, Ref}
use Rattle.world_heap.specs.declared.value.Property.TheVariants.{Data}
use Rattle.world_heap.specs.declared.cell.Cell.{Cell}
use Rattle.world_heap.specs.declared.cell.Cell.TheVariants.{Error}
use Rattle.world_heap.specs.Heaps.{places_of}
use Rattle.js_semantics.specs.declared.fault.Fault.{Fault}
use Rattle.js_semantics.specs.declared.fault.Fault.TheVariants.{TooLong}
use Rattle.world_log.specs.declared.entry.Stop.{Stop}
use Rattle.world_log.specs.declared.entry.Stop.TheVariants.{Cells, Units}
use Rattle.js_semantics.specs.declared.mode.Mode.{Mode}
use Rattle.world_log.specs.declared.entry.Product.{Product}
use Rattle.world_log.specs.declared.entry.Product.TheVariants.{Stopped}
use Rattle.js_semantics.specs.declared.scope.Scope.{Scope}
use Rattle.js_semantics.specs.declared.outcome.Outcome.{Outcome}
use Rattle.js_semantics.specs.declared.outcome.Outcome.TheVariants.{Normal, Return, Break, Continue, Thrown}
use Rattle.js_semantics.specs.World.{World, built_in}
use Rattle.js_semantics.specs.Faults.{kind_of, message_of, kind_number, prototype_of_kind}

-- What may be entered for a step. Each but the first, the script and a call is a node that is entered.
pub data Request (L : Type 0) : Type 0 where
  -- a node that has no row of its own where it stands, as the target of an assignment
  Step : Request L
  Script : (node : NodeId) → Request L
  Node : (node : NodeId) (scope : Scope L) → Request L
  -- a pattern, with the value that is bound to it
  Bind : (node : NodeId) (value : Value L) (scope : Scope L) → Request L
  -- a member of an object literal, with the object
  Member : (node : NodeId) (object : L) (scope : Scope L) → Request L
  -- the test of a loop, and then its turn
  While : (test body : NodeId) (scope : Scope L) → Request L
  -- the body of a loop, and then its test
  DoWhile : (body test : NodeId) (scope : Scope L) → Request L
  -- the test of a loop, or its body where it has no test; with a new environment for each turn where `copied` says so
  For : (copied : Bool) (test next : Option NodeId) (body : NodeId) (scope : Scope L) → Request L
  -- the pattern for one item of an array, then the body, then the items after it
  ForOf : (constant : Bool) (bind body : NodeId) (array : L) (place : ℕ) (item : Value L) (turn around : Scope L) → Request L
  -- a call of a built-in function
  Native : (id : ℕ) (receiver : Value L) (arguments : List (Value L)) → Request L

pub data Prog (L : Type 0) : Type 0 where
  -- the end, with an outcome
  End : Outcome L → Prog L
  -- the world has stopped
  Over : Prog L
  -- takes a step, and goes on with the outcome of the request
  Enter : Request L → (Outcome L → Prog L) → Prog L
  -- makes a product
  Make : Product → Prog L → Prog L
  Read : (World L → Prog L) → Prog L
  Write : World L → Prog L → Prog L
  -- counts a place
  Place : Prog L → Prog L
  -- waits for deliveries, and goes on with the outcome of the call out
  Await : Mode → (Outcome L → Prog L) → Prog L

-- what is done with an outcome
abbrev pub Cont : Type 0 → Type 0
Cont L = Outcome L → Prog L

module _ {L : Type 0} where
  -- one program, and then what is done with its outcome
  abbrev pub bind : Prog L → Cont L → Prog L
  bind (End o) k = k o
  bind Over k = Over
  bind (Enter r j) k = Enter r (λ o. bind (j o) k)
  bind (Make e p) k = Make e (bind p k)
  bind (Read j) k = Read (λ w. bind (j w) k)
  bind (Write w p) k = Write w (bind p k)
  bind (Place p) k = Place (bind p k)
  bind (Await m j) k = Await m (λ o. bind (j o) k)

  -- goes on with a value; anything else passes
  abbrev pub on_value : (Value L → Prog L) → Cont L
  on_value k (Normal v) = k v
  on_value k (Return v) = End (Return v)
  on_value k Break = End Break
  on_value k Continue = End Continue
  on_value k (Thrown v) = End (Thrown v)

  -- ends with a value
  abbrev pub give : Value L → Prog L
  give v = End (Normal v)

  -- ends a statement
  abbrev pub done : Prog L
  done = End (Normal Undefined)

  -- the value of a node
  abbrev pub eval : NodeId → Scope L → (Value L → Prog L) → Prog L
  eval node scope k = Enter (Node node scope) (λ o. on_value k o)

  -- the step of a node whose parts are evaluated by the row around it
  abbrev pub step : Prog L → Prog L
  step p = Enter Step (λ o. p)

  -- the world stops for good
  abbrev pub halt : Stop → Prog L
  halt stop = Make (Stopped stop) Over

  -- counts so many places
  abbrev pub count_places : ℕ → Prog L → Prog L
  count_places zero p = p
  count_places (suc n) p = Place (count_places n p)

  -- counts so many units; stops where the count would pass its limit
  unfoldable pub count_units : ℕ → Prog L → Prog L
  count_units n p = Read (λ w. if nat_lt w.limits.units (w.units + n) then halt Units else Write (record w { units = w.units + n }) p)

  -- the world with one cell more
  abbrev pub with_new : L → Cell L → World L → World L
  with_new loc cell w = record w { heap = w.heap ++ (loc, cell) ∷ [] }

  -- a cell at its location, or a stop where there are as many as may be
  abbrev pub placed : Option L → Cell L → (L → Prog L) → Prog L
  placed None cell k = halt Cells
  placed (Some loc) cell k = count_places (places_of cell) (Read (λ w. Write (with_new loc cell w) (k loc)))

  -- makes a cell, with its places, and goes on with its location
  unfoldable pub alloc : Cell L → (L → Prog L) → Prog L
  alloc cell k = Read (λ w. placed (w.supply (length w.heap)) cell k)

  -- changes the world
  abbrev pub change : (World L → World L) → Prog L → Prog L
  change f p = Read (λ w. Write (f w) p)

  -- an error with its message, which isn't enumerable (ECMA-262, 20.5.1.1)
  abbrev pub error_cell : ErrorKind → Option (List ℕ) → World L → Cell L
  error_cell kind None w = Error (record { proto = built_in (prototype_of_kind kind) w; properties = []; extensible = true }) (kind_number kind)
  error_cell kind (Some message) w =
      Error (record { proto = built_in (prototype_of_kind kind) w; properties = (codes "message", Data (Str message) true false true) ∷ []; extensible = true }) (kind_number kind)

  -- makes an error
  abbrev pub make_error : ErrorKind → Option (List ℕ) → (L → Prog L) → Prog L
  make_error kind message k = Read (λ w. alloc (error_cell kind message w) k)

  -- throws an error of the language
  unfoldable pub throw : Fault → Prog L
  throw fault = make_error (kind_of fault) (Some (message_of fault)) (λ loc. End (Thrown (Ref loc)))

  -- A string that is made counts its units; one that would be longer than a string may be is an error.
  unfoldable pub make_text : List ℕ → (Value L → Prog L) → Prog L
  make_text text k = if nat_lt 1_048_576 (length text) then throw TooLong else count_units (length text) (k (Str text))
