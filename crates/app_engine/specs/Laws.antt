-- The laws of the log, and what they stand on.
use Rattle.std.specs.Prelude.{◌≡◌, ◌↔◌, List, [], ◌∷◌, ◌++◌}
use Rattle.world_log.specs.declared.entry.Product.TheVariants.{Console, Uncaught, Rest, Stopped}
use Rattle.world_log.specs.declared.entry.Entry.{Entry}
use Rattle.world_log.specs.declared.entry.Entry.TheVariants.{Delivery, Product}
use Rattle.world_log.specs.declared.entry.LogItem.{LogItem}
use Rattle.js_semantics.specs.Run.{Arrival, Setting}
use Rattle.js_semantics.specs.Alone.{alone}
use Rattle.app_engine.specs.Log.{Application, Lawful, deliveries, first_load, load, log_of}

-- entries that are none, or begin with a delivery
abbrev pub BeginsByDelivery : List Entry → Type 0
BeginsByDelivery [] = Unit {0}
BeginsByDelivery (Delivery fresh what ∷ entries) = Unit {0}
BeginsByDelivery (Product what ∷ entries) = ⊥

-- Further deliveries only add at the end, from the next delivery on; where all are taken, the first ones are.
pub record Causal (make : List Arrival → List Entry) : Type 0 where
  pub adds : (ds more : List Arrival) → (rest : List Entry) × (make (ds ++ more) ≡ make ds ++ rest) × BeginsByDelivery rest
  pub takes : (ds more : List Arrival) → deliveries (make (ds ++ more)) ≡ ds ++ more → deliveries (make ds) ≡ ds

unfoldable pub IsCausal : Type 0
IsCausal = (setting : Setting) → Causal (alone setting)

-- products up to a yield, which comes last: a rest with no job that waits, or a stop
abbrev pub Yields : List Entry → Type 0
Yields [] = ⊥
Yields (Delivery fresh what ∷ entries) = ⊥
Yields (Product (Console level text) ∷ entries) = Yields entries
Yields (Product (Uncaught text) ∷ entries) = Yields entries
Yields (Product (Rest jobs) ∷ entries) = (jobs ≡ 0) × (entries ≡ [])
Yields (Product (Stopped stop) ∷ entries) = entries ≡ []

-- a world takes its load, and makes products up to a yield
unfoldable pub IsYielding : Type 0
IsYielding = (setting : Setting) → (products : List Entry) × (alone setting first_load ≡ load ∷ products) × Yields products

-- There is one lawful log, which is that by recursion.
unfoldable pub IsOnlyLog : Type 0
IsOnlyLog = (app : Application) (log : List LogItem) → Lawful app log ↔ (log ≡ log_of app)
