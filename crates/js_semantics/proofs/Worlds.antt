-- Worlds with given limits, and what they make.
use Rattle.std.specs.Prelude.{ℕ, ◌-◌, List, [], ◌∷◌, true}
use Rattle.world_kind.specs.declared.WorldKind.{WorldKind}
use Rattle.world_log.specs.declared.entry.Level.{Level}
use Rattle.world_log.specs.declared.entry.Level.TheVariants.{Log}
use Rattle.js_tree.specs.declared.node.NodeId.{NodeId}
use Rattle.js_tree.specs.declared.node.Node as nodes
use Rattle.world_log.specs.declared.entry.Delivery.TheVariants.{Load}
use Rattle.world_log.specs.declared.entry.Entry.{Entry}
use Rattle.world_log.specs.declared.entry.Entry.TheVariants as entry
use Rattle.world_log.specs.declared.entry.Product.TheVariants.{Console, Uncaught, Rest, Stopped}
use Rattle.world_log.specs.declared.entry.Stop.TheVariants.{Fuel, Cells, Places, Units}
use Rattle.js_semantics.specs.Alone.{alone}

-- the node with a number
abbrev pub n : ℕ → NodeId
n number = record { 0 = number }

-- what a world makes of its script with so many steps, cells, places and units, after the delivery
abbrev pub behind_load : List Entry → List Entry
behind_load [] = []
behind_load (delivery ∷ products) = products

abbrev pub made : (kind : WorldKind) (steps cells places units : ℕ) → List nodes.Node → List Entry
made kind steps cells places units tree =
    behind_load (alone (record { kind = kind; limits = record { steps = steps; cells = cells; places = places; units = units; depth = 5 }; tree = tree }) (record { fresh = true; what = Load } ∷ []))

-- what it makes at these limits, and with one step, cell, place or unit less
abbrev pub at_limits : (kind : WorldKind) (steps cells places units : ℕ) → List nodes.Node → List (List Entry)
at_limits kind steps cells places units tree =
    made kind steps cells places units tree ∷ made kind (steps - 1) cells places units tree ∷ made kind steps (cells - 1) places units tree ∷ made kind steps cells (places - 1) units tree ∷ made kind steps cells places (units - 1) tree ∷ []

abbrev pub leveled : Level → List ℕ → Entry
leveled level text = entry.Product (Console level text)

abbrev pub logged : List ℕ → Entry
logged text = entry.Product (Console Log text)

abbrev pub thrown : List ℕ → Entry
thrown text = entry.Product (Uncaught text)

abbrev pub rest : Entry
rest = entry.Product (Rest 0)

abbrev pub fuel : Entry
fuel = entry.Product (Stopped Fuel)

abbrev pub cells : Entry
cells = entry.Product (Stopped Cells)

abbrev pub places : Entry
places = entry.Product (Stopped Places)

abbrev pub units : Entry
units = entry.Product (Stopped Units)
