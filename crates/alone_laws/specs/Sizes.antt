-- How many cells a world has made.
use Rattle.std.specs.Prelude.{◌≡◌, ℕ, List, length}
use Rattle.js_semantics.specs.Run.{Arrival, Setting, Trace, Then, Ended, Cut}
use Rattle.js_semantics.specs.Alone.{IsDistinctSupply, alone_by, cells_of}

-- how many cells there are at the end of what comes
abbrev pub cells_at_end : {L : Type 0} → Trace L → ℕ
cells_at_end (Then e t) = cells_at_end t
cells_at_end (Ended o w b ds) = length w.heap
cells_at_end (Cut w) = length w.heap

-- how many cells a world alone has after its deliveries, those that are built in among them
unfoldable pub alone_cells : Setting → List Arrival → ℕ
alone_cells setting ds = cells_at_end (alone_by (λ n. n) setting ds)

-- There are so many for every supply of distinct locations.
unfoldable pub IsOneSize : Type 0
IsOneSize = (supply : ℕ → ℕ) (setting : Setting) (ds : List Arrival) → IsDistinctSupply (cells_of setting) supply → cells_at_end (alone_by supply setting ds) ≡ alone_cells setting ds
