-- How the counts of a heap grow, and which of them would first pass its limit.
use Rattle.std.specs.Prelude.{◌≡◌, ℕ, ◌+◌, ◌∷◌, [], ◌++◌, false, Option, Some, None, Result, Ok, Err, nat_lt, nat_eq, if◌then◌else◌}
use Rattle.world_heap.specs.declared.limits.Counts.{Counts}
use Rattle.world_heap.specs.declared.limits.HeapFault.{HeapFault}
use Rattle.world_heap.specs.declared.limits.HeapFault.TheVariants.{Cells, Places, Units, Memory}
use Rattle.world_heap.specs.declared.limits.Full.{Full}
use Rattle.world_heap.specs.declared.limits.Full.TheVariants.{Places as FullPlaces, Units as FullUnits}
use Rattle.world_heap.specs.declared.cell.Cell.{Cell}
use Rattle.world_heap.specs.Maps.{keys, stands}
use Rattle.world_heap.specs.Shelf.{Apart}
use Rattle.world_heap.specs.Heaps.{places_of, units_of}
use Rattle.world_heap.specs.Views.{Bounds, HeapView}

-- the counts with so many cells, places and units more
abbrev pub grown : Counts → ℕ → ℕ → ℕ → Counts
grown counts cells places units = record { cells = counts.cells + cells; places = counts.places + places; units = counts.units + units }

-- the first count that is above its limit: of cells, then of places, then of units
abbrev pub first_full : Bounds → Counts → Option HeapFault
first_full limits counts = if nat_lt limits.cells counts.cells then Some Cells
    else if nat_lt limits.places counts.places then Some Places
    else if nat_lt limits.units counts.units then Some Units
    else None

-- the first count that is above its limit: of places, then of units
abbrev pub first_passed : Bounds → Counts → Option Full
first_passed limits counts = if nat_lt limits.places counts.places then Some FullPlaces
    else if nat_lt limits.units counts.units then Some FullUnits
    else None

-- the counts after a cell was added
abbrev pub counts_with : Counts → Cell ℕ → Counts
counts_with counts cell = grown counts 1 (places_of cell) (units_of cell)

-- What `add` answers: a location that stood neither in this heap nor in another, where no count would pass its limit,
-- with the cell behind the others; else the first count that would. Memory may run out. After a fault the heap is as
-- it was.
abbrev pub Adds : HeapView → Cell ℕ → Result ℕ HeapFault → HeapView → Type 0
Adds old cell (Ok loc) new = (first_full old.limits (counts_with old.counts cell) ≡ None)
    × (stands nat_eq (keys old.cells) loc ≡ false) × Apart old.others loc
    × (new ≡ record old { cells = old.cells ++ (loc, cell) ∷ []; counts = counts_with old.counts cell })
Adds old cell (Err Cells) new = (first_full old.limits (counts_with old.counts cell) ≡ Some Cells) × (new ≡ old)
Adds old cell (Err Places) new = (first_full old.limits (counts_with old.counts cell) ≡ Some Places) × (new ≡ old)
Adds old cell (Err Units) new = (first_full old.limits (counts_with old.counts cell) ≡ Some Units) × (new ≡ old)
Adds old cell (Err Memory) new = new ≡ old

-- What `grow` answers: the counts with so many places and units more, where none would pass its limit; else the first
-- that would, and the heap is as it was.
abbrev pub Grows : HeapView → ℕ → ℕ → Result (Unit {0}) Full → HeapView → Type 0
Grows old places units (Ok done) new = (first_passed old.limits (grown old.counts 0 places units) ≡ None)
    × (new ≡ record old { counts = grown old.counts 0 places units })
Grows old places units (Err full) new = (first_passed old.limits (grown old.counts 0 places units) ≡ Some full) × (new ≡ old)
