-- What contracts see of a heap, of a pool of heaps, and of a heap that is away from its pool.
use Rattle.std.specs.Prelude.{◌≡◌, ℕ, ◌+◌, ◌<◌, ◌≤◌, List, length, nat_eq}
use Rattle.world_heap.specs.declared.limits.Counts.{Counts}
use Rattle.world_heap.specs.declared.cell.Cell.{Cell}
use Rattle.world_heap.specs.Maps.{keys, Stands}
use Rattle.world_heap.specs.Shelf.{values_of}
use Rattle.world_heap.specs.Over.{ListOver}
use Rattle.world_heap.specs.Heaps.{IsWell}

-- the limits of a world
pub record Bounds : Type 0 where
  pub steps : ℕ
  pub cells : ℕ
  pub places : ℕ
  pub units : ℕ
  pub depth : ℕ

-- the heaps of all worlds: each owner with its cells, and how many owner numbers were given out
pub record PoolView : Type 0 where
  pub maps : List (ℕ × List (ℕ × Cell ℕ))
  pub given : ℕ

-- a heap away from its pool: its owner number, and its counts, limits and number of built-in cells
pub record SeatView : Type 0 where
  pub owner : ℕ
  pub counts : Counts
  pub limits : Bounds
  pub base : ℕ

-- A heap: its cells in the order in which they were made, each with its location; the heaps of the other owners; its
-- counts and limits; how many of its cells are built in; and how many owner numbers its pool has given out.
pub record HeapView : Type 0 where
  pub owner : ℕ
  pub cells : List (ℕ × Cell ℕ)
  pub others : List (ℕ × List (ℕ × Cell ℕ))
  pub counts : Counts
  pub limits : Bounds
  pub base : ℕ
  pub given : ℕ

-- no count is above its limit, and the built-in cells are at most 1,024
pub record IsCounted (counts : Counts) (limits : Bounds) (base : ℕ) : Type 0 where
  pub cells : counts.cells ≤ limits.cells
  pub places : counts.places ≤ limits.places
  pub units : counts.units ≤ limits.units
  pub built_in : base ≤ 1024

-- each owner number was given out, and each heap is well
pub record IsPooled (maps : List (ℕ × List (ℕ × Cell ℕ))) (given : ℕ) : Type 0 where
  pub below : ListOver (λ m. m.0 < given) maps
  pub wells : ListOver (λ m. IsWell nat_eq m.1) maps

-- the owner has a heap with the cells that are counted and those that are built in
pub record IsOwned (maps : List (ℕ × List (ℕ × Cell ℕ))) (owner : ℕ) (counts : Counts) (base : ℕ) : Type 0 where
  pub stands : Stands (keys maps) owner
  pub counted : length (values_of maps owner) ≡ base + counts.cells
