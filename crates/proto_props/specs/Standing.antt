-- Where a search ends.
use Rattle.std.specs.Prelude.{ℕ, List, nat_eq}
use Rattle.world_heap.specs.declared.cell.Cell.{Cell}
use Rattle.world_heap.specs.Heaps.{IsCell}
use Rattle.proto_props.specs.declared.chain.Reach.{Reach}
use Rattle.proto_props.specs.declared.chain.Reach.TheVariants.{Has, Past, Nowhere}

-- a search has ended at a cell of the heap
abbrev pub ReachStands : List (ℕ × Cell ℕ) → Reach ℕ → Type 0
ReachStands cells (Has l) = IsCell nat_eq cells l
ReachStands cells Past = Unit {0}
ReachStands cells Nowhere = Unit {0}
