-- A new heap.
use Rattle.std.specs.Prelude.{◌≡◌, ℕ, ◌+◌, List, [], ◌++◌, length}
use Rattle.world_heap.specs.declared.cell.Cell.{Cell}
use Rattle.world_heap.specs.BuiltIns.{AreBuiltIn}
use Rattle.world_heap.specs.Views.{Bounds, PoolView, HeapView}

-- a heap without cells, under the next owner number of the pool
abbrev pub empty_heap : Bounds → PoolView → HeapView
empty_heap limits pool = record {
  owner = pool.given;
  cells = [];
  others = pool.maps;
  counts = record { cells = 0; places = 0; units = 0 };
  limits = limits;
  base = 0;
  given = pool.given + 1;
}

-- a heap with built-in cells more, which aren't counted
abbrev pub with_built_in : HeapView → List (ℕ × Cell ℕ) → HeapView
with_built_in heap more = record heap { cells = heap.cells ++ more; base = heap.base + length more }

-- a heap that has the built-in cells alone
abbrev pub IsNew : Bounds → PoolView → HeapView → Type 0
IsNew limits pool heap = (cells : List (ℕ × Cell ℕ)) × AreBuiltIn cells × (heap ≡ with_built_in (empty_heap limits pool) cells)
