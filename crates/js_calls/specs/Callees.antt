-- The function that a cell is (ECMA-262, 7.2.3: IsCallable).
use Rattle.std.specs.Prelude.{Option, Some}
use Rattle.world_heap.specs.declared.cell.Cell.{Cell}
use Rattle.world_heap.specs.declared.cell.Cell.TheVariants as cells
use Rattle.js_calls.specs.declared.callee.Callee.{Callee}
use Rattle.js_calls.specs.declared.callee.Callee.TheVariants.{Closure, Native, Other}

unfoldable pub callee_in : {L : Type 0} → Option (Cell L) → Callee L
callee_in (Some (cells.Closure body node env kept)) = Closure node env kept
callee_in (Some (cells.Native body id kept)) = Native id
callee_in other = Other
