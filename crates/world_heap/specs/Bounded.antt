-- The limits of a world as numbers.
use Rattle.world_heap.specs.declared.limits.Limits.{Limits}
use Rattle.world_heap.specs.Views.{Bounds}

abbrev pub bounds_of : Limits → Bounds
bounds_of limits = record { steps = limits.steps; cells = limits.cells; places = limits.places; units = limits.units; depth = limits.depth }
