-- A body without its properties.
use Rattle.std.specs.Prelude.{[]}
use Rattle.world_heap.specs.declared.cell.Body.{Body}

abbrev pub bare : {L : Type 0} → Body L → Body L
bare b = record b { properties = [] }
