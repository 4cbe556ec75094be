use Rattle.world_heap.proofs.Wells.{found_stands}
use Rattle.world_heap.specs.Maps.{find-stands}
use Rattle.js_machine.proofs.fitting.is_cell.Goals as goal

pub returns-in-Some-clause-fits : goal.returns-in-Some-clause-fits
returns-in-Some-clause-fits c = λ yes. found_stands c.args.heap.now.cells c.args.loc _ c.in-Some.ensures.found

pub returns-in-None-clause-only : goal.returns-in-None-clause-only
returns-in-None-clause-only c stands = let found = find-stands c.args.heap.now.cells c.args.loc stands in absurd (cc (found.1, c.in-None.ensures.found))
