use Rattle.js_names.specs.Patterns.{nodes_of}
use Rattle.js_calls.proofs.Meanings.{constructor_fits}
use Rattle.js_calls.proofs.constructing.constructor_of.Goals as goal

pub returns-in-Some-clause-closed : goal.returns-in-Some-clause-closed
returns-in-Some-clause-closed c = rw c.constructor_in.ensures (constructor_fits (nodes_of c.args.tree.now) c.args.heap.now.cells c.in-Some.cell.now c.in-Some.ensures.fits)
