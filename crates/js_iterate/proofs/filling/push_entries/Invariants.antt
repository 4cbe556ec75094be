use Rattle.std.proofs.Common.{List, drop}
use Rattle.js_tree.specs.declared.node.Node.{Node}
use Rattle.js_semantics.specs.Prog.{Prog}
use Rattle.js_semantics.specs.Iteration.{push_entries}
use Rattle.js_machine.specs.Does.{Moves}
use Rattle.world_heap.specs.Over.{ListOver}
use Rattle.js_names.specs.Growing.{IsOpen}
use Rattle.js_machine.specs.Closed.{GoesOn, IsClosed}
use Rattle.js_iterate.specs.Closed.{EntryFits}
use Rattle.js_iterate.proofs.filling.push_entries.Given as goal

abbrev pub invariant-entries : goal.invariant-entries
invariant-entries l = (
    ((nodes : List Node) (p : Prog _) → Moves nodes (push_entries l.array l.entries p) l.initial.state (push_entries l.array (drop l.entry-index l.entries) p) l.state)
    × ((nodes : List Node) → IsClosed nodes l.initial.state → IsOpen l.initial.state.heap.cells l.array → ListOver (EntryFits l.initial.state.heap.cells) l.entries → GoesOn nodes l.initial.state l.state)
    )
