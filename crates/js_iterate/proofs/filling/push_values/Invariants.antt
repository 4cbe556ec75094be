use Rattle.std.proofs.Common.{List, drop}
use Rattle.js_tree.specs.declared.node.Node.{Node}
use Rattle.js_semantics.specs.Prog.{Prog}
use Rattle.js_semantics.specs.Iteration.{push_items}
use Rattle.js_machine.specs.Does.{Moves}
use Rattle.world_heap.specs.Over.{ListOver}
use Rattle.js_names.specs.Growing.{IsOpen}
use Rattle.js_machine.specs.Closed.{GoesOn, IsClosed, ValueFits}
use Rattle.js_iterate.proofs.filling.push_values.Given as goal

abbrev pub invariant-values : goal.invariant-values
invariant-values l = (
    ((nodes : List Node) (p : Prog _) → Moves nodes (push_items l.array l.values p) l.initial.state (push_items l.array (drop l.value-index l.values) p) l.state)
    × ((nodes : List Node) → IsClosed nodes l.initial.state → IsOpen l.initial.state.heap.cells l.array → ListOver (ValueFits l.initial.state.heap.cells) l.values → GoesOn nodes l.initial.state l.state)
    )
