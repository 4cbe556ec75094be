use Rattle.std.proofs.Common.{List, ◌-◌, length, drop}
use Rattle.js_tree.specs.declared.node.Node.{Node}
use Rattle.js_semantics.specs.Prog.{Prog}
use Rattle.js_semantics.specs.Iteration.{points_of, push_texts}
use Rattle.js_machine.specs.Does.{Moves}
use Rattle.js_names.specs.Growing.{IsOpen}
use Rattle.js_machine.specs.Closed.{GoesOn, IsClosed}
use Rattle.js_iterate.proofs.filling.push_points.Given as goal

abbrev pub invariant-points : goal.invariant-points
invariant-points l = (
    ((nodes : List Node) (p : Prog _) → Moves nodes (push_texts l.array (points_of l.text) p) l.initial.state (push_texts l.array (points_of (drop l.at l.text)) p) l.state)
    × ((nodes : List Node) → IsClosed nodes l.initial.state → IsOpen l.initial.state.heap.cells l.array → GoesOn nodes l.initial.state l.state)
    )

abbrev pub decreases-points : goal.decreases-points
decreases-points l = length l.text - l.at
