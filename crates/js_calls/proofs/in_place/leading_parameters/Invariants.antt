use Rattle.std.proofs.Common.{drop, length, slice_get}
use Rattle.js_names.specs.Patterns.{nodes_of}
use Rattle.world_heap.specs.Over.{ListOver}
use Rattle.js_machine.specs.Closed.{GoesOn, IsClosed, ValueFits}
use Rattle.js_machine.specs.Does.{Moves}
use Rattle.js_machine.specs.Frames.{parameters_rest}
use Rattle.js_machine.specs.Parts.{parameters_from}
use Rattle.js_calls.proofs.in_place.leading_parameters.Given as goal

-- The parameters before the place are bound.
abbrev pub invariant-parameters : goal.invariant-parameters
invariant-parameters l = record {
  reaches : Moves (nodes_of l.tree) (parameters_rest (nodes_of l.tree) l.node 0 l.arguments l.scope) l.initial.state (parameters_rest (nodes_of l.tree) l.node l.at l.arguments l.scope) l.state;
  closed : IsClosed (nodes_of l.tree) l.initial.state → ListOver (ValueFits l.initial.state.heap.cells) l.arguments → GoesOn (nodes_of l.tree) l.initial.state l.state;
}

abbrev pub decreases-parameters : goal.decreases-parameters
decreases-parameters l = length (drop l.at (parameters_from (slice_get (nodes_of l.tree) l.node.0)))
