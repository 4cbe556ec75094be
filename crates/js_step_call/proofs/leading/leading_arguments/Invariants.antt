use Rattle.std.proofs.Common.{drop, length}
use Rattle.js_names.specs.Patterns.{nodes_of}
use Rattle.world_heap.specs.Over.{ListOver}
use Rattle.js_machine.specs.Closed.{GoesOn, IsClosed, ScopeFits, ValueFits}
use Rattle.js_step_call.specs.Leading.{Reaches}
use Rattle.js_step_call.proofs.leading.leading_arguments.Given as goal

-- The arguments before the place are evaluated.
abbrev pub invariant-leading : goal.invariant-leading
invariant-leading l = record {
  reaches : Reaches (nodes_of l.tree) l.fn.node l.scope l.initial.state l.at l.before l.state;
  closed : IsClosed (nodes_of l.tree) l.initial.state → ScopeFits (nodes_of l.tree) l.initial.state.heap.cells l.scope → GoesOn (nodes_of l.tree) l.initial.state l.state × ListOver (ValueFits l.state.heap.cells) l.before;
}

abbrev pub decreases-leading : goal.decreases-leading
decreases-leading l = length (drop l.at l.list)
