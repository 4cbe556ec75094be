use Rattle.std.proofs.Common.{◌≤◌, []}
use Rattle.js_names.specs.Patterns.{nodes_of}
use Rattle.js_machine.specs.Closed.{GoesOn, IsClosed}
use Rattle.js_machine.specs.Does.{work}
use Rattle.js_step.specs.Resuming.{Makes}
use Rattle.js_step.proofs.resuming.advance.Given as goal

-- Nothing was made so far, and no more work is left than before.
abbrev pub invariant-silent : goal.invariant-silent
invariant-silent l = record {
  makes : Makes (nodes_of l.tree) l.initial.state [] l.state;
  less : work l.state ≤ work l.initial.state;
  closed : IsClosed (nodes_of l.tree) l.initial.state → GoesOn (nodes_of l.tree) l.initial.state l.state;
}

abbrev pub decreases-silent : goal.decreases-silent
decreases-silent l = work l.state
