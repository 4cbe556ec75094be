use Rattle.js_names.specs.Patterns.{nodes_of}
use Rattle.js_machine.specs.Closed.{GoesOn, IsClosed}
use Rattle.js_machine.specs.Does.{work}
use Rattle.js_step.specs.Resuming.{MakesBehind}
use Rattle.js_step.proofs.resuming.resume.Given as goal

abbrev pub invariant-turns : goal.invariant-turns
invariant-turns l = record {
  makes : MakesBehind (nodes_of l.tree) l.initial.state l.initial.out.items l.out.items l.state;
  closed : IsClosed (nodes_of l.tree) l.initial.state → GoesOn (nodes_of l.tree) l.initial.state l.state;
}

abbrev pub decreases-turns : goal.decreases-turns
decreases-turns l = work l.state
