use Rattle.std.proofs.Common.{◌≤◌}
use Rattle.app_engine.proofs.Tasks.{SoFar, still_left}
use Rattle.app_engine.proofs.running.run_task.Given as goal

-- The lines of what was made so far were written, and the next product is made.
abbrev pub invariant-lines : goal.invariant-lines
invariant-lines g l = record {
  sofar : SoFar l.name (record { fresh = l.fn.fresh; what = l.fn.what }) l.fn.world l.fn.pool (g.K.Sink.taken l.fn.sink) l.made l.stopped l.world l.now (g.K.Sink.taken l.sink);
  later : g.K.Sink.faults l.fn.sink ≤ g.K.Sink.faults l.sink;
}

abbrev pub decreases-lines : goal.decreases-lines
decreases-lines g l = still_left l.made l.world
