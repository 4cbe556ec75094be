use Rattle.std.proofs.Common.{◌≡◌}
use Rattle.heap_times.proofs.work.fill.Given as goal

abbrev pub invariant-cells : goal.invariant-cells
invariant-cells l = record {
  others : l.heap.others ≡ l.initial.heap.others;
  given : l.heap.given ≡ l.initial.heap.given;
}
