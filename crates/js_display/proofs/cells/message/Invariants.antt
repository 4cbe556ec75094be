use Rattle.std.proofs.Common.{◌≡◌, drop, codes}
use Rattle.world_heap.specs.Table.{found_under}
use Rattle.js_display.proofs.cells.message.Given as goal

abbrev pub invariant-names : goal.invariant-names
invariant-names l = found_under (drop l.at l.properties) (codes "message") ≡ found_under l.properties (codes "message")
