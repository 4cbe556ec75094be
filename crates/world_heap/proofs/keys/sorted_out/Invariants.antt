use Rattle.std.proofs.Common.{◌≡◌, take}
use Rattle.std.specs.Map.{keys_of}
use Rattle.world_heap.specs.Keys.{indices_of, others_of}
use Rattle.world_heap.proofs.keys.sorted_out.Given as goal

abbrev pub invariant-names : goal.invariant-names
invariant-names l = record {
  indices : l.indices.items ≡ indices_of (take l.at (keys_of l.table));
  others : l.others.items ≡ others_of (take l.at (keys_of l.table));
}
