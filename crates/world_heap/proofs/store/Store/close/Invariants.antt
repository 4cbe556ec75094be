use Rattle.std.proofs.Common.{◌≡◌, ◌++◌, length}
use Rattle.world_heap.specs.Stored.{IsHeld, IsDistinct, IsMarked, all_own, owners, maps}
use Rattle.world_heap.proofs.store.Store.close.Given as goal

abbrev pub invariant-values : goal.invariant-values
invariant-values g l = record {
  held : IsHeld l.self-inside.chunks (l.region.own ++ all_own l.self-inside.regions.items);
  distinct : IsDistinct (owners l.self-inside.regions.items);
  kept : maps l.self-inside.chunks l.self-inside.regions.items ≡ maps l.initial.self-inside.chunks l.initial.self-inside.regions.items;
  marks : IsMarked l.self-inside.chunks l.self-inside.marks.items l.self-inside.regions.items;
}

abbrev pub decreases-values : goal.decreases-values
decreases-values g l = length l.region.own
