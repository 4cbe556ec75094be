use Rattle.std.proofs.Common.{◌≡◌, ℕ, List, length, nat_eq}
use Rattle.world_heap.specs.Heaps.{IsNoEnv}
use Rattle.world_heap.specs.BuiltIns.{objects}
use Rattle.world_heap.specs.Starting.{with_built_in}
use Rattle.world_heap.proofs.heap.Heap.add_objects.Given as goal

abbrev pub invariant-objects : goal.invariant-objects
invariant-objects l = record {
  added : (locs : List ℕ) × (length locs ≡ l._done) × (l.self ≡ with_built_in l.initial.self (objects l.proto locs));
  kept : (loc : ℕ) → IsNoEnv nat_eq l.initial.self.cells loc → IsNoEnv nat_eq l.self.cells loc;
}
