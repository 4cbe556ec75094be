use Rattle.std.proofs.Common.{◌≡◌, length, nat_eq}
use Rattle.world_heap.specs.Heaps.{IsCell}
use Rattle.proto_props.specs.Chains.{search}
use Rattle.proto_props.proofs.chain.search_from.Given as goal

abbrev pub invariant-objects : goal.invariant-objects
invariant-objects l = record {
  stands : IsCell nat_eq l.heap.cells l.at;
  goes_on : search nat_eq l.heap.cells l.key l.left l.at ≡ search nat_eq l.heap.cells l.key (length l.heap.cells) l.initial.at;
}

abbrev pub decreases-objects : goal.decreases-objects
decreases-objects l = l.left
