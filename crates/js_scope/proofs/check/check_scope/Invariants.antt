use Rattle.std.proofs.Common.{◌≡◌, ◌<◌, length, reverse}
use Rattle.std.specs.List.{filter_map, AllByRecursion}
use Rattle.js_scope.specs.Names.{repeated}
use Rattle.js_scope.specs.Rules.{fault_at}
use Rattle.js_scope.specs.Faults.{faults}
use Rattle.js_scope.proofs.Places.{places_left}
use Rattle.js_scope.proofs.check.check_scope.Given as goal

-- No fault stands before what is left.
abbrev pub invariant-places : goal.invariant-places
invariant-places l = record {
  found : filter_map (fault_at l.tree (repeated l.tree)) (places_left l.tree l.waiting.items) ≡ faults l.tree;
  stand : AllByRecursion (λ place. place.node.0 < length l.tree) (reverse l.waiting.items);
}

-- how many places are left to look at
abbrev pub decreases-places : goal.decreases-places
decreases-places l = length (places_left l.tree l.waiting.items)
