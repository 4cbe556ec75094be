use Rattle.std.proofs.Common.{◌≡◌, ◌<◌, ◌++◌, length, reverse}
use Rattle.std.specs.List.{flat_map, AllByRecursion}
use Rattle.js_scope.specs.Walk.{walk}
use Rattle.js_scope.specs.Names.{binding_parts_at, names, repeats, repeated_in}
use Rattle.js_scope.proofs.names.push_repeats.Given as goal

-- What is left to look at completes what was found.
abbrev pub invariant-names : goal.invariant-names
invariant-names l =
    let todo = reverse l.waiting.items in
    record {
      found : l.again.items ++ repeats l.before.keys (names l.tree todo) ≡ l.initial.again.items ++ repeated_in l.tree l.node;
      stand : AllByRecursion (λ id. id < length l.tree) todo;
    }

-- how many nodes are left to look at
abbrev pub decreases-names : goal.decreases-names
decreases-names l = length (flat_map (walk (binding_parts_at l.tree) (length l.tree)) (reverse l.waiting.items))
