use Rattle.std.proofs.Common.{◌≡◌, ◌++◌, map, take}
use Rattle.std.specs.List.{flat_map}
use Rattle.js_semantics.specs.Environments.{unready, names_of}
use Rattle.js_names.specs.Patterns.{nodes_of}
use Rattle.js_names.proofs.declare.declare_pairs.Given as goal

abbrev pub invariant-pairs : goal.invariant-pairs
invariant-pairs l = l.bindings ≡ l.initial.bindings ++ flat_map (λ pair. map (unready l.fixed) (names_of (nodes_of l.tree) pair.bind)) (take l.pair-index l.pairs)
