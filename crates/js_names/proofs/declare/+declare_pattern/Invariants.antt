use Rattle.std.proofs.Common.{◌≡◌, ◌++◌, map, take}
use Rattle.std.specs.List.{flat_map}
use Rattle.js_semantics.specs.Environments.{unready, names_of}
use Rattle.js_names.specs.Patterns.{nodes_of, parts_of}
use Rattle.js_names.proofs.declare.+declare_pattern.Given as goal

abbrev pub decreases-declare_pattern : goal.decreases-declare_pattern
decreases-declare_pattern l = l.node.0

abbrev pub invariant-parts : goal.invariant-parts
invariant-parts l = l.bindings ≡ l.initial.bindings ++ flat_map (λ p. map (unready l.fixed) (names_of (nodes_of l.tree) p)) (take l.at (parts_of l.here))
