use Rattle.std.proofs.Common.{◌≡◌, take}
use Rattle.std.specs.List.{flat_map}
use Rattle.js_scope.specs.Names.{repeated_in}
use Rattle.js_scope.proofs.names.repeated.Given as goal

-- what comes again in the scopes of the nodes so far
abbrev pub invariant-nodes : goal.invariant-nodes
invariant-nodes l = l.again.items ≡ flat_map (λ node. repeated_in l.tree node.0) (take l.id l.tree)
