-- The early errors of a script (ECMA-262, 17): the nodes that break a rule, in source order.
use Rattle.std.specs.Prelude.{◌≡◌, ℕ, ◌-◌, List, [], length, false, Some, Result, Ok, Err, slice_get}
use Rattle.std.specs.List.{filter_map}
use Rattle.js_tree.specs.Nodes.{Nodes}
use Rattle.js_scope.specs.declared.fault.ScopeKind.{ScopeKind}
use Rattle.js_scope.specs.declared.fault.ScopeFault.{ScopeFault}
use Rattle.js_scope.specs.declared.fault.ScopeFault.TheVariants.{At, Memory}
use Rattle.js_scope.specs.declared.place.Place.{Place}
use Rattle.js_scope.specs.Walk.{walk}
use Rattle.js_scope.specs.Names.{repeated}
use Rattle.js_scope.specs.Rules.{parts_at, fault_at}

-- the root, the last node, with no function and no loop around it
abbrev pub top : Nodes → Place
top nodes = record { node = record { 0 = length nodes - 1 }; in_function = false; in_loop = false }

-- the places of a tree in source order
unfoldable pub places : Nodes → List Place
places nodes = walk (parts_at nodes) (length nodes) (top nodes)

-- the nodes that break a rule, in source order, each with the first rule that it breaks
unfoldable pub faults : Nodes → List (ℕ × ScopeKind)
faults nodes = filter_map (fault_at nodes (repeated nodes)) (places nodes)

-- There is no fault, or the first one is told; memory may run out in both cases.
abbrev pub Checked : Result (Unit {0}) ScopeFault → List (ℕ × ScopeKind) → Type 0
Checked (Ok done) found = found ≡ []
Checked (Err (At node kind)) found = slice_get found 0 ≡ Some (node.0, kind)
Checked (Err Memory) found = Unit {0}
