use Rattle.std.proofs.Common.{◌≡◌, ◌++◌, take}
use Rattle.js_tree.specs.Children.{of_properties}
use Rattle.js_scope.proofs.children.push_properties.Given as goal

-- what is added so far
abbrev pub invariant-parts : goal.invariant-parts
invariant-parts l = l.out.items ≡ l.initial.out.items ++ of_properties (take l.part-index l.parts)
