use Rattle.std.proofs.Common.{◌≡◌, ◌++◌, take}
use Rattle.js_tree.specs.Children.{of_elements}
use Rattle.js_scope.proofs.children.push_elements.Given as goal

-- what is added so far
abbrev pub invariant-parts : goal.invariant-parts
invariant-parts l = l.out.items ≡ l.initial.out.items ++ of_elements (take l.part-index l.parts)
