use Rattle.std.proofs.Common.{◌≡◌, ◌++◌, take}
use Rattle.js_tree.specs.Children.{of_declarators}
use Rattle.js_scope.proofs.children.push_declarators.Given as goal

-- what is added so far
abbrev pub invariant-pairs : goal.invariant-pairs
invariant-pairs l = l.out.items ≡ l.initial.out.items ++ of_declarators (take l.pair-index l.pairs)
