use Rattle.std.proofs.Common.{◌≡◌, ◌++◌, take}
use Rattle.js_tree.specs.Children.{all_of}
use Rattle.js_scope.proofs.children.push_all.Given as goal

-- what is added so far
abbrev pub invariant-ids : goal.invariant-ids
invariant-ids l = l.out.items ≡ l.initial.out.items ++ all_of (take l.id-index l.ids)
