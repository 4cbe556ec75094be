use Rattle.std.proofs.Common.{◌≡◌, take}
use Rattle.js_tree.proofs.tree.Tree.copy.Given as goal

abbrev pub invariant-nodes : goal.invariant-nodes
invariant-nodes l = l.nodes.items ≡ take l.node-index l.node-items
