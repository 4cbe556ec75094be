use Rattle.std.proofs.Common.{◌≡◌, ◌<◌, ℕ, Some}
use Rattle.js_tree.specs.declared.node.Node.{Node}
use Rattle.js_tree.specs.Nodes.{node_at, StandsBelow}
use Rattle.js_tree.proofs.tree.Tree.from_nodes.Given as goal

-- The nodes so far stand behind their children.
abbrev pub invariant-nodes : goal.invariant-nodes
invariant-nodes l = (id : ℕ) (node : Node) → id < l.at → node_at l.nodes.items id ≡ Some node → StandsBelow id node
