-- A syntax tree as the list of its nodes (ECMA-262, 5.1.4), each with the byte offset of its first token.
use Rattle.std.specs.Prelude.{◌≡◌, ◌<◌, ℕ, List, All, Option, Some, slice_get}
use Rattle.std.specs.Option.{option_map}
use Rattle.js_tree.specs.declared.node.Node.{Node}
use Rattle.js_tree.specs.Children.{children}

abbrev pub Nodes : Type 0
Nodes = List (Node × ℕ)

-- the node with that number
unfoldable pub node_at : Nodes → ℕ → Option Node
node_at nodes id = option_map (λ node. node.0) (slice_get nodes id)

-- the byte offset of the first token of the node with that number
unfoldable pub place_at : Nodes → ℕ → Option ℕ
place_at nodes id = option_map (λ node. node.1) (slice_get nodes id)

-- The children of a node have smaller numbers than so.
unfoldable pub StandsBelow : ℕ → Node → Type 0
StandsBelow count node = All (λ child. child < count) (children node)

-- Each child stands before its parent.
unfoldable pub IsTree : Nodes → Type 0
IsTree nodes = (id : ℕ) (node : Node) → node_at nodes id ≡ Some node → StandsBelow id node
