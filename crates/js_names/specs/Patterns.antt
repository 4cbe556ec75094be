-- The parts of a pattern (ECMA-262, 14.3.3), and the nodes of a tree without their places.
use Rattle.std.specs.Prelude.{ℕ, List, [], ◌∷◌, map}
use Rattle.js_tree.specs.declared.node.NodeId.{NodeId}
use Rattle.js_tree.specs.declared.node.Node.{Node}
use Rattle.js_tree.specs.declared.node.Node.TheVariants as kinds

abbrev pub nodes_of : List (Node × ℕ) → List Node
nodes_of tree = map (λ node. node.0) tree

-- the name that a pattern binds itself
abbrev pub own_names : Node → List (List ℕ)
own_names (kinds.BindName name) = name ∷ []
own_names other = []

-- the patterns in a pattern
abbrev pub parts_of : Node → List NodeId
parts_of (kinds.BindObject parts) = map (λ part. part.bind) parts
parts_of (kinds.BindArray parts) = map (λ part. part.bind) parts
parts_of other = []
