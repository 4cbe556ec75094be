-- The elements of an array literal (ECMA-262, 13.2.4.1).
use Rattle.std.specs.Prelude.{Bool, false, not, Option, Some, None}
use Rattle.js_tree.specs.declared.node.NodeId.{NodeId}
use Rattle.js_tree.specs.declared.node.Node.{Node}
use Rattle.js_tree.specs.declared.node.Node.TheVariants as kinds
use Rattle.world_heap.specs.declared.cell.Cell.{Cell}
use Rattle.world_heap.specs.declared.cell.Cell.TheVariants.{Array}

-- the node whose values a spread puts into the array
abbrev pub spread_in : Option Node → Option NodeId
spread_in (Some (kinds.Spread list)) = Some list
spread_in other = None

-- whether a cell is an array that isn't frozen
abbrev pub is_open_array : {L : Type 0} → Cell L → Bool
is_open_array (Array proto items frozen) = not frozen
is_open_array other = false
