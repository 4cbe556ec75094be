-- Which way a row goes.
use Rattle.std.specs.Prelude.{ℕ, Bool, true, false, Option, Some}
use Rattle.world_heap.specs.declared.cell.Cell.{Cell}
use Rattle.world_heap.specs.declared.cell.Cell.TheVariants.{Array}
use Rattle.js_tree.specs.declared.node.Node.{Node}
use Rattle.js_tree.specs.declared.node.Node.TheVariants as kinds
use Rattle.js_machine.specs.declared.frame.StatementFrame.{StatementFrame}
use Rattle.js_machine.specs.declared.frame.StatementFrame.TheVariants as frames

-- whether a cell is an array
abbrev pub is_array_cell : Option (Cell ℕ) → Bool
is_array_cell (Some (Array proto items frozen)) = true
is_array_cell other = false

-- whether a frame is that of the list of a `for`
abbrev pub walks_list : StatementFrame ℕ → Bool
walks_list (frames.ForOfList constant pattern body scope) = true
walks_list other = false

-- whether a node is a statement, and no block (ECMA-262, 14: Statement and Declaration)
abbrev pub is_statement : Node → Bool
is_statement (kinds.Let pairs) = true
is_statement (kinds.Const pairs) = true
is_statement (kinds.FunDecl name function) = true
is_statement (kinds.If test first second) = true
is_statement (kinds.While test body) = true
is_statement (kinds.DoWhile body test) = true
is_statement (kinds.For first test next body) = true
is_statement (kinds.ForOf constant pattern list body) = true
is_statement (kinds.Return value) = true
is_statement kinds.Break = true
is_statement kinds.Continue = true
is_statement (kinds.Throw value) = true
is_statement (kinds.Try block pattern handler last) = true
is_statement kinds.Empty = true
is_statement (kinds.ExprStmt value) = true
is_statement other = false
