-- Operators (ECMA-262, 13.4 to 13.15).
use Rattle.std.specs.Prelude.{ℕ, Bool, true, false, not, ◌&&◌, ◌==◌, Option, Some, None, if◌then◌else◌}
use Rattle.js_tree.specs.declared.node.Node.{Node}
use Rattle.js_tree.specs.declared.node.Node.TheVariants as node
use Rattle.js_tree.specs.declared.node.NodeId.{NodeId}
use Rattle.js_tree.specs.declared.node.BinaryOperator.{BinaryOperator}
use Rattle.js_tree.specs.declared.node.BinaryOperator.TheVariants as b
use Rattle.js_tree.specs.declared.node.UnaryOperator.TheVariants as u
use Rattle.js_tree.specs.declared.node.UpdateOperator.TheVariants as update
use Rattle.js_parse.specs.declared.symbol.Symbol.{Symbol}
use Rattle.js_parse.specs.declared.symbol.Symbol.TheVariants as s
use Rattle.js_parse.specs.declared.operators.Infix.{Infix}
use Rattle.js_parse.specs.declared.operators.Infix.TheVariants as between
use Rattle.js_parse.specs.Symbols.{same}

-- ---- before an operand

abbrev pub is_prefix : Symbol → Bool
is_prefix s.Not = true
is_prefix s.BitNot = true
is_prefix s.Plus = true
is_prefix s.Minus = true
is_prefix s.Typeof = true
is_prefix s.Void = true
is_prefix s.Delete = true
is_prefix s.Increment = true
is_prefix s.Decrement = true
is_prefix _ = false

abbrev pub prefix_node : Symbol → NodeId → Option Node
prefix_node s.Not x = Some (node.Unary u.Not x)
prefix_node s.BitNot x = Some (node.Unary u.BitNot x)
prefix_node s.Plus x = Some (node.Unary u.Plus x)
prefix_node s.Minus x = Some (node.Unary u.Minus x)
prefix_node s.Void x = Some (node.Unary u.Void x)
prefix_node s.Typeof x = Some (node.Typeof x)
prefix_node s.Delete x = Some (node.Delete x)
prefix_node s.Increment x = Some (node.Update update.Increment x true)
prefix_node s.Decrement x = Some (node.Update update.Decrement x true)
prefix_node _ x = None

-- ---- behind an operand, with no line break before it

abbrev pub postfix_node : Symbol → NodeId → Option Node
postfix_node s.Increment x = Some (node.Update update.Increment x false)
postfix_node s.Decrement x = Some (node.Update update.Decrement x false)
postfix_node _ x = None

-- ---- between two operands

abbrev pub infix_of : Symbol → Option Infix
infix_of s.Star = Some (between.Binary b.Multiply)
infix_of s.Slash = Some (between.Binary b.Divide)
infix_of s.Percent = Some (between.Binary b.Remainder)
infix_of s.Plus = Some (between.Binary b.Add)
infix_of s.Minus = Some (between.Binary b.Subtract)
infix_of s.ShiftLeft = Some (between.Binary b.ShiftLeft)
infix_of s.ShiftRight = Some (between.Binary b.ShiftRight)
infix_of s.ShiftRightUnsigned = Some (between.Binary b.ShiftRightUnsigned)
infix_of s.Less = Some (between.Binary b.Less)
infix_of s.Greater = Some (between.Binary b.Greater)
infix_of s.LessEqual = Some (between.Binary b.LessOrEqual)
infix_of s.GreaterEqual = Some (between.Binary b.GreaterOrEqual)
infix_of s.InstanceOf = Some (between.Binary b.InstanceOf)
infix_of s.In = Some (between.Binary b.In)
infix_of s.StrictEqual = Some (between.Binary b.StrictEqual)
infix_of s.StrictNotEqual = Some (between.Binary b.StrictNotEqual)
infix_of s.BitAnd = Some (between.Binary b.BitAnd)
infix_of s.BitXor = Some (between.Binary b.BitXor)
infix_of s.BitOr = Some (between.Binary b.BitOr)
infix_of s.And = Some between.And
infix_of s.Or = Some between.Or
infix_of s.Coalesce = Some between.Coalesce
infix_of _ = None

-- How tightly a binary operator binds: the first line of operators binds tightest.
abbrev pub level_of_binary : BinaryOperator → ℕ
level_of_binary b.Multiply = 1
level_of_binary b.Divide = 1
level_of_binary b.Remainder = 1
level_of_binary b.Add = 2
level_of_binary b.Subtract = 2
level_of_binary b.ShiftLeft = 3
level_of_binary b.ShiftRight = 3
level_of_binary b.ShiftRightUnsigned = 3
level_of_binary b.Less = 4
level_of_binary b.Greater = 4
level_of_binary b.LessOrEqual = 4
level_of_binary b.GreaterOrEqual = 4
level_of_binary b.InstanceOf = 4
level_of_binary b.In = 4
level_of_binary b.StrictEqual = 5
level_of_binary b.StrictNotEqual = 5
level_of_binary b.BitAnd = 6
level_of_binary b.BitXor = 7
level_of_binary b.BitOr = 8

abbrev pub level_of : Infix → ℕ
level_of (between.Binary operator) = level_of_binary operator
level_of between.And = 9
level_of between.Or = 10
level_of between.Coalesce = 11

abbrev pub of_level : ℕ → Option Infix → Option Infix
of_level level None = None
of_level level (Some operator) = if level_of operator == level then Some operator else None

-- the operator of that level that the symbol is; `in` may be forbidden
unfoldable pub infix_at : ℕ → Bool → Symbol → Option Infix
infix_at level allow_in symbol =
    if allow_in then of_level level (infix_of symbol) else (if same symbol s.In then None else of_level level (infix_of symbol))

abbrev pub infix_node : Infix → NodeId → NodeId → Node
infix_node (between.Binary operator) left right = node.Binary operator left right
infix_node between.And left right = node.And left right
infix_node between.Or left right = node.Or left right
infix_node between.Coalesce left right = node.Nullish left right

-- ---- assignments

-- of an assignment: the operator that it has beside `=`, if any
abbrev pub assign_operator : Symbol → Option (Option BinaryOperator)
assign_operator s.Assign = Some None
assign_operator s.AddAssign = Some (Some b.Add)
assign_operator s.SubtractAssign = Some (Some b.Subtract)
assign_operator s.MultiplyAssign = Some (Some b.Multiply)
assign_operator s.DivideAssign = Some (Some b.Divide)
assign_operator s.RemainderAssign = Some (Some b.Remainder)
assign_operator _ = None

abbrev pub assign_node : Option BinaryOperator → NodeId → NodeId → Node
assign_node None target value = node.Assign target value
assign_node (Some operator) target value = node.AssignOp operator target value
