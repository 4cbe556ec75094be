-- The groups that rows and frames are told apart by.
use Rattle.std.specs.Prelude.{ℕ, Bool, true, false}
use Rattle.js_tree.specs.declared.node.Node.{Node}
use Rattle.js_tree.specs.declared.node.Node.TheVariants as kinds
use Rattle.js_machine.specs.declared.frame.Frame.{Frame}
use Rattle.js_machine.specs.declared.frame.Frame.TheVariants as frames

-- whether a node is an operator with its operands, or an assignment (ECMA-262, 13.4 to 13.16)
abbrev pub is_operator : Node → Bool
is_operator (kinds.Seq first second) = true
is_operator (kinds.Cond test first second) = true
is_operator (kinds.And left right) = true
is_operator (kinds.Or left right) = true
is_operator (kinds.Nullish left right) = true
is_operator (kinds.Assign target value) = true
is_operator (kinds.AssignOp operator target value) = true
is_operator (kinds.Update operator target before) = true
is_operator (kinds.Binary operator left right) = true
is_operator (kinds.Unary operator operand) = true
is_operator (kinds.Typeof operand) = true
is_operator (kinds.Delete operand) = true
is_operator other = false

-- whether a node is a primary expression, a function, a property, or a call (ECMA-262, 13.2, 13.3 and 15)
abbrev pub is_operand : Node → Bool
is_operand (kinds.Name name) = true
is_operand kinds.This = true
is_operand kinds.Null = true
is_operand (kinds.Bool b) = true
is_operand (kinds.Num n) = true
is_operand (kinds.Str text) = true
is_operand (kinds.Template texts parts) = true
is_operand (kinds.ArrayLit elements) = true
is_operand (kinds.ObjectLit members) = true
is_operand (kinds.Fun name function) = true
is_operand (kinds.Arrow function) = true
is_operand (kinds.Dot object name) = true
is_operand (kinds.Index object key) = true
is_operand (kinds.Call callee arguments) = true
is_operand (kinds.New callee arguments) = true
is_operand other = false

-- whether a frame is one of those that are met less often
abbrev pub is_rare : Frame ℕ → Bool
is_rare (frames.OnValue f) = false
is_rare (frames.After f) = false
is_rare frames.Leave = false
is_rare (frames.WhileBody test body scope) = false
is_rare other = true
