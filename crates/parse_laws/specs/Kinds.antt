-- The kinds of tokens by their symbols.
use Rattle.std.specs.Prelude.{ℕ, ◌+◌, ◌*◌, Bool, if◌then◌else◌}
use Rattle.js_token.specs.declared.token.Token.{Token}
use Rattle.js_parse.specs.declared.symbol.Symbol.{Symbol}
use Rattle.js_parse.specs.declared.symbol.Symbol.TheVariants as s
use Rattle.js_parse.specs.Symbols.{of_kind}

-- the number of a symbol among the kinds of tokens that the grammar tells apart
abbrev pub class : Symbol → ℕ
class s.End = 0
class s.Of = 1
class s.Get = 2
class s.Set = 3
class s.Name = 4
class s.Break = 5
class s.Catch = 6
class s.Const = 7
class s.Continue = 8
class s.Delete = 9
class s.Do = 10
class s.Else = 11
class s.False = 12
class s.Finally = 13
class s.For = 14
class s.Function = 15
class s.If = 16
class s.In = 17
class s.InstanceOf = 18
class s.Let = 19
class s.New = 20
class s.Null = 21
class s.Return = 22
class s.This = 23
class s.Throw = 24
class s.True = 25
class s.Try = 26
class s.Typeof = 27
class s.Void = 28
class s.While = 29
class s.Reserved = 30
class s.Number = 31
class s.Text = 32
class s.Template = 33
class s.TemplateHead = 34
class s.TemplateMiddle = 35
class s.TemplateTail = 36
class s.OpenBrace = 37
class s.CloseBrace = 38
class s.OpenParen = 39
class s.CloseParen = 40
class s.OpenBracket = 41
class s.CloseBracket = 42
class s.Semicolon = 43
class s.Comma = 44
class s.Dot = 45
class s.Ellipsis = 46
class s.Less = 47
class s.Greater = 48
class s.LessEqual = 49
class s.GreaterEqual = 50
class s.StrictEqual = 51
class s.StrictNotEqual = 52
class s.Plus = 53
class s.Minus = 54
class s.Star = 55
class s.Slash = 56
class s.Percent = 57
class s.ShiftLeft = 58
class s.ShiftRight = 59
class s.ShiftRightUnsigned = 60
class s.BitAnd = 61
class s.BitOr = 62
class s.BitXor = 63
class s.Not = 64
class s.BitNot = 65
class s.And = 66
class s.Or = 67
class s.Coalesce = 68
class s.Question = 69
class s.Colon = 70
class s.Assign = 71
class s.AddAssign = 72
class s.SubtractAssign = 73
class s.MultiplyAssign = 74
class s.DivideAssign = 75
class s.RemainderAssign = 76
class s.Increment = 77
class s.Decrement = 78
class s.Arrow = 79

-- the kind of a token of that symbol, behind a line break or not
abbrev pub numbered : Symbol → Bool → ℕ
numbered symbol broken = 2 * class symbol + (if broken then 1 else 0)

unfoldable pub token_kind : Token → ℕ
token_kind t = numbered (of_kind t.kind) t.broken
