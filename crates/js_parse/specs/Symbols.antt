-- What tokens are to the grammar (ECMA-262, 12).
use Rattle.std.specs.Prelude.{◌≡◌, ℕ, Bool, true, false, ◌||◌, List, [], ◌∷◌, Option, Some, None, nat_eq, codes, slice_index_or, if◌then◌else◌}
use Rattle.std.specs.Cmp.Lexicographic.{pointwise}
use denote.Enum.Bare.{sameb}
use Rattle.js_token.specs.declared.token.TokenKind.{TokenKind}
use Rattle.js_token.specs.declared.token.TokenKind.TheVariants as kind
use Rattle.js_parse.specs.contracts.symbol.Symbol.{the_type}
use Rattle.js_parse.specs.declared.symbol.Symbol.{Symbol}
use Rattle.js_parse.specs.declared.symbol.Symbol.TheVariants as symbol

-- `==` on symbols
unfoldable pub same : Symbol → Symbol → Bool
same = sameb the_type

-- a word that ends a statement or goes with an exception
unfoldable pub jump_word : List ℕ → Option Symbol
jump_word text = if pointwise nat_eq (codes "break") text then Some symbol.Break else (if pointwise nat_eq (codes "continue") text then Some symbol.Continue else (if pointwise nat_eq (codes "return") text then Some symbol.Return else (if pointwise nat_eq (codes "throw") text then Some symbol.Throw else (if pointwise nat_eq (codes "try") text then Some symbol.Try else (if pointwise nat_eq (codes "catch") text then Some symbol.Catch else (if pointwise nat_eq (codes "finally") text then Some symbol.Finally else (None)))))))

-- a word of a branch, a loop or a declaration
unfoldable pub control_word : List ℕ → Option Symbol
control_word text = if pointwise nat_eq (codes "if") text then Some symbol.If else (if pointwise nat_eq (codes "else") text then Some symbol.Else else (if pointwise nat_eq (codes "while") text then Some symbol.While else (if pointwise nat_eq (codes "do") text then Some symbol.Do else (if pointwise nat_eq (codes "for") text then Some symbol.For else (if pointwise nat_eq (codes "let") text then Some symbol.Let else (if pointwise nat_eq (codes "const") text then Some symbol.Const else (if pointwise nat_eq (codes "function") text then Some symbol.Function else (None))))))))

-- a word of a value
unfoldable pub value_word : List ℕ → Option Symbol
value_word text = if pointwise nat_eq (codes "this") text then Some symbol.This else (if pointwise nat_eq (codes "null") text then Some symbol.Null else (if pointwise nat_eq (codes "true") text then Some symbol.True else (if pointwise nat_eq (codes "false") text then Some symbol.False else (None))))

-- a word of an operator
unfoldable pub operator_word : List ℕ → Option Symbol
operator_word text = if pointwise nat_eq (codes "new") text then Some symbol.New else (if pointwise nat_eq (codes "delete") text then Some symbol.Delete else (if pointwise nat_eq (codes "typeof") text then Some symbol.Typeof else (if pointwise nat_eq (codes "void") text then Some symbol.Void else (if pointwise nat_eq (codes "in") text then Some symbol.In else (if pointwise nat_eq (codes "instanceof") text then Some symbol.InstanceOf else (None))))))

abbrev pub or_else : Option Symbol → Symbol → Symbol
or_else None other = other
or_else (Some found) other = found

unfoldable pub of_word : List ℕ → Symbol
of_word text = or_else (jump_word text) (or_else (control_word text) (or_else (value_word text) (or_else (operator_word text) symbol.Reserved)))

unfoldable pub of_name : List ℕ → Symbol
of_name text = if pointwise nat_eq (codes "of") text then symbol.Of
    else (if pointwise nat_eq (codes "get") text then symbol.Get
    else (if pointwise nat_eq (codes "set") text then symbol.Set else symbol.Name))

-- the marks, in the order of their numbers
abbrev pub marks : List Symbol
marks = symbol.OpenBrace ∷ symbol.CloseBrace ∷ symbol.OpenParen ∷ symbol.CloseParen ∷ symbol.OpenBracket ∷ symbol.CloseBracket ∷ symbol.Semicolon ∷ symbol.Comma ∷ symbol.Dot ∷ symbol.Ellipsis ∷ symbol.Less ∷ symbol.Greater ∷ symbol.LessEqual ∷ symbol.GreaterEqual ∷ symbol.StrictEqual ∷ symbol.StrictNotEqual ∷ symbol.Plus ∷ symbol.Minus ∷ symbol.Star ∷ symbol.Slash ∷ symbol.Percent ∷ symbol.ShiftLeft ∷ symbol.ShiftRight ∷ symbol.ShiftRightUnsigned ∷ symbol.BitAnd ∷ symbol.BitOr ∷ symbol.BitXor ∷ symbol.Not ∷ symbol.BitNot ∷ symbol.And ∷ symbol.Or ∷ symbol.Coalesce ∷ symbol.Question ∷ symbol.Colon ∷ symbol.Assign ∷ symbol.AddAssign ∷ symbol.SubtractAssign ∷ symbol.MultiplyAssign ∷ symbol.DivideAssign ∷ symbol.RemainderAssign ∷ symbol.Increment ∷ symbol.Decrement ∷ symbol.Arrow ∷ []

unfoldable pub of_mark : ℕ → Symbol
of_mark mark = slice_index_or marks mark symbol.End

abbrev pub of_piece : Bool → Bool → Symbol
of_piece true true = symbol.Template
of_piece true false = symbol.TemplateHead
of_piece false false = symbol.TemplateMiddle
of_piece false true = symbol.TemplateTail

unfoldable pub of_kind : TokenKind → Symbol
of_kind (kind.Name text) = of_name text
of_kind (kind.Word text) = of_word text
of_kind (kind.Number value) = symbol.Number
of_kind (kind.Text text) = symbol.Text
of_kind (kind.Piece text first last) = of_piece first last
of_kind (kind.Mark mark) = of_mark mark
of_kind kind.End = symbol.End

-- an identifier
abbrev pub is_name : Symbol → Bool
is_name symbol.Name = true
is_name symbol.Of = true
is_name symbol.Get = true
is_name symbol.Set = true
is_name _ = false

-- a reserved word
abbrev pub is_word : Symbol → Bool
is_word symbol.Break = true
is_word symbol.Catch = true
is_word symbol.Const = true
is_word symbol.Continue = true
is_word symbol.Delete = true
is_word symbol.Do = true
is_word symbol.Else = true
is_word symbol.False = true
is_word symbol.Finally = true
is_word symbol.For = true
is_word symbol.Function = true
is_word symbol.If = true
is_word symbol.In = true
is_word symbol.InstanceOf = true
is_word symbol.Let = true
is_word symbol.New = true
is_word symbol.Null = true
is_word symbol.Return = true
is_word symbol.This = true
is_word symbol.Throw = true
is_word symbol.True = true
is_word symbol.Try = true
is_word symbol.Typeof = true
is_word symbol.Void = true
is_word symbol.While = true
is_word symbol.Reserved = true
is_word _ = false

abbrev pub is_any_name : Symbol → Bool
is_any_name s = is_name s || is_word s
