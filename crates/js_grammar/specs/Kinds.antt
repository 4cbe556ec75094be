-- The kinds of tokens that the grammar of scripts tells apart (ECMA-262, 12.7 to 12.9), as numbers.
use Rattle.std.specs.Prelude.{ℕ, suc, ◌+◌, ◌*◌, Bool, true, false, List, [], ◌∷◌, if◌then◌else◌, codes}
use Rattle.grammar.specs.Kinds.{alike}
use Rattle.js_token.specs.declared.token.Token.{Token}
use Rattle.js_token.specs.declared.token.TokenKind.{TokenKind}
use Rattle.js_token.specs.declared.token.TokenKind.TheVariants.{Name, Word, Number, Text, Piece, Mark, End}

-- identifiers that mean something at some places
unfoldable pub contextual : List (List ℕ)
contextual = codes "of" ∷ codes "get" ∷ codes "set" ∷ []

-- the reserved words that the grammar names
unfoldable pub words : List (List ℕ)
words = codes "break" ∷ codes "catch" ∷ codes "const" ∷ codes "continue" ∷ codes "delete" ∷ codes "do" ∷ codes "else" ∷ codes "false" ∷ codes "finally" ∷ codes "for" ∷ codes "function" ∷ codes "if" ∷ codes "in" ∷ codes "instanceof" ∷ codes "let" ∷ codes "new" ∷ codes "null" ∷ codes "return" ∷ codes "this" ∷ codes "throw" ∷ codes "true" ∷ codes "try" ∷ codes "typeof" ∷ codes "void" ∷ codes "while" ∷ []

-- the punctuators, in the order of their numbers in a token
unfoldable pub marks : List (List ℕ)
marks = codes "{" ∷ codes "}" ∷ codes "(" ∷ codes ")" ∷ codes "[" ∷ codes "]" ∷ codes ";" ∷ codes "," ∷ codes "." ∷ codes "..." ∷ codes "<" ∷ codes ">" ∷ codes "<=" ∷ codes ">=" ∷ codes "===" ∷ codes "!==" ∷ codes "+" ∷ codes "-" ∷ codes "*" ∷ codes "/" ∷ codes "%" ∷ codes "<<" ∷ codes ">>" ∷ codes ">>>" ∷ codes "&" ∷ codes "|" ∷ codes "^" ∷ codes "!" ∷ codes "~" ∷ codes "&&" ∷ codes "||" ∷ codes "??" ∷ codes "?" ∷ codes ":" ∷ codes "=" ∷ codes "+=" ∷ codes "-=" ∷ codes "*=" ∷ codes "/=" ∷ codes "%=" ∷ codes "++" ∷ codes "--" ∷ codes "=>" ∷ []

-- the place of a text in a list, or how many there are
unfoldable pub place_in : List (List ℕ) → List ℕ → ℕ
place_in [] text = 0
place_in (x ∷ xs) text = if alike x text then 0 else suc (place_in xs text)

-- the number of a piece of a template
abbrev pub piece : Bool → Bool → ℕ
piece true true = 33
piece true false = 34
piece false false = 35
piece false true = 36

-- A number for each token that the grammar names, and one each for the other identifiers and the other reserved words.
unfoldable pub class_of : TokenKind → ℕ
class_of End = 0
class_of (Name text) = 1 + place_in contextual text
class_of (Word text) = 5 + place_in words text
class_of (Number value) = 31
class_of (Text text) = 32
class_of (Piece text first last) = piece first last
class_of (Mark number) = 37 + number

-- A token is of an odd kind where a line break stands before it.
unfoldable pub kind_of : Token → ℕ
kind_of t = 2 * class_of t.kind + (if t.broken then 1 else 0)

-- with a line break before it or without
unfoldable pub kinds : List ℕ → List ℕ
kinds [] = []
kinds (class ∷ classes) = 2 * class ∷ (2 * class + 1) ∷ kinds classes

-- without a line break before it
unfoldable pub unbroken_kinds : List ℕ → List ℕ
unbroken_kinds [] = []
unbroken_kinds (class ∷ classes) = 2 * class ∷ unbroken_kinds classes

abbrev pub mark : List ℕ → ℕ
mark text = 37 + place_in marks text

abbrev pub word : List ℕ → ℕ
word text = 5 + place_in words text

abbrev pub name : List ℕ → ℕ
name text = 1 + place_in contextual text

-- identifiers
unfoldable pub names : List ℕ
names = 1 ∷ 2 ∷ 3 ∷ 4 ∷ []

-- reserved words
unfoldable pub reserved : List ℕ
reserved = 5 ∷ 6 ∷ 7 ∷ 8 ∷ 9 ∷ 10 ∷ 11 ∷ 12 ∷ 13 ∷ 14 ∷ 15 ∷ 16 ∷ 17 ∷ 18 ∷ 19 ∷ 20 ∷ 21 ∷ 22 ∷ 23 ∷ 24 ∷ 25 ∷ 26 ∷ 27 ∷ 28 ∷ 29 ∷ 30 ∷ []

abbrev pub number : ℕ
number = 31

abbrev pub text : ℕ
text = 32

abbrev pub whole_template : ℕ
whole_template = 33

abbrev pub template_head : ℕ
template_head = 34

abbrev pub template_middle : ℕ
template_middle = 35

abbrev pub template_tail : ℕ
template_tail = 36

abbrev pub end : ℕ
end = 0
