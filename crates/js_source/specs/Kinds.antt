-- Each kind of fault: one of the text and its tokens (ECMA-262, 12), one of the grammar (16.1), or an early error (17).
use Rattle.std.specs.Prelude.{ℕ, List, codes}
use Rattle.js_token.specs.declared.token.LexKind.{LexKind}
use Rattle.js_token.specs.declared.token.LexKind.TheVariants as lex
use Rattle.js_scope.specs.declared.fault.ScopeKind.{ScopeKind}
use Rattle.js_scope.specs.declared.fault.ScopeKind.TheVariants as scope
use Rattle.js_source.specs.declared.fault.SourceKind.{SourceKind}
use Rattle.js_source.specs.declared.fault.SourceKind.TheVariants as kind

-- the kind of a fault of tokens
abbrev pub lexical : LexKind → SourceKind
lexical lex.Text = kind.Text
lexical lex.Comment = kind.Comment
lexical lex.Number = kind.Number
lexical lex.Escape = kind.Escape
lexical lex.String = kind.String
lexical lex.Template = kind.Template
lexical lex.Char = kind.Char

-- the kind of an early error
abbrev pub early : ScopeKind → SourceKind
early scope.Twice = kind.Twice
early scope.Return = kind.Return
early scope.Loop = kind.Loop
early scope.Target = kind.Target
early scope.Delete = kind.Delete
early scope.Name = kind.Name
early scope.Proto = kind.Proto

-- the word by which a kind is told
abbrev pub word_of : SourceKind → List ℕ
word_of kind.Text = codes "text"
word_of kind.Comment = codes "comment"
word_of kind.Number = codes "number"
word_of kind.Escape = codes "escape"
word_of kind.String = codes "string"
word_of kind.Template = codes "template"
word_of kind.Char = codes "char"
word_of kind.Token = codes "token"
word_of kind.Deep = codes "deep"
word_of kind.Twice = codes "twice"
word_of kind.Return = codes "return"
word_of kind.Loop = codes "loop"
word_of kind.Target = codes "target"
word_of kind.Delete = codes "delete"
word_of kind.Name = codes "name"
word_of kind.Proto = codes "proto"
