-- The tree of a script's text, or its first fault: of its tokens (ECMA-262, 12), else of the grammar (16.1), else the
-- first early error in source order (17).
use Rattle.std.specs.Prelude.{◌≡◌, ℕ, List, [], ◌∷◌, ◌++◌, Result, Ok, Err}
use Rattle.std.specs.Option.{unwrap_or}
use Rattle.js_token.specs.declared.token.Token.{Token}
use Rattle.js_token.specs.declared.token.LexFault.{LexFault}
use Rattle.js_token.specs.declared.token.LexFault.TheVariants as lex
use Rattle.js_token.specs.Tokens.{tokens_of}
use Rattle.js_tree.specs.declared.node.NodeId.{NodeId}
use Rattle.js_tree.specs.declared.node.Node.TheVariants.{Script}
use Rattle.js_tree.specs.Nodes.{Nodes, place_at}
use Rattle.js_parse.specs.declared.fault.ParseFault.{ParseFault}
use Rattle.js_parse.specs.declared.fault.ParseFault.TheVariants as parse
use Rattle.js_parse.specs.Parsing.{parsed}
use Rattle.js_scope.specs.declared.fault.ScopeKind.{ScopeKind}
use Rattle.js_scope.specs.Faults.{faults}
use Rattle.js_source.specs.declared.fault.SourceFault.{SourceFault}
use Rattle.js_source.specs.declared.fault.SourceFault.TheVariants.{At, Memory}
use Rattle.js_source.specs.declared.fault.SourceKind.TheVariants.{Token as NoScript, Deep}
use Rattle.js_source.specs.declared.reading.Source.{Source}
use Rattle.js_source.specs.Kinds.{lexical, early}

-- a fault of tokens, as it is told
abbrev pub token_fault : LexFault → SourceFault
token_fault (lex.At place kind) = At place (lexical kind)
token_fault lex.Memory = Memory

-- a fault of the grammar, as it is told
abbrev pub grammar_fault : ParseFault → SourceFault
grammar_fault (parse.Token place) = At place NoScript
grammar_fault (parse.Deep place) = At place Deep
grammar_fault parse.Memory = Memory

-- The nodes, where none breaks a rule; else the place of the first token of the first that does. It stands in the tree,
-- so it has a place.
abbrev pub unless_broken : Nodes → List (ℕ × ScopeKind) → Result Nodes SourceFault
unless_broken nodes [] = Ok nodes
unless_broken nodes (first ∷ others) = Err (At (unwrap_or (place_at nodes first.0) 0) (early first.1))

-- the nodes, where they have no early error
unfoldable pub checked : Nodes → Result Nodes SourceFault
checked nodes = unless_broken nodes (faults nodes)

abbrev pub checked_if_read : Result Nodes ParseFault → Result Nodes SourceFault
checked_if_read (Ok nodes) = checked nodes
checked_if_read (Err fault) = Err (grammar_fault fault)

abbrev pub parsed_if_read : Result (List Token) LexFault → Result Nodes SourceFault
parsed_if_read (Ok tokens) = checked_if_read (parsed tokens)
parsed_if_read (Err fault) = Err (token_fault fault)

-- The nodes of the script that a text is, or its first fault.
unfoldable pub source_of : List ℕ → Result Nodes SourceFault
source_of bytes = parsed_if_read (tokens_of bytes)

-- What is answered: that, unless memory runs out.
abbrev pub Answers : Result Source SourceFault → Result Nodes SourceFault → Type 0
Answers (Ok source) read = read ≡ Ok source.tree
Answers (Err (At place kind)) read = read ≡ Err (At place kind)
Answers (Err Memory) read = Unit {0}

-- The same of a check that gives nothing.
abbrev pub Passes : Nodes → Result (Unit {0}) SourceFault → Type 0
Passes nodes (Ok done) = checked nodes ≡ Ok nodes
Passes nodes (Err (At place kind)) = checked nodes ≡ Err (At place kind)
Passes nodes (Err Memory) = Unit {0}

-- The last node is the script itself.
abbrev pub HasRoot : Nodes → Type 0
HasRoot nodes = (parts : Nodes) × (items : List NodeId) × (place : ℕ) × (nodes ≡ parts ++ (Script items, place) ∷ [])
