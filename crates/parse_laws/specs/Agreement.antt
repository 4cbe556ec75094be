-- What is promised of the nodes of scripts.
use Rattle.std.specs.Prelude.{◌≡◌, ℕ, suc, List, [], ◌∷◌, ◌++◌, Ok, Err}
use Rattle.grammar.specs.Grammar.{Tree, token, entry, Language, Derives, Spells, Viable, NoneGoesOn}
use Rattle.js_token.specs.declared.token.Token.{Token}
use Rattle.js_token.specs.Tokens.{tokens_of}
use Rattle.js_tree.specs.Nodes.{Nodes}
use Rattle.js_tree.specs.declared.node.Node.TheVariants as made
use Rattle.js_grammar.specs.Script.{rules, heads, any, item, nesting, script_language, script}
use Rattle.js_grammar.specs.Scripts.{IsScript}
use Rattle.js_parse.specs.declared.fault.ParseFault.{ParseFault}
use Rattle.js_parse.specs.declared.fault.ParseFault.TheVariants as fault
use Rattle.js_parse.specs.declared.symbol.Symbol.TheVariants as s
use Rattle.js_parse.specs.Input.{place_at}
use Rattle.js_parse.specs.Ready.{symbol_of}
use Rattle.js_parse.specs.Parsing.{parsed}
use Rattle.parse_laws.specs.Kinds.{token_kind}
use Rattle.parse_laws.specs.Trees as mk
use Rattle.parse_laws.specs.Trees.{nodes_of, parts_at}

-- All derivations of a script stand for one list of nodes.
abbrev pub HasOneList : Type 0
HasOneList = (tokens : List Token) (a b : Tree Token) → IsScript tokens a → IsScript tokens b → nodes_of nesting a ≡ nodes_of nesting b

-- the grammar of scripts, over tokens by their symbols
abbrev pub language : Language Token
language = record { kind = token_kind; rules = entry (token []) rules; heads = entry [] heads }

-- the nodes of items, and behind them that of their script, at a place
unfoldable pub script_nodes : ℕ → Tree Token → Nodes
script_nodes at items = (mk.after (mk.all_behind (mk.item (parts_at nesting)) [] items []) (λ found. mk.added (made.Script found) at)).1

-- These tokens up to that rest are items, as the tree lists them, in which nothing nests deeper than the limit.
abbrev pub AreItems : List Token → List Token → Tree Token → Type 0
AreItems tokens rest items = Spells language (Derives language nesting) (any item) tokens rest items

-- What is parsed is the items of a script up to the end of the text, and the list of its nodes is theirs.
abbrev pub ParsesDerived : Type 0
ParsesDerived = (tokens : List Token) (nodes : Nodes) → parsed tokens ≡ Ok nodes
    → (items : Tree Token) × (rest : List Token) × AreItems tokens rest items × (symbol_of rest ≡ s.End) × (nodes ≡ script_nodes (place_at tokens) items)

-- What is a script by its rules is parsed, to the nodes of its derivation.
abbrev pub ParsesScripts : Type 0
ParsesScripts = (tokens : List Token) (tree : Tree Token) → IsScript tokens tree → parsed tokens ≡ Ok (nodes_of nesting tree)

-- What is parsed of a text's tokens is a script by its rules, and the nodes are those of its derivation.
abbrev pub ParsesTexts : Type 0
ParsesTexts = (bytes : List ℕ) (tokens : List Token) (nodes : Nodes) → tokens_of bytes ≡ Ok tokens → parsed tokens ≡ Ok nodes
    → (tree : Tree Token) × IsScript tokens tree × (nodes ≡ nodes_of nesting tree)

-- The tokens before the one at the place begin some script, and what is told of that token behind them holds.
abbrev pub StopsAt : ℕ → (List Token → Token → List Token → Type 0) → List Token → Type 0
StopsAt at told tokens =
    (front : List Token) × (t : Token) × (rest : List Token) × (tokens ≡ front ++ t ∷ rest) × (t.place ≡ at) × Viable script_language script front × told front t rest

-- The fault is at the first token that no script has behind the tokens before it. Of nesting: that no script has there in which parts nest at most to the
-- limit, and another script has.
abbrev pub FaultIs : List Token → ParseFault → Type 0
FaultIs tokens (fault.Token at) = StopsAt at (λ front t rest. (depth : ℕ) → NoneGoesOn script_language depth script front (t ∷ rest)) tokens
FaultIs tokens (fault.Deep at) =
    StopsAt at (λ front t rest. NoneGoesOn script_language (suc nesting) script front (t ∷ rest) × Viable script_language script (front ++ t ∷ [])) tokens
FaultIs tokens fault.Memory = ⊥

-- The place of a text's fault is exact.
abbrev pub FaultsExactly : Type 0
FaultsExactly = (bytes : List ℕ) (tokens : List Token) (f : ParseFault) → tokens_of bytes ≡ Ok tokens → parsed tokens ≡ Err f → FaultIs tokens f
