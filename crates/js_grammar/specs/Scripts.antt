-- Scripts, how they are read, and what is promised of that.
use Rattle.std.specs.Prelude.{◌≡◌, ◌<◌, ◌^◌, ℕ, suc, Bool, false, List, [], ◌∷◌, ◌++◌, length, Ok, Err, true}
use Rattle.grammar.specs.Kinds.{among}
use Rattle.grammar.specs.Grammar.{Tree, Derives, Viable, NoneGoesOn}
use Rattle.grammar.specs.Reading.{Answer, read}
use Rattle.js_token.specs.declared.token.Token.{Token}
use Rattle.js_grammar.specs.Kinds.{kind_of, kinds, end}
use Rattle.js_grammar.specs.Script.{script_language, script, nesting}

-- These tokens are a script, as this tree, in which nothing nests deeper than the limit.
unfoldable pub IsScript : List Token → Tree Token → Type 0
IsScript tokens tree = Derives script_language (suc nesting) script tokens [] tree

-- the tree of a script, or the first fault
unfoldable pub read_script : List Token → Answer Token
read_script tokens = read script_language (2 ^ 64) (suc nesting) script tokens

abbrev pub is_end : Token → Bool
is_end t = among (kinds (end ∷ [])) (kind_of t)

abbrev pub NoEnd : List Token → Type 0
NoEnd [] = Unit {0}
NoEnd (t ∷ ts) = (is_end t ≡ false) × NoEnd ts

-- They end with the one token that says so.
abbrev pub Ended : List Token → Type 0
Ended tokens = (front : List Token) × (t : Token) × (tokens ≡ front ++ t ∷ []) × NoEnd front × (is_end t ≡ true)

-- What is read is a script, and what is a script is read.
abbrev pub ReadsScripts : Type 0
ReadsScripts = (tokens : List Token) (tree : Tree Token) → length tokens < 2 ^ 64
    → (read_script tokens ≡ Ok (tree, []) → IsScript tokens tree) × (IsScript tokens tree → read_script tokens ≡ Ok (tree, []))

-- Of a text's tokens nothing is left where they are read.
abbrev pub ReadsToTheEnd : Type 0
ReadsToTheEnd = (tokens rest : List Token) (tree : Tree Token) → Ended tokens → read_script tokens ≡ Ok (tree, rest) → rest ≡ []

-- There is one tree.
abbrev pub HasOneTree : Type 0
HasOneTree = (tokens : List Token) (a b : Tree Token) → IsScript tokens a → IsScript tokens b → a ≡ b

-- Some script begins with what stands before a fault. No script has the fault's token behind that: none whatever where the fault is not one of nesting, and
-- none that nests within the limit where it is.
abbrev pub IsExact : Type 0
IsExact = (tokens left : List Token) (deep : Bool) → length tokens < 2 ^ 64 → read_script tokens ≡ Err (deep, left)
    → (front : List Token) × (tokens ≡ front ++ left) × Viable script_language script front
    × NoneGoesOn script_language (suc nesting) script front left × (deep ≡ false → (depth : ℕ) → NoneGoesOn script_language depth script front left)

-- A fault of a text's tokens is at one of them.
abbrev pub FaultsAtTokens : Type 0
FaultsAtTokens = (tokens left : List Token) (deep : Bool) → Ended tokens → read_script tokens ≡ Err (deep, left) → (t : Token) × (rest : List Token) × (left ≡ t ∷ rest)
