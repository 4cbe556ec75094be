-- What the words of a command line ask for.
use Rattle.std.specs.Prelude.{ℕ, List, [], ◌∷◌, ◌++◌, Option, Some, None, codes, map, string_bytes, nat_eq, if◌then◌else◌}
use Rattle.std.specs.Cmp.Lexicographic.{pointwise}
use Rattle.std.specs.declared.string.String.{String}
use Rattle.std.specs.declared.alloc.Global.{Global}
use Rattle.worlds_cli.specs.declared.words.Asked.{Asked}
use Rattle.worlds_cli.specs.declared.words.Asked.TheVariants.{Run, Convert, Nothing}
use Rattle.worlds_cli.specs.declared.words.Conversion.{Conversion}
use Rattle.worlds_cli.specs.declared.words.Conversion.TheVariants.{Wire, Unwire}

-- the bytes of the words
abbrev pub spelled : List (String Global) → List (List ℕ)
spelled words = map string_bytes words

-- A command: an application is played over an event script, both named, or a named file is converted.
pub data Command : Type 0 where
  run : (app script : List ℕ) → Command
  convert : (conversion : Conversion) (file : List ℕ) → Command

-- The command that the words are: `run APP SCRIPT`, `wire FILE` or `unwire FILE`.
unfoldable pub command_of : List (List ℕ) → Option Command
command_of (word ∷ app ∷ script ∷ []) = if pointwise nat_eq word (codes "run") then Some (run app script) else None
command_of (word ∷ file ∷ []) = if pointwise nat_eq word (codes "wire") then Some (convert Wire file)
    else if pointwise nat_eq word (codes "unwire") then Some (convert Unwire file)
    else None
command_of _ = None

-- the command that the code found
abbrev pub asked_for : Asked → Option Command
asked_for (Run app script) = Some (run app.now script.now)
asked_for (Convert conversion file) = Some (convert conversion file.now)
asked_for Nothing = None
