-- What an event script does, line by line. Lines end with LF or at the end of the text, and one CR before an LF is no
-- part of its line.
use Rattle.std.specs.Prelude.{◌≡◌, ℕ, ◌+◌, List, [], ◌∷◌, Option, Some, None, Result, Ok, Err}
use Rattle.std.specs.Str.Lines.{lines}
use Rattle.event_script.specs.declared.line.Line.{Line}
use Rattle.event_script.specs.declared.line.LineKind.{LineKind}
use Rattle.event_script.specs.declared.line.LineFault.{LineFault}
use Rattle.event_script.specs.declared.line.LineFault.TheVariants.{At, Memory}
use Rattle.event_script.specs.Lines.{line_of}

abbrev pub before : Line → Result (List Line) ℕ → Result (List Line) ℕ
before line (Ok lines) = Ok (line ∷ lines)
before line (Err number) = Err number

-- a line with its number, and what follows
abbrev pub then : ℕ → Option (Option LineKind) → Result (List Line) ℕ → Result (List Line) ℕ
then number None rest = Err number
then number (Some None) rest = rest
then number (Some (Some what)) rest = before (record { number = number; what = what }) rest

-- the lines with an effect, or the number of the first wrong line, where the first line has that number
unfoldable pub numbered : ℕ → List (List ℕ) → Result (List Line) ℕ
numbered number [] = Ok []
numbered number (line ∷ rest) = then number (line_of line) (numbered (number + 1) rest)

-- the lines with an effect, or the number of the first wrong line
unfoldable pub script : List ℕ → Result (List Line) ℕ
script bytes = numbered 1 (lines bytes)

-- The fault is the first wrong line; memory may run out everywhere.
abbrev pub IsFault : Result (List Line) ℕ → LineFault → Type 0
IsFault read (At number) = read ≡ Err number
IsFault read Memory = Unit {0}
