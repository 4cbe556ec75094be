-- How a conversion may end without a text.
use Rattle.std.specs.Prelude.{◌≡◌, ℕ, List, Result, Ok, Err}
use Rattle.worlds_cli.specs.declared.status.Status.{Status}
use Rattle.worlds_cli.specs.declared.status.Status.TheVariants.{Done, Memory, Words, FolderFault, Absent, Json, Shape, Script, Line, SinkFault, Wire, TooLong}

-- The refusal is that of what the file holds, or memory ran out.
abbrev pub StopsConverting : Result (List ℕ) Status → Status → Type 0
StopsConverting read Memory = Unit {0}
StopsConverting read (Json file) = read ≡ Err (Json file)
StopsConverting read (Shape file key) = read ≡ Err (Shape file key)
StopsConverting read (Wire place kind) = read ≡ Err (Wire place kind)
StopsConverting read Done = ⊥
StopsConverting read Words = ⊥
StopsConverting read (FolderFault file) = ⊥
StopsConverting read (Absent file) = ⊥
StopsConverting read (Line file number) = ⊥
StopsConverting read (Script file place kind) = ⊥
StopsConverting read SinkFault = ⊥
StopsConverting read (TooLong file limit) = ⊥
