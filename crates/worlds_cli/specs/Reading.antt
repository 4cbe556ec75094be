-- How reading one file may end.
use Rattle.std.specs.Prelude.{◌≡◌, ℕ, ◌<◌, List, length, Option, Some, Result, Err, IfSome, ◌⊎◌}
use Rattle.event_script.specs.declared.line.Line.{Line as EventLine}
use Rattle.wl_causes.specs.Reading.{Files}
use Rattle.worlds_cli.specs.declared.status.Status.{Status}
use Rattle.worlds_cli.specs.declared.status.Status.TheVariants.{Done, Memory, Words, FolderFault, Absent, Json, Shape, Script, Line, SinkFault, Wire, TooLong}

-- a file of more bytes than its limit
abbrev pub IsLonger : Option (List ℕ) → ℕ → Type 0
IsLonger found limit = (bytes : List ℕ) × (found ≡ Some bytes) × (limit < length bytes)

-- Reading the named file ends without it: the folder failed, or the file is too long.
abbrev pub StopsReading : Option Files → List ℕ → ℕ → Type 0 → Status → Type 0
StopsReading files name limit folder Memory = Unit {0}
StopsReading files name limit folder (FolderFault file) = folder × (file ≡ name)
StopsReading files name limit folder (TooLong file most) = (file ≡ name) × (most ≡ limit) × IfSome files (λ files. IsLonger (files name) limit)
StopsReading files name limit folder Done = ⊥
StopsReading files name limit folder Words = ⊥
StopsReading files name limit folder (Absent file) = ⊥
StopsReading files name limit folder (Line file number) = ⊥
StopsReading files name limit folder (Json file) = ⊥
StopsReading files name limit folder (Shape file key) = ⊥
StopsReading files name limit folder (Wire place kind) = ⊥
StopsReading files name limit folder (Script file place kind) = ⊥
StopsReading files name limit folder SinkFault = ⊥

-- This status, or want of memory.
abbrev pub IsOrMemory : Status → Status → Type 0
IsOrMemory result status = (result ≡ status) ⊎ (result ≡ Memory)

-- The file has a wrong line, the first such, or memory ran out.
abbrev pub IsWrongLine : Result (List EventLine) ℕ → List ℕ → Status → Type 0
IsWrongLine read name (Line file number) = (file ≡ name) × (read ≡ Err number)
IsWrongLine read name Memory = Unit {0}
IsWrongLine read name Done = ⊥
IsWrongLine read name Words = ⊥
IsWrongLine read name (FolderFault file) = ⊥
IsWrongLine read name (Absent file) = ⊥
IsWrongLine read name (Json file) = ⊥
IsWrongLine read name (Shape file key) = ⊥
IsWrongLine read name (Wire place kind) = ⊥
IsWrongLine read name (Script file place kind) = ⊥
IsWrongLine read name SinkFault = ⊥
IsWrongLine read name (TooLong file limit) = ⊥
