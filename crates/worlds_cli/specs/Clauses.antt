-- How a command may end, status by status.
use Rattle.std.specs.Prelude.{◌≡◌, ℕ, List, [], ◌∷◌, Option, Some, None, Result, Ok, Err, IfSome, ◌⊎◌}
use Rattle.wl_causes.specs.Reading.{Files}
use Rattle.wl_causes.specs.Taking.{with_more, TakesFront}
use Rattle.app_manifest.specs.App.{IsReached as IsReachedIn}
use Rattle.worlds_cli.specs.Answer.{answer, answer_to, checks, IsRead, text_of, status_of}
use Rattle.worlds_cli.specs.Command.{Command, command_of}
use Rattle.worlds_cli.specs.Text.{told}
use Rattle.worlds_cli.specs.declared.status.Status.{Status}
use Rattle.worlds_cli.specs.declared.status.Status.TheVariants.{Done, Memory, Words, FolderFault, Absent, Json, Shape, Script, Line, SinkFault, Wire, TooLong}

-- A file that a command reads, and none before it is refused.
abbrev pub IsReached : Option Files → Command → List ℕ → Type 0
IsReached files command file = IsRead command file × IfSome files (λ files. IsReachedIn (checks files command) file)

-- A file that the words' command reads, and none before it is refused.
abbrev pub IsReachedBy : Option Files → List (List ℕ) → List ℕ → Type 0
IsReachedBy files words file = (command : Command) × (command_of words ≡ Some command) × IsReached files command file

-- A front of the answer's text was taken; where the folder failed, it may be one of the line that tells so.
abbrev pub TakesPart : Option Files → List (List ℕ) → Type 0 → Option (List ℕ) → Option (List ℕ) → Type 0
TakesPart files words rose before now = IfSome files (λ files. TakesFront (text_of (answer files words)) before now)
    ⊎ (rose × ((file : List ℕ) × IsReachedBy files words file × TakesFront (told (FolderFault file)) before now))

-- The status is the answer's, and the line that tells it was taken.
abbrev pub IsRefused : Option Files → List (List ℕ) → Status → Option (List ℕ) → Option (List ℕ) → Type 0
IsRefused files words status before now =
    IfSome files (λ files. answer files words ≡ Err status) × (now ≡ with_more (told status) before)

-- How a command may end: its files, its words, what tells that the folder failed and that the sink failed, its status,
-- and what was taken before and after.
abbrev pub Ends : Option Files → List (List ℕ) → Type 0 → Type 0 → Status → Option (List ℕ) → Option (List ℕ) → Type 0
Ends files words folder sink Done before now =
    IfSome files (λ files. (text : List ℕ) × (answer files words ≡ Ok text) × (now ≡ with_more text before))
Ends files words folder sink Memory before now = TakesPart files words folder before now
Ends files words folder sink Words before now = (command_of words ≡ None) × (now ≡ with_more (told Words) before)
Ends files words folder sink (FolderFault file) before now =
    folder × IsReachedBy files words file × (now ≡ with_more (told (FolderFault file)) before)
Ends files words folder sink (Absent file) before now = IsRefused files words (Absent file) before now
Ends files words folder sink (Line file number) before now = IsRefused files words (Line file number) before now
Ends files words folder sink (Json file) before now = IsRefused files words (Json file) before now
Ends files words folder sink (Shape file key) before now = IsRefused files words (Shape file key) before now
Ends files words folder sink (Wire place kind) before now = IsRefused files words (Wire place kind) before now
Ends files words folder sink (Script file place kind) before now = IsRefused files words (Script file place kind) before now
Ends files words folder sink SinkFault before now = sink × TakesPart files words folder before now
Ends files words folder sink (TooLong file limit) before now = IsRefused files words (TooLong file limit) before now

-- How reading the files of a command may end without them.
abbrev pub Stops : Option Files → Command → Type 0 → Status → Type 0
Stops files command folder Memory = Unit {0}
Stops files command folder (FolderFault file) = folder × IsReached files command file
Stops files command folder (Absent file) = IfSome files (λ files. answer_to files command ≡ Err (Absent file))
Stops files command folder (Line file number) = IfSome files (λ files. answer_to files command ≡ Err (Line file number))
Stops files command folder (Json file) = IfSome files (λ files. answer_to files command ≡ Err (Json file))
Stops files command folder (Shape file key) = IfSome files (λ files. answer_to files command ≡ Err (Shape file key))
Stops files command folder (Wire place kind) = IfSome files (λ files. answer_to files command ≡ Err (Wire place kind))
Stops files command folder (Script file place kind) = IfSome files (λ files. answer_to files command ≡ Err (Script file place kind))
Stops files command folder (TooLong file limit) = IfSome files (λ files. answer_to files command ≡ Err (TooLong file limit))
Stops files command folder Done = ⊥
Stops files command folder Words = ⊥
Stops files command folder SinkFault = ⊥

-- How reading one file may end without it: the refusal is that of the file.
abbrev pub StopsAt : Option (Option Status) → List ℕ → Type 0 → Status → Type 0
StopsAt refusal file folder Memory = Unit {0}
StopsAt refusal file folder (FolderFault name) = folder × (name ≡ file)
StopsAt refusal file folder (Absent name) = IfSome refusal (λ first. first ≡ Some (Absent name))
StopsAt refusal file folder (Line name number) = IfSome refusal (λ first. first ≡ Some (Line name number))
StopsAt refusal file folder (Json name) = IfSome refusal (λ first. first ≡ Some (Json name))
StopsAt refusal file folder (Shape name key) = IfSome refusal (λ first. first ≡ Some (Shape name key))
StopsAt refusal file folder (Wire place kind) = IfSome refusal (λ first. first ≡ Some (Wire place kind))
StopsAt refusal file folder (Script name place kind) = IfSome refusal (λ first. first ≡ Some (Script name place kind))
StopsAt refusal file folder (TooLong name limit) = IfSome refusal (λ first. first ≡ Some (TooLong name limit))
StopsAt refusal file folder Done = ⊥
StopsAt refusal file folder Words = ⊥
StopsAt refusal file folder SinkFault = ⊥

-- a status that writing may end with
abbrev pub IsOfWriting : Type 0 → Status → Type 0
IsOfWriting sink Memory = Unit {0}
IsOfWriting sink SinkFault = sink
IsOfWriting sink Done = ⊥
IsOfWriting sink Words = ⊥
IsOfWriting sink (FolderFault file) = ⊥
IsOfWriting sink (Absent file) = ⊥
IsOfWriting sink (Line file number) = ⊥
IsOfWriting sink (Json file) = ⊥
IsOfWriting sink (Shape file key) = ⊥
IsOfWriting sink (Wire place kind) = ⊥
IsOfWriting sink (Script file place kind) = ⊥
IsOfWriting sink (TooLong file limit) = ⊥

-- What was taken is the line that tells the status; of the others nothing is said here.
abbrev pub TellsAnswer : Status → Option (List ℕ) → Option (List ℕ) → Type 0
TellsAnswer Done before now = Unit {0}
TellsAnswer Memory before now = Unit {0}
TellsAnswer SinkFault before now = Unit {0}
TellsAnswer Words before now = now ≡ with_more (told Words) before
TellsAnswer (FolderFault file) before now = now ≡ with_more (told (FolderFault file)) before
TellsAnswer (Absent file) before now = now ≡ with_more (told (Absent file)) before
TellsAnswer (Line file number) before now = now ≡ with_more (told (Line file number)) before
TellsAnswer (Json file) before now = now ≡ with_more (told (Json file)) before
TellsAnswer (Shape file key) before now = now ≡ with_more (told (Shape file key)) before
TellsAnswer (Wire place kind) before now = now ≡ with_more (told (Wire place kind)) before
TellsAnswer (Script file place kind) before now = now ≡ with_more (told (Script file place kind)) before
TellsAnswer (TooLong file limit) before now = now ≡ with_more (told (TooLong file limit)) before

-- A refusal was told whole and is the status, or a front of its line was taken.
abbrev pub Refuses : Status → Type 0 → Status → Option (List ℕ) → Option (List ℕ) → Type 0
Refuses refusal sink status before now = ((status ≡ refusal) × (now ≡ with_more (told refusal) before))
    ⊎ (IsOfWriting sink status × TakesFront (told refusal) before now)
