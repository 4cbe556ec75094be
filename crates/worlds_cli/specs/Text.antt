-- What is told of a status: its number, and the line of a refusal.
use Rattle.std.specs.Prelude.{ℕ, List, [], ◌∷◌, ◌++◌, codes, decimal}
use Rattle.js_source.specs.Kinds.{word_of}
use Rattle.worlds_cli.specs.declared.status.ScriptKind.{ScriptKind}
use Rattle.worlds_cli.specs.declared.status.ScriptKind.TheVariants.{NotBuilt, Source}
use Rattle.v8_wire.specs.declared.kind.WireKind.{WireKind}
use Rattle.v8_wire.specs.declared.kind.WireKind.TheVariants as wire
use Rattle.worlds_cli.specs.declared.status.Status.{Status}
use Rattle.worlds_cli.specs.declared.status.Status.TheVariants.{Done, Memory, Words, FolderFault, Absent, Json, Shape, Script, Line, SinkFault, Wire, TooLong}

-- the number that the process ends with
abbrev pub number_of : Status → ℕ
number_of Done = 0
number_of Memory = 1
number_of Words = 2
number_of (FolderFault file) = 3
number_of (Absent file) = 4
number_of (Json file) = 5
number_of (Shape file key) = 5
number_of (Script file place kind) = 6
number_of (Line file number) = 7
number_of SinkFault = 8
number_of (Wire place kind) = 9
number_of (TooLong file limit) = 11

abbrev pub kind_word : ScriptKind → List ℕ
kind_word NotBuilt = codes "notbuilt"
kind_word (Source kind) = word_of kind

-- the word of what is wrong with the bytes of a message
unfoldable pub wire_word : WireKind → List ℕ
wire_word wire.Header = codes "header"
wire_word wire.Version = codes "version"
wire_word wire.Cut = codes "cut"
wire_word wire.Tag = codes "tag"
wire_word wire.Varint = codes "varint"
wire_word wire.Reference = codes "reference"
wire_word wire.Count = codes "count"
wire_word wire.Number = codes "number"
wire_word wire.Text = codes "text"
wire_word wire.Hole = codes "hole"
wire_word wire.Key = codes "key"
wire_word wire.Trailing = codes "trailing"
wire_word wire.TooLarge = codes "toolarge"
wire_word wire.View = codes "view"

-- The line that tells a refusal: `!`, a word and its values, with one space between them. Want of memory and a sink that
-- failed are told by the number alone.
unfoldable pub told : Status → List ℕ
told Done = []
told Memory = []
told Words = codes "! words\n"
told (FolderFault file) = codes "! read " ++ (file ++ 10 ∷ [])
told (Absent file) = codes "! absent " ++ (file ++ 10 ∷ [])
told (Script file place kind) = codes "! script " ++ (file ++ (32 ∷ decimal place ++ (32 ∷ kind_word kind ++ 10 ∷ [])))
told (Json file) = codes "! json " ++ (file ++ 10 ∷ [])
told (Shape file key) = codes "! shape " ++ (file ++ (32 ∷ key ++ 10 ∷ []))
told (Line file number) = codes "! line " ++ (file ++ (32 ∷ decimal number ++ 10 ∷ []))
told SinkFault = []
told (Wire place kind) = codes "! wire " ++ (decimal place ++ (32 ∷ wire_word kind ++ 10 ∷ []))
told (TooLong file limit) = codes "! long " ++ (file ++ (32 ∷ decimal limit ++ 10 ∷ []))
