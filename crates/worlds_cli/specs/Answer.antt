-- The answer of a command over the files of a folder: its first refusal, or else its text.
use Rattle.std.specs.Prelude.{◌≡◌, ◌⊎◌, ℕ, ◌<◌, ◌-◌, List, [], ◌∷◌, ◌++◌, length, Bool, true, false, Option, Some, None, Result, Ok, Err, codes, map, nat_lt, option_map, if◌then◌else◌}
use Rattle.std.specs.Option.{option_map_or}
use Rattle.app_manifest.specs.App.{Check, Texts, app_checks, app_texts, file_of, first_refusal, manifest_name}
use Rattle.app_manifest.specs.Clauses.{IsNamed}
use Rattle.app_manifest.specs.declared.app.AppFault.{AppFault}
use Rattle.app_manifest.specs.declared.app.AppFault.TheVariants as refusal
use Rattle.app_engine.specs.Log.{log_of}
use Rattle.app_engine.specs.Scripts.{application_spelled}
use Rattle.event_script.specs.Script.{script}
use Rattle.event_script.specs.declared.line.Line.{Line as EventLine}
use Rattle.hex.specs.Hex.{encode_upper}
use Rattle.parcel.specs.declared.parcel.Parcel.{Parcel}
use Rattle.parcel.specs.Text.{text_of as parcel_text}
use Rattle.v8_wire.specs.Item.{parcel_at}
use Rattle.v8_wire.specs.Spelling.{spelled as spelled_bytes}
use Rattle.v8_wire.specs.declared.kind.WireKind.{WireKind}
use Rattle.wire_input.specs.Input.{parcel_of}
use Rattle.wire_input.specs.declared.InputFault.{InputFault}
use Rattle.wire_input.specs.declared.InputFault.TheVariants as input
use Rattle.wl_causes.specs.Reading.{Files}
use Rattle.world_log.specs.Print.{printed_log}
use Rattle.worlds_cli.specs.Command.{Command, run, convert, command_of}
use Rattle.worlds_cli.specs.Text.{told}
use Rattle.worlds_cli.specs.declared.status.Status.{Status}
use Rattle.worlds_cli.specs.declared.status.Status.TheVariants.{Done, Memory, Words, FolderFault, Absent, Json, Shape, Script, Line, TooLong}
use Rattle.worlds_cli.specs.declared.status.Status.TheVariants as refused
use Rattle.worlds_cli.specs.declared.words.Conversion.{Conversion}
use Rattle.worlds_cli.specs.declared.words.Conversion.TheVariants.{Wire, Unwire}
use Rattle.worlds_cli.specs.declared.status.ScriptKind.TheVariants.{NotBuilt, Source}

-- The refusal of a file that must be there: absent, of more bytes than its limit, or refused for what it holds.
unfoldable pub required : List ℕ → ℕ → (List ℕ → Option Status) → Option (List ℕ) → Option Status
required file limit contents None = Some (Absent file)
required file limit contents (Some bytes) = if nat_lt limit (length bytes) then Some (TooLong file limit) else contents bytes

-- the refusal of a result
abbrev pub refusal_of : Result (List ℕ) Status → Option Status
refusal_of (Ok text) = None
refusal_of (Err status) = Some status

-- The bytes of a value's message, in upper-case hexadecimal digits.
abbrev pub wire_line : List ℕ → Result Parcel InputFault → Result (List ℕ) Status
wire_line file (Ok parcel) = Ok (encode_upper (spelled_bytes parcel) ++ 10 ∷ [])
wire_line file (Err input.Json) = Err (Json file)
wire_line file (Err input.Shape) = Err (Shape file (codes "."))
wire_line file (Err input.Memory) = Err Memory

-- The text of what the bytes of a message spell where no ports came along, or the place of the first fault, counted
-- from the start of so many bytes, and its kind.
abbrev pub unwire_line : {F : Type 0} → Result Parcel F → (F → ℕ) → (F → WireKind) → ℕ → Result (List ℕ) Status
unwire_line (Ok parcel) left kind size = Ok (parcel_text parcel ++ 10 ∷ [])
unwire_line (Err fault) left kind size = Err (refused.Wire (size - left fault) (kind fault))

abbrev pub unwired : List ℕ → Result (List ℕ) Status
unwired bytes = unwire_line (parcel_at 0 bytes) (λ fault. fault.left) (λ fault. fault.kind) (length bytes)

-- the lines of an event script, or the number of its first wrong line
abbrev pub line_refusal : List ℕ → Result (List EventLine) ℕ → Option Status
line_refusal file (Ok lines) = None
line_refusal file (Err number) = Some (Line file number)

-- An event script has at most 1,048,576 bytes and no wrong line.
unfoldable pub events_refusal : Files → List ℕ → Option Status
events_refusal files file = required file 1_048_576 (λ bytes. line_refusal file (script bytes)) (files file)

-- The refusal of an application, as a status.
abbrev pub fault_status : AppFault → Status
fault_status (refusal.Folder file) = FolderFault file
fault_status (refusal.Absent file) = Absent file
fault_status (refusal.TooLong file limit) = TooLong file limit
fault_status (refusal.Json file) = Json file
fault_status (refusal.Shape file key) = Shape file key
fault_status (refusal.Script file place kind) = Script file place (Source kind)
fault_status refusal.Memory = Memory

abbrev pub as_status : Check AppFault → Check Status
as_status check = (check.0, option_map fault_status check.1)

-- ---- what isn't played yet: the lines of an event script

-- a file that can't be played yet where the test says so
abbrev pub unplayed_if : Bool → List ℕ → Check Status
unplayed_if true file = (file, Some (Script file 0 NotBuilt))
unplayed_if false file = (file, None)

-- whether a line has an effect
abbrev pub has_lines : Result (List EventLine) ℕ → Bool
has_lines (Ok []) = false
has_lines (Ok (line ∷ lines)) = true
has_lines (Err number) = false

-- whether the event script has a line with an effect
unfoldable pub is_eventful : Files → List ℕ → Bool
is_eventful files events = option_map_or (λ bytes. has_lines (script bytes)) (files events) false

-- What a conversion makes of a file's bytes: a text, or the refusal of what they hold.
unfoldable pub converted : Conversion → List ℕ → List ℕ → Result (List ℕ) Status
converted Wire file bytes = wire_line file (parcel_of bytes)
converted Unwire file bytes = unwired bytes

-- The file is refused where its bytes can't be converted.
unfoldable pub conversion_refusal : Conversion → Files → List ℕ → Option Status
conversion_refusal conversion files file = required file 4_194_304 (λ bytes. refusal_of (converted conversion file bytes)) (files file)

-- The files that a command reads, in the order of refusals, each with its refusal: those of the application, the event
-- script, and then once more the event script where it has a line with an effect, which can't be played yet.
unfoldable pub checks : Files → Command → List (Check Status)
checks files (run app events) = map as_status (app_checks files app) ++ (events, events_refusal files events)
    ∷ unplayed_if (is_eventful files events) events ∷ []
checks files (convert conversion file) = (file, conversion_refusal conversion files file) ∷ []

-- A file that a command may read: `run` those of the application's folder, and the event script.
abbrev pub IsRead : Command → List ℕ → Type 0
IsRead (run app events) file = IsNamed app file ⊎ (file ≡ events)
IsRead (convert conversion name) file = file ≡ name

-- the text of a result
abbrev pub text_or_none : Result (List ℕ) Status → List ℕ
text_or_none (Ok text) = text
text_or_none (Err status) = []

-- What the command prints where nothing is refused: of `run` the printed log of the application, of a conversion its text.
unfoldable pub output : Files → Command → List ℕ
output files (run app events) = printed_log (log_of (application_spelled (app_texts files app)))
output files (convert conversion file) = option_map_or (λ bytes. text_or_none (converted conversion file bytes)) (files file) []

-- the answer of a command
unfoldable pub answer_to : Files → Command → Result (List ℕ) Status
answer_to files command = option_map_or (λ status. Err status) (first_refusal (checks files command)) (Ok (output files command))

-- The answer to the words.
unfoldable pub answer : Files → List (List ℕ) → Result (List ℕ) Status
answer files words = option_map_or (answer_to files) (command_of words) (Err Words)

-- the text and the status of an answer
abbrev pub text_of : Result (List ℕ) Status → List ℕ
text_of (Ok text) = text
text_of (Err status) = told status

abbrev pub status_of : Result (List ℕ) Status → Status
status_of (Ok text) = Done
status_of (Err status) = status
