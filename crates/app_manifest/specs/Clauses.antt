-- How reading an application may end.
use Rattle.std.specs.Prelude.{◌≡◌, ℕ, ◌<◌, List, [], ◌∷◌, ◌++◌, length, map, Bool, true, Option, Some, None, IfSome, ◌⊎◌}
use Rattle.wl_causes.specs.Reading.{Files}
use Rattle.world_heap.specs.Bounded.{bounds_of}
use Rattle.app_manifest.specs.Names.{is_file_name}
use Rattle.app_manifest.specs.App.{Check, Texts, file_of, first_refusal, IsReached, script_checks}
use Rattle.app_manifest.specs.declared.app.App.{App}
use Rattle.app_manifest.specs.declared.app.WindowApp.{WindowApp}
use Rattle.app_manifest.specs.declared.app.AppFault.{AppFault}
use Rattle.app_manifest.specs.declared.app.AppFault.TheVariants.{Folder, Absent, TooLong, Json, Shape, Script, Memory}

-- what an application's texts are
abbrev pub window_read : WindowApp → List ℕ × List ℕ
window_read window = (window.preload.bytes, window.page.bytes)

abbrev pub texts_of : App → Texts
texts_of app = record { limits = bounds_of app.limits; name = app.name; main = app.main.bytes; windows = map window_read app.windows }

-- a file of the application's folder
abbrev pub IsNamed : List ℕ → List ℕ → Type 0
IsNamed app file = (name : List ℕ) × (is_file_name name ≡ true) × (file ≡ file_of app name)

-- How reading the files of these checks may end without them: the folder failed at one that was reached, the first
-- refusal, or want of memory.
abbrev pub Stops : List ℕ → Option Files → (Files → List (Check AppFault)) → Type 0 → AppFault → Type 0
Stops app files checks folder Memory = Unit {0}
Stops app files checks folder (Folder file) = folder × IsNamed app file × IfSome files (λ told. IsReached (checks told) file)
Stops app files checks folder (Absent file) = IfSome files (λ told. first_refusal (checks told) ≡ Some (Absent file))
Stops app files checks folder (TooLong file limit) = IfSome files (λ told. first_refusal (checks told) ≡ Some (TooLong file limit))
Stops app files checks folder (Json file) = IfSome files (λ told. first_refusal (checks told) ≡ Some (Json file))
Stops app files checks folder (Shape file key) = IfSome files (λ told. first_refusal (checks told) ≡ Some (Shape file key))
Stops app files checks folder (Script file place kind) = IfSome files (λ told. first_refusal (checks told) ≡ Some (Script file place kind))

-- Scripts were read: none is refused, and this is what they are.
abbrev pub Reads : {A : Type 0} → Option Files → List ℕ → List (List ℕ) → (Files → A) → A → Type 0
Reads files app names told it = IfSome files (λ f. (first_refusal (script_checks f app names) ≡ None) × (it ≡ told f))

-- a file of more bytes than its limit
abbrev pub IsLonger : Option (List ℕ) → ℕ → Type 0
IsLonger found limit = (bytes : List ℕ) × (found ≡ Some bytes) × (limit < length bytes)

-- Reading one file ends without it: the folder failed, or the file is too long.
abbrev pub StopsReading : Option Files → List ℕ → ℕ → Type 0 → AppFault → Type 0
StopsReading files name limit folder Memory = Unit {0}
StopsReading files name limit folder (Folder file) = folder × (file ≡ name)
StopsReading files name limit folder (TooLong file most) = (file ≡ name) × (most ≡ limit) × IfSome files (λ f. IsLonger (f name) limit)
StopsReading files name limit folder (Absent file) = ⊥
StopsReading files name limit folder (Json file) = ⊥
StopsReading files name limit folder (Shape file key) = ⊥
StopsReading files name limit folder (Script file place kind) = ⊥

-- How reading a file may end without what it holds.
abbrev pub StopsAt : Option Files → (Files → Option AppFault) → List ℕ → Type 0 → AppFault → Type 0
StopsAt files refusal name folder Memory = Unit {0}
StopsAt files refusal name folder (Folder file) = folder × (file ≡ name)
StopsAt files refusal name folder (Absent file) = IfSome files (λ f. refusal f ≡ Some (Absent file))
StopsAt files refusal name folder (TooLong file limit) = IfSome files (λ f. refusal f ≡ Some (TooLong file limit))
StopsAt files refusal name folder (Json file) = IfSome files (λ f. refusal f ≡ Some (Json file))
StopsAt files refusal name folder (Shape file key) = IfSome files (λ f. refusal f ≡ Some (Shape file key))
StopsAt files refusal name folder (Script file place kind) = IfSome files (λ f. refusal f ≡ Some (Script file place kind))

-- This refusal, or want of memory.
abbrev pub IsOrMemory : AppFault → AppFault → Type 0
IsOrMemory result fault = (result ≡ fault) ⊎ (result ≡ Memory)

-- The refusal is that of what a file holds, or memory ran out.
abbrev pub Refuses : Option AppFault → AppFault → Type 0
Refuses told Memory = Unit {0}
Refuses told (Folder file) = ⊥
Refuses told (Absent file) = told ≡ Some (Absent file)
Refuses told (TooLong file limit) = told ≡ Some (TooLong file limit)
Refuses told (Json file) = told ≡ Some (Json file)
Refuses told (Shape file key) = told ≡ Some (Shape file key)
Refuses told (Script file place kind) = told ≡ Some (Script file place kind)
