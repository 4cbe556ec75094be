-- An application over the files of a folder: its scripts and its limits, or its first refusal.
use Rattle.std.specs.Prelude.{◌≡◌, ◌⊎◌, ℕ, List, [], ◌∷◌, ◌++◌, length, map, flat_map, Option, Some, None, option_map, Result, Ok, Err, codes, nat_lt, if◌then◌else◌}
use Rattle.std.specs.Option.{option_map_or, unwrap_or}
use Rattle.js_source.specs.Source.{source_of}
use Rattle.js_source.specs.declared.fault.SourceFault.{SourceFault}
use Rattle.js_source.specs.declared.fault.SourceFault.TheVariants as source
use Rattle.js_tree.specs.Nodes.{Nodes}
use Rattle.wl_causes.specs.Reading.{Files}
use Rattle.world_heap.specs.Views.{Bounds}
use Rattle.app_manifest.specs.Manifest.{Said, said_of, said_by_none}
use Rattle.app_manifest.specs.declared.app.AppFault.{AppFault}
use Rattle.app_manifest.specs.declared.app.AppFault.TheVariants.{Folder, Absent, TooLong, Json, Shape, Script, Memory}
use Rattle.app_manifest.specs.declared.plan.ManifestFault.{ManifestFault}
use Rattle.app_manifest.specs.declared.plan.ManifestFault.TheVariants as manifest
use Rattle.app_manifest.specs.declared.plan.WindowPlan.{WindowPlan}

-- a file of an application
unfoldable pub file_of : List ℕ → List ℕ → List ℕ
file_of app name = app ++ 47 ∷ name

abbrev pub manifest_name : List ℕ
manifest_name = codes "worlds.json"

-- ---- refusals

-- The refusal of a file that must be there: absent, of more bytes than its limit, or refused for what it holds.
unfoldable pub required : List ℕ → ℕ → (List ℕ → Option AppFault) → Option (List ℕ) → Option AppFault
required file limit contents None = Some (Absent file)
required file limit contents (Some bytes) = if nat_lt limit (length bytes) then Some (TooLong file limit) else contents bytes

-- The refusal of a file that may be absent.
unfoldable pub optional : List ℕ → ℕ → (List ℕ → Option AppFault) → Option (List ℕ) → Option AppFault
optional file limit contents None = None
optional file limit contents (Some bytes) = if nat_lt limit (length bytes) then Some (TooLong file limit) else contents bytes

-- a manifest that is no JSON, or of which a key is broken
abbrev pub said_refusal : List ℕ → Result Said ManifestFault → Option AppFault
said_refusal file (Ok said) = None
said_refusal file (Err manifest.Json) = Some (Json file)
said_refusal file (Err (manifest.Shape key)) = Some (Shape file key)
said_refusal file (Err manifest.Memory) = Some Memory

-- a script with a fault of its tokens, of the grammar, or an early error
abbrev pub source_refusal : List ℕ → Result Nodes SourceFault → Option AppFault
source_refusal file (Ok tree) = None
source_refusal file (Err (source.At place kind)) = Some (Script file place kind)
source_refusal file (Err source.Memory) = Some Memory

-- The manifest has at most 1,048,576 bytes.
unfoldable pub manifest_refusal : Files → List ℕ → Option AppFault
manifest_refusal files file = optional file 1_048_576 (λ bytes. said_refusal file (said_of bytes)) (files file)

-- A script has at most 262,144 bytes.
unfoldable pub script_refusal : Files → List ℕ → Option AppFault
script_refusal files file = required file 262_144 (λ bytes. source_refusal file (source_of bytes)) (files file)

-- ---- the order of refusals

-- a file with its refusal
abbrev pub Check : Type 0 → Type 0
Check F = List ℕ × Option F

-- the preload script of a window, where it has one
abbrev pub preload_scripts : Option (List ℕ) → List (List ℕ)
preload_scripts None = []
preload_scripts (Some preload) = preload ∷ []

-- the scripts of a window: its preload script and its page script
unfoldable pub window_scripts : WindowPlan → List (List ℕ)
window_scripts window = preload_scripts window.preload ++ window.page ∷ []

-- the scripts of an application: the main script, then those of each window
abbrev pub scripts : Said → List (List ℕ)
scripts said = said.main ∷ flat_map window_scripts said.windows

-- each script with its refusal
abbrev pub script_check : Files → List ℕ → List ℕ → Check AppFault
script_check files app name = (file_of app name, script_refusal files (file_of app name))

unfoldable pub script_checks : Files → List ℕ → List (List ℕ) → List (Check AppFault)
script_checks files app names = map (script_check files app) names

-- what the manifest says, or what is said without one
abbrev pub said_or_default : Option (List ℕ) → Result Said ManifestFault
said_or_default None = Ok said_by_none
said_or_default (Some bytes) = said_of bytes

unfoldable pub app_said : Files → List ℕ → Result Said ManifestFault
app_said files app = said_or_default (files (file_of app manifest_name))

abbrev pub checks_if_said : Files → List ℕ → Result Said ManifestFault → List (Check AppFault)
checks_if_said files app (Ok said) = script_checks files app (scripts said)
checks_if_said files app (Err fault) = []

-- The files of an application in the order of refusals, each with its refusal: the manifest, and the scripts that it
-- names.
unfoldable pub app_checks : Files → List ℕ → List (Check AppFault)
app_checks files app = (file_of app manifest_name, manifest_refusal files (file_of app manifest_name)) ∷ checks_if_said files app (app_said files app)

-- the first refusal of a list
abbrev pub first_refusal : {F : Type 0} → List (Check F) → Option F
first_refusal [] = None
first_refusal ((file, Some fault) ∷ rest) = Some fault
first_refusal ((file, None) ∷ rest) = first_refusal rest

-- A file is reached at one of its places in the list: none before that place is refused.
abbrev pub IsReached : {F : Type 0} → List (Check F) → List ℕ → Type 0
IsReached [] file = ⊥
IsReached ((name, refusal) ∷ rest) file = (name ≡ file) ⊎ ((refusal ≡ None) × IsReached rest file)

-- ---- the application

-- Its limits, the name of its main script, and the bytes of its scripts: the main script's, and for each window its preload script's, none where it
-- has none, and its page script's.
pub record Texts : Type 0 where
  pub limits : Bounds
  pub name : List ℕ
  pub main : List ℕ
  pub windows : List (List ℕ × List ℕ)

abbrev pub bytes_at : Files → List ℕ → List ℕ → List ℕ
bytes_at files app name = unwrap_or (files (file_of app name)) []

unfoldable pub window_texts : Files → List ℕ → WindowPlan → List ℕ × List ℕ
window_texts files app window = (option_map_or (bytes_at files app) window.preload [], bytes_at files app window.page)

unfoldable pub texts_said : Files → List ℕ → Said → Texts
texts_said files app said = record {
  limits = said.limits;
  name = said.main;
  main = bytes_at files app said.main;
  windows = map (window_texts files app) said.windows;
}

abbrev pub texts_if_said : Files → List ℕ → Result Said ManifestFault → Texts
texts_if_said files app (Ok said) = texts_said files app said
texts_if_said files app (Err fault) = texts_said files app said_by_none

-- the texts where nothing is refused
unfoldable pub app_texts : Files → List ℕ → Texts
app_texts files app = texts_if_said files app (app_said files app)

-- The application, or its first refusal.
unfoldable pub app_of : Files → List ℕ → Result Texts AppFault
app_of files app = option_map_or (λ fault. Err fault) (first_refusal (app_checks files app)) (Ok (app_texts files app))
