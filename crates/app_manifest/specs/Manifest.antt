-- What a manifest says: the first of its keys that is broken, or else the application's files and limits.
use Rattle.std.specs.Prelude.{ℕ, suc, ◌+◌, List, [], ◌∷◌, ◌++◌, length, Bool, true, false, ◌&&◌, nat_eq, nat_le, Option, Some, None, is_some, option_map, option_and_then, if◌then◌else◌, Result, Ok, Err, codes, decimal}
use Rattle.std.specs.Cmp.Lexicographic.{pointwise}
use Rattle.std.specs.List.{list_any}
use Rattle.std.specs.Option.{option_or, option_map_or, unwrap_or}
use Rattle.std.specs.Str.{is_utf8}
use Rattle.serde_json.specs.Data.{Data, Items, no_items, item, Members, no_members, member}
use Rattle.serde_json.specs.Find.{get, as_object, as_array, as_str, as_number, as_u64}
use Rattle.serde_json.specs.Read.{read}
use Rattle.world_heap.specs.Views.{Bounds}
use Rattle.app_manifest.specs.Names.{is_file_name}
use Rattle.app_manifest.specs.declared.plan.ManifestFault.{ManifestFault}
use Rattle.app_manifest.specs.declared.plan.ManifestFault.TheVariants.{Json, Shape}
use Rattle.app_manifest.specs.declared.plan.Place.{Place}
use Rattle.app_manifest.specs.declared.plan.Place.TheVariants.{Top, Window, Limit}
use Rattle.app_manifest.specs.declared.plan.WindowPlan.{WindowPlan}

-- ---- the first broken key

-- the value is the name of a file
unfoldable pub is_name : Data → Bool
is_name value = option_map_or is_file_name (as_str value) false

-- the value is a whole number from 1 to so many
unfoldable pub is_amount : ℕ → Data → Bool
is_amount most value = option_map_or (λ n. nat_le 1 n && nat_le n most) (option_and_then as_u64 (as_number value)) false

-- a key that may be left out, whose value is good where it stands
abbrev pub broken : (Data → Bool) → Option Data → List ℕ → Option (List ℕ)
broken good None key = None
broken good (Some value) key = if good value then None else Some key

-- a key that must be there
abbrev pub broken_or_missing : (Data → Bool) → Option Data → List ℕ → Option (List ℕ)
broken_or_missing good None key = Some key
broken_or_missing good (Some value) key = if good value then None else Some key

-- how a key is told, by the object that it stands in
unfoldable pub key_in : Place → List ℕ → List ℕ
key_in Top key = key
key_in (Window at) key = codes "windows[" ++ (decimal at ++ (codes "]." ++ key))
key_in Limit key = codes "limits." ++ key

-- the names of an object's keys
abbrev pub names_in : Place → List (List ℕ)
names_in Top = codes "main" ∷ codes "windows" ∷ codes "limits" ∷ []
names_in (Window at) = codes "preload" ∷ codes "page" ∷ []
names_in Limit = codes "steps" ∷ codes "cells" ∷ codes "places" ∷ codes "units" ∷ codes "depth" ∷ []

-- whether an object may have the key
unfoldable pub is_known : Place → List ℕ → Bool
is_known place key = list_any (pointwise nat_eq key) (names_in place)

-- The first unknown key. Members stand in byte order of their keys.
abbrev pub unknown_member : Place → Members → Option (List ℕ)
unknown_member place no_members = None
unknown_member place (member key value members) = if is_known place key then unknown_member place members else Some (key_in place key)

-- the same of an object
unfoldable pub unknown : Place → Data → Option (List ℕ)
unknown place within = option_and_then (unknown_member place) (as_object within)

-- a key that may be left out, whose value is a file name where it stands
unfoldable pub name_broken : Place → List ℕ → Data → Option (List ℕ)
name_broken place name within = broken is_name (get name within) (key_in place name)

-- a key that must be there, whose value is a file name
unfoldable pub name_broken_or_missing : Place → List ℕ → Data → Option (List ℕ)
name_broken_or_missing place name within = broken_or_missing is_name (get name within) (key_in place name)

-- the first broken key of a window: preload, page, unknown keys
unfoldable pub window_broken : ℕ → Data → Option (List ℕ)
window_broken at window = option_or (name_broken (Window at) (codes "preload") window)
    (option_or (name_broken_or_missing (Window at) (codes "page") window) (unknown (Window at) window))

-- the first broken key of windows, of which the first has that number
abbrev pub each_window_broken : ℕ → Items → Option (List ℕ)
each_window_broken at no_items = None
each_window_broken at (item window windows) = option_or (window_broken at window) (each_window_broken (at + 1) windows)

abbrev pub count : Items → ℕ
count no_items = 0
count (item value values) = suc (count values)

abbrev pub all_objects : Items → Bool
all_objects no_items = true
all_objects (item value values) = is_some (as_object value) && all_objects values

-- Windows are at most eight objects.
unfoldable pub are_windows : Items → Bool
are_windows windows = nat_le (count windows) 8 && all_objects windows

unfoldable pub windows_broken_in : Option Items → Option (List ℕ)
windows_broken_in None = Some (codes "windows")
windows_broken_in (Some windows) = if are_windows windows then each_window_broken 0 windows else Some (codes "windows")

unfoldable pub windows_broken : Option Data → Option (List ℕ)
windows_broken None = None
windows_broken (Some windows) = windows_broken_in (as_array windows)

-- a limit with its default, which is also its greatest value
unfoldable pub limit_broken : List ℕ → ℕ → Data → Option (List ℕ)
limit_broken name most limits = broken (is_amount most) (get name limits) (key_in Limit name)

-- the first broken key of limits, in the order steps, cells, places, units, depth, unknown keys
unfoldable pub each_limit_broken : Data → Option (List ℕ)
each_limit_broken limits = option_or (limit_broken (codes "steps") 1_000_000 limits)
    (option_or (limit_broken (codes "cells") 250_000 limits)
    (option_or (limit_broken (codes "places") 1_000_000 limits)
    (option_or (limit_broken (codes "units") 16_777_216 limits)
    (option_or (limit_broken (codes "depth") 1_000 limits)
    (unknown Limit limits)))))

-- Limits are an object.
unfoldable pub limits_broken : Option Data → Option (List ℕ)
limits_broken None = None
limits_broken (Some limits) = if is_some (as_object limits) then each_limit_broken limits else Some (codes "limits")

-- the first broken key of an object: main, windows, limits, unknown keys
unfoldable pub object_broken : Data → Option (List ℕ)
object_broken manifest = option_or (name_broken Top (codes "main") manifest)
    (option_or (windows_broken (get (codes "windows") manifest))
    (option_or (limits_broken (get (codes "limits") manifest))
    (unknown Top manifest)))

-- The first broken key of a manifest, `.` where it is no object.
unfoldable pub first_broken_key : Data → Option (List ℕ)
first_broken_key manifest = if is_some (as_object manifest) then object_broken manifest else Some (codes ".")

-- ---- what it says where no key is broken

-- The script files of an application: the main script, and for each window its preload script where it has one and its
-- page script; and its limits.
pub record Said : Type 0 where
  pub main : List ℕ
  pub windows : List WindowPlan
  pub limits : Bounds

-- the text of a key
unfoldable pub text_at : List ℕ → Data → Option (List ℕ)
text_at name within = option_and_then as_str (get name within)

unfoldable pub window_said : Data → WindowPlan
window_said window = record { preload = text_at (codes "preload") window; page = unwrap_or (text_at (codes "page") window) [] }

abbrev pub each_window_said : Items → List WindowPlan
each_window_said no_items = []
each_window_said (item window windows) = window_said window ∷ each_window_said windows

unfoldable pub windows_said : Option Data → List WindowPlan
windows_said windows = option_map_or each_window_said (option_and_then as_array windows) []

-- a limit, or its default
unfoldable pub limit_said : List ℕ → ℕ → Data → ℕ
limit_said name default limits = unwrap_or (option_and_then as_u64 (option_and_then as_number (get name limits))) default

unfoldable pub each_limit_said : Data → Bounds
each_limit_said limits = record {
  steps = limit_said (codes "steps") 1_000_000 limits;
  cells = limit_said (codes "cells") 250_000 limits;
  places = limit_said (codes "places") 1_000_000 limits;
  units = limit_said (codes "units") 16_777_216 limits;
  depth = limit_said (codes "depth") 1_000 limits;
}

-- the greatest values of all limits
unfoldable pub default_limits : Bounds
default_limits = record { steps = 1_000_000; cells = 250_000; places = 1_000_000; units = 16_777_216; depth = 1_000 }

unfoldable pub limits_said : Option Data → Bounds
limits_said limits = option_map_or each_limit_said limits default_limits

-- what a manifest says of which no key is broken
unfoldable pub object_said : Data → Said
object_said manifest = record {
  main = unwrap_or (text_at (codes "main") manifest) (codes "main.js");
  windows = windows_said (get (codes "windows") manifest);
  limits = limits_said (get (codes "limits") manifest);
}

-- what is said where there is no manifest
unfoldable pub said_by_none : Said
said_by_none = record { main = codes "main.js"; windows = []; limits = default_limits }

-- ---- the manifest

-- what a value says, or its first broken key
abbrev pub said_unless : Option (List ℕ) → Said → Result Said ManifestFault
said_unless None said = Ok said
said_unless (Some key) said = Err (Shape key)

unfoldable pub said_in_value : Data → Result Said ManifestFault
said_in_value value = said_unless (first_broken_key value) (object_said value)

abbrev pub said_if_read : Option Data → Result Said ManifestFault
said_if_read None = Err Json
said_if_read (Some value) = said_in_value value

-- What the bytes of a manifest say, or why they are none: they are no JSON text in UTF-8, or a key is broken.
unfoldable pub said_of : List ℕ → Result Said ManifestFault
said_of bytes = if is_utf8 bytes then said_if_read (read bytes) else Err Json
