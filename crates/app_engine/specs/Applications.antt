-- An application that was read, and the lines of its log.
use Rattle.std.specs.Prelude.{ℕ, ◌+◌, List, [], ◌∷◌, ◌++◌, map, if◌then◌else◌}
use Rattle.std.specs.List.{list_any}
use Rattle.world_kind.specs.declared.WorldKind.TheVariants.{Main, Preload, Page}
use Rattle.world_heap.specs.declared.limits.Limits.{Limits}
use Rattle.world_heap.specs.Bounded.{bounds_of}
use Rattle.js_tree.specs.Nodes.{Nodes}
use Rattle.world_log.specs.Print.{main_name}
use Rattle.js_semantics.specs.Alone.{alone}
use Rattle.app_manifest.specs.declared.app.App.{App}
use Rattle.app_manifest.specs.declared.app.WindowApp.{WindowApp}
use Rattle.app_engine.specs.Log.{Application, WindowScripts, first_load, is_stop, page_name, preload_name}
use Rattle.app_engine.specs.Machines.{lines_of, world_setting}

-- the scripts of a window
abbrev pub window_of : WindowApp → WindowScripts
window_of window = record { preload = map (λ node. node.0) window.preload.tree; page = map (λ node. node.0) window.page.tree }

-- an application, by its limits and the nodes of its scripts
unfoldable pub application_of : App → Application
application_of app = record { limits = bounds_of app.limits; main = map (λ node. node.0) app.main.tree; windows = map window_of app.windows }

-- the lines of main's part of the log
unfoldable pub main_lines : Limits → Nodes → List ℕ
main_lines limits script = lines_of main_name (alone (world_setting Main limits script) first_load)

-- the lines of a window's part of the log: its preload script's, and its page's where the preload script's world hasn't
-- stopped
unfoldable pub window_lines : Limits → ℕ → WindowApp → List ℕ
window_lines limits number window =
    lines_of (preload_name number) (alone (world_setting Preload limits window.preload.tree) first_load)
    ++ (if list_any is_stop (alone (world_setting Preload limits window.preload.tree) first_load) then [] else lines_of (page_name number) (alone (world_setting Page limits window.page.tree) first_load))

-- the lines of the windows, which are numbered from here on
abbrev pub windows_lines : Limits → ℕ → List WindowApp → List ℕ
windows_lines limits number [] = []
windows_lines limits number (window ∷ windows) = window_lines limits number window ++ windows_lines limits (number + 1) windows
