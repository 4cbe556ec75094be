-- The application that the texts of an application spell.
use Rattle.std.proofs.Common.{◌≡◌, List, [], ◌∷◌, map, ap, refl}
use Rattle.std.specs.Prelude.{Ok}
use Rattle.js_tree.specs.declared.node.Node.{Node}
use Rattle.app_manifest.specs.Clauses.{texts_of, window_read}
use Rattle.app_manifest.specs.declared.app.App.{App}
use Rattle.app_manifest.specs.declared.app.Script.{Script}
use Rattle.app_manifest.specs.declared.app.WindowApp.{WindowApp}
use Rattle.app_engine.specs.Log.{Application, WindowScripts}
use Rattle.app_engine.specs.Applications.{application_of, window_of}
use Rattle.app_engine.specs.Scripts.{application_spelled, nodes_read, script_nodes, window_spelled}

script_is : (script : Script) → script_nodes script.bytes ≡ map (λ node. node.0) script.tree
unfolding script_nodes
script_is script = ap nodes_read script.read

windows_are : (windows : List WindowApp) → map window_spelled (map window_read windows) ≡ map window_of windows
windows_are [] = refl
windows_are (window ∷ windows) =
    let preload = script_is window.preload in
    let page = script_is window.page in
    let others = windows_are windows in
    λ i. record { preload = preload i; page = page i } ∷ others i

pub spelled_is : (app : App) → application_spelled (texts_of app) ≡ application_of app
unfolding application_spelled application_of
spelled_is app =
    let main = script_is app.main in
    let windows = windows_are app.windows in
    λ i. record { limits = (application_of app).limits; main = main i; windows = windows i }
