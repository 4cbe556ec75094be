-- The application that texts spell.
use Rattle.std.specs.Prelude.{ℕ, List, [], map, Result, Ok, Err}
use Rattle.js_source.specs.Source.{source_of}
use Rattle.js_source.specs.declared.fault.SourceFault.{SourceFault}
use Rattle.js_tree.specs.Nodes.{Nodes}
use Rattle.js_tree.specs.declared.node.Node.{Node}
use Rattle.app_manifest.specs.App.{Texts}
use Rattle.app_engine.specs.Log.{Application, WindowScripts}

-- the nodes of a script, where one was read
abbrev pub nodes_read : Result Nodes SourceFault → List Node
nodes_read (Ok tree) = map (λ node. node.0) tree
nodes_read (Err fault) = []

-- the nodes of the script that bytes are
unfoldable pub script_nodes : List ℕ → List Node
script_nodes bytes = nodes_read (source_of bytes)

abbrev pub window_spelled : List ℕ × List ℕ → WindowScripts
window_spelled window = record { preload = script_nodes window.0; page = script_nodes window.1 }

-- the application of these limits and texts of scripts
unfoldable pub application_spelled : Texts → Application
application_spelled texts = record { limits = texts.limits; main = script_nodes texts.main; windows = map window_spelled texts.windows }
