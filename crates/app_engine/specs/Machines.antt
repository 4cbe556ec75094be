-- What is written of the entries of a world.
use Rattle.std.specs.Prelude.{ℕ, List, map}
use Rattle.world_kind.specs.declared.WorldKind.{WorldKind}
use Rattle.world_heap.specs.declared.limits.Limits.{Limits}
use Rattle.world_heap.specs.Bounded.{bounds_of}
use Rattle.js_tree.specs.Nodes.{Nodes}
use Rattle.world_log.specs.declared.entry.Entry.{Entry}
use Rattle.world_log.specs.declared.entry.WorldName.{WorldName}
use Rattle.world_log.specs.Print.{printed_log}
use Rattle.js_semantics.specs.Run.{Setting}
use Rattle.app_engine.specs.Log.{logged}
use Rattle.app_engine.specs.declared.player.PlayFault.{PlayFault}
use Rattle.app_engine.specs.declared.player.PlayFault.TheVariants.{Memory, Sink}

-- the world of a kind with these limits and this script
abbrev pub world_setting : WorldKind → Limits → Nodes → Setting
world_setting kind limits script = record { kind = kind; limits = bounds_of limits; tree = map (λ node. node.0) script }

-- the lines of a world's entries
unfoldable pub lines_of : WorldName → List Entry → List ℕ
lines_of name entries = printed_log (logged name entries)

-- A fault of the sink comes only where its count rose.
abbrev pub HasCause : Type 0 → PlayFault → Type 0
HasCause rose Memory = Unit {0}
HasCause rose Sink = rose
