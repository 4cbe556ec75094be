-- What a call leaves of a folder and of a sink in memory.
use Rattle.std.specs.Prelude.{ℕ, ◌+◌, ◌-◌, ◌^◌, List, ◌++◌, length, min, Bool, true, false, Option, Result, Ok, Err}
use Rattle.std.specs.declared.vec.Vec.{Vec}
use Rattle.std.specs.declared.alloc.Global.{Global}
use Rattle.wl_causes.specs.declared.folder.FolderFault.{FolderFault}
use Rattle.wl_causes.specs.declared.folder.FolderFault.TheVariants.{Failed, TooLong, Memory}
use Rattle.wl_causes.specs.declared.sink.SinkFailed.{SinkFailed}
use Rattle.wl_causes.specs.Memory.{Shelf, Tray}

-- a fault of the folder
abbrev pub is_failed : Result (Option (Vec ℕ Global)) FolderFault → Bool
is_failed (Ok file) = false
is_failed (Err Failed) = true
is_failed (Err TooLong) = false
is_failed (Err Memory) = false

-- one more, on a counter of 64 bits that stops at its last value
abbrev pub counted : ℕ → ℕ
counted n = min (n + 1) (2 ^ 64 - 1)

-- a folder after one call
abbrev pub shelf_after : Bool → Shelf → Shelf
shelf_after true shelf = record shelf { calls = counted shelf.calls; faults = counted shelf.faults }
shelf_after false shelf = record shelf { calls = counted shelf.calls }

-- a sink after one call, but for its room
abbrev pub tray_after : Result ℕ SinkFailed → List ℕ → Tray → Tray
tray_after (Ok count) piece tray = record tray { taken = tray.taken ++ piece; calls = counted tray.calls }
tray_after (Err failed) piece tray = record tray { calls = counted tray.calls; faults = counted tray.faults }
