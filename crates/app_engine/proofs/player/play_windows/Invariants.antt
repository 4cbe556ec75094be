use Rattle.std.proofs.Common.{◌≡◌, ◌≤◌, ◌+◌, ◌*◌, drop, length}
use Rattle.app_engine.proofs.Pieces.{WindowsWritten}
use Rattle.app_engine.proofs.Owing.{WindowsKept}
use Rattle.app_engine.proofs.player.play_windows.Given as goal

abbrev pub invariant-windows : goal.invariant-windows
invariant-windows g l = record {
  written : WindowsWritten l.limits l.windows (drop l.window-index l.windows) l.number (g.K.Sink.taken l.initial.sink) (g.K.Sink.taken l.sink);
  kept : WindowsKept l.limits l.windows (drop l.window-index l.windows) l.number l.initial.kept l.kept;
  given : l.kept.pool.given ≤ l.initial.kept.pool.given + 2 * l.window-index;
  room : length l.kept.pool.maps ≤ length l.initial.kept.pool.maps + 2 * l.window-index;
  number : l.number ≡ l.window-index + 1;
  later : g.K.Sink.faults l.initial.sink ≤ g.K.Sink.faults l.sink;
}
