use Rattle.std.proofs.Common.{arith}
use Rattle.app_engine.proofs.Owing.{one_kept}
use Rattle.app_engine.proofs.Pieces.{item_then, windows_front, windows_next}
use Rattle.app_engine.proofs.player.play_windows.Goals as goal

pub returns-in-Err-clause-front : goal.returns-in-Err-clause-front
returns-in-Err-clause-front g c =
    windows_front c.args.limits c.args.windows.now _ _ c.windows.number c.window-item.result _ _ _
    (item_then c.args.windows.now c.windows.window-index c.window-item.result c.windows-test.true c.window-item.is) c.windows.invariant.written c.play_window.ensures.front

pub windows-preserved : goal.windows-preserved
windows-preserved g c = record {
  written = windows_next c.args.limits c.args.windows.now _ _ c.windows.number c.window-item.result _ _ _
      (item_then c.args.windows.now c.windows.window-index c.window-item.result c.windows-test.true c.window-item.is) c.windows.invariant.written c.in-Ok.ensures.ok;
  kept = one_kept c.args.limits c.args.windows.now _ _ c.windows.number c.window-item.result _ _ _
      (item_then c.args.windows.now c.windows.window-index c.window-item.result c.windows-test.true c.window-item.is) c.windows.invariant.kept c.in-Ok.ensures.keeps;
  given = omega (arith, c.windows.invariant.given, c.in-Ok.ensures.given);
  room = omega (arith, c.windows.invariant.room, c.in-Ok.ensures.room);
  number = omega arith;
  later = omega arith;
}
