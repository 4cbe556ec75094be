use Rattle.std.proofs.Common.{[]}
use Rattle.app_engine.proofs.Living.{none_keeps}
use Rattle.app_engine.proofs.Pieces.{both_pieces, front_after, front_in, lawful_text, log_text}
use Rattle.app_engine.proofs.Remaining.{kept_in_end}
use Rattle.app_engine.proofs.player.play.Goals as goal

pub returns-in-Err-clause-front : goal.returns-in-Err-clause-front
returns-in-Err-clause-front g c = front_in _ _ _ _ _ (log_text c.args.app.now) c.play_main.ensures.front

pub play_windows-requires-clause-keeps : goal.play_windows-requires-clause-keeps
play_windows-requires-clause-keeps g c = (_, c.in-Ok.ensures.keeps [] (none_keeps _ c.new-kept.ensures.live c.new-kept.ensures.pool))

pub returns-in-Err-play_windows-clause-front : goal.returns-in-Err-play_windows-clause-front
returns-in-Err-play_windows-clause-front g c = front_after _ _ _ _ _ _ (log_text c.args.app.now) c.in-Ok.ensures.ok (rw c.as_slice.ensures at c.play_windows.ensures.front)

pub returns-clause-ok : goal.returns-clause-ok
returns-clause-ok g c = both_pieces _ _ _ _ _ _ (log_text c.args.app.now) c.in-Ok.ensures.ok (rw c.as_slice.ensures at c.in-Ok-play_windows.ensures.ok)

pub returns-clause-lawful : goal.returns-clause-lawful
returns-clause-lawful g c = lawful_text _ _ _ (both_pieces _ _ _ _ _ _ (log_text c.args.app.now) c.in-Ok.ensures.ok (rw c.as_slice.ensures at c.in-Ok-play_windows.ensures.ok))

pub returns-clause-kept : goal.returns-clause-kept
returns-clause-kept g c =
    kept_in_end c.args.app.now _
    (rw c.as_slice.ensures at c.in-Ok-play_windows.ensures.keeps _ (c.in-Ok.ensures.keeps [] (none_keeps _ c.new-kept.ensures.live c.new-kept.ensures.pool)))

pub returns-clause-front : goal.returns-clause-front
returns-clause-front g c = front_after _ _ _ _ _ _ (log_text c.args.app.now) c.in-Ok.ensures.ok (rw c.as_slice.ensures at c.play_windows.ensures.front)
