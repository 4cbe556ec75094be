use Rattle.std.proofs.Common.{[], ◌∷◌}
use Rattle.wl_causes.specs.Causes.{Rose}
use Rattle.app_manifest.specs.App.{bytes_at, preload_scripts, window_scripts, window_texts}
use Rattle.app_manifest.proofs.Scripts.{stops-before, stops-later, reads-more}
use Rattle.app_manifest.proofs.Stopping.{Rose-after}
use Rattle.app_manifest.proofs.reading.read_window.Goals as goal

pub returns-in-Err-clause-err : goal.returns-in-Err-clause-err
unfolding window_scripts
returns-in-Err-clause-err g c =
    stops-before (g.F.Folder.files c.args.folder.now) c.args.app.now (preload_scripts c.args.plan.now.preload) (c.args.plan.now.page ∷ [])
    _ _ (λ x. x) c.in-Err.fault c.in-Err.ensures.err

pub returns-in-Err-read_script-clause-err : goal.returns-in-Err-read_script-clause-err
unfolding window_scripts
returns-in-Err-read_script-clause-err g c =
    stops-later (g.F.Folder.files c.args.folder.now) c.args.app.now (preload_scripts c.args.plan.now.preload) (c.args.plan.now.page ∷ [])
    _ _ c.in-Ok.ensures.ok _ _ (Rose-after _ _ _ c.in-Ok.ensures.later) c.in-Err-read_script.fault
    (rw c.in-Ok.ensures.files at c.in-Err-read_script.ensures.err)

pub returns-clause-ok : goal.returns-clause-ok
unfolding window_scripts window_texts
returns-clause-ok g c =
    reads-more (g.F.Folder.files c.args.folder.now) c.args.app.now (preload_scripts c.args.plan.now.preload) (c.args.plan.now.page ∷ [])
    _ _ c.in-Ok.ensures.ok (λ preload page. (preload, page)) (λ f. bytes_at f c.args.app.now c.args.plan.now.page)
    c.in-Ok-read_script.page.bytes (rw c.in-Ok.ensures.files at c.in-Ok-read_script.ensures.ok)
