use Rattle.std.proofs.Common.{[], ◌∷◌, refl, flat_map, map, arith, ◌≤◌}
use Rattle.wl_causes.specs.Causes.{Rose}
use Rattle.app_manifest.specs.Answer.{said_by}
use Rattle.app_manifest.specs.App.{file_of, manifest_name, window_scripts, window_texts, texts_said}
use Rattle.app_manifest.specs.Clauses.{texts_of, window_read}
use Rattle.app_manifest.proofs.Scripts.{stops-manifest, stops-scripts, stops-before, stops-later, reads-more, reads-all}
use Rattle.app_manifest.proofs.Stopping.{Rose-after}
use Rattle.app_manifest.proofs.reading.read_app.Goals as goal

pub returns-in-Err-clause-err : goal.returns-in-Err-clause-err
returns-in-Err-clause-err g c =
    stops-manifest c.args.name.now (file_of c.args.name.now manifest_name) refl (g.F.Folder.files c.args.folder.now) _
    c.in-Err.fault c.in-Err.ensures.err

pub returns-in-Err-read_script-clause-err : goal.returns-in-Err-read_script-clause-err
returns-in-Err-read_script-clause-err g c =
    let files = g.F.Folder.files c.args.folder.now in
    let said = said_by c.in-Ok.plan in
    stops-scripts c.args.name.now files said c.in-Ok.ensures.ok _ _ (Rose-after _ _ _ c.in-Ok.ensures.later) c.in-Err-read_script.fault
    (stops-before files c.args.name.now (said.main ∷ []) (flat_map window_scripts said.windows) _ _ (λ x. x) c.in-Err-read_script.fault
    (rw c.in-Ok.ensures.files at c.in-Err-read_script.ensures.err))

pub returns-in-Err-read_windows-clause-err : goal.returns-in-Err-read_windows-clause-err
returns-in-Err-read_windows-clause-err g c =
    let files = g.F.Folder.files c.args.folder.now in
    let said = said_by c.in-Ok.plan in
    let main = rw c.in-Ok.ensures.files at c.in-Ok-read_script.ensures.ok in
    let stops = rw (c.in-Ok-read_script.ensures.files, c.in-Ok.ensures.files, c.as_slice.ensures) at c.in-Err-read_windows.ensures.err in
    let later : g.F.Folder.faults c.args.folder.now ≤ g.F.Folder.faults c.read_script.new.folder =
    omega (arith, c.in-Ok.ensures.later, c.in-Ok-read_script.ensures.later) in
    stops-scripts c.args.name.now files said c.in-Ok.ensures.ok _ _ (Rose-after _ _ _ later) c.in-Err-read_windows.fault
    (stops-later files c.args.name.now (said.main ∷ []) (flat_map window_scripts said.windows) _ _ main _ _ (λ x. x)
    c.in-Err-read_windows.fault stops)

pub returns-clause-ok : goal.returns-clause-ok
unfolding texts_said
returns-clause-ok g c =
    let files = g.F.Folder.files c.args.folder.now in
    let said = said_by c.in-Ok.plan in
    let main = rw c.in-Ok.ensures.files at c.in-Ok-read_script.ensures.ok in
    let windows = rw (c.in-Ok-read_script.ensures.files, c.in-Ok.ensures.files, c.as_slice.ensures) at c.in-Ok-read_windows.ensures.ok in
    reads-all c.args.name.now files said c.in-Ok.ensures.ok
    (record { limits = said.limits; name = said.main; main = c.in-Ok-read_script.main.bytes; windows = map window_read c.in-Ok-read_windows.windows })
    (reads-more files c.args.name.now (said.main ∷ []) (flat_map window_scripts said.windows) _ _ main
    (λ main windows. record { limits = said.limits; name = said.main; main = main; windows = windows })
    (λ f. map (window_texts f c.args.name.now) said.windows) (map window_read c.in-Ok-read_windows.windows) windows)
