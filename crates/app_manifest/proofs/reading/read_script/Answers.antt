use Rattle.std.proofs.Common.{◌≡◌, ◌∙◌, ap}
use Rattle.app_manifest.specs.App.{file_of}
use Rattle.app_manifest.proofs.Scripts.{stops-script, reads-script}
use Rattle.app_manifest.proofs.reading.read_script.Goals as goal

pub returns-in-Ok-read_script_of-clause-ok : goal.returns-in-Ok-read_script_of-clause-ok
returns-in-Ok-read_script_of-clause-ok g c =
    let is : c.as_str-2.result.now ≡ file_of c.args.app.now c.args.name.now =
    c.as_str-2.ensures.value ∙ (c.in-Ok.ensures ∙ ap (file_of c.args.app.now) c.as_str.ensures.text) in
    reads-script c.args.app.now c.args.name.now c.as_str-2.result.now is (g.F.Folder.files c.args.folder.now)
    c.in-Ok-read_script_of.script.bytes c.in-Ok-read_script_of.ensures.ok

pub returns-clause-err : goal.returns-clause-err
returns-clause-err g c =
    let is : c.as_str-2.result.now ≡ file_of c.args.app.now c.args.name.now =
    c.as_str-2.ensures.value ∙ (c.in-Ok.ensures ∙ ap (file_of c.args.app.now) c.as_str.ensures.text) in
    stops-script c.args.app.now c.args.name.now c.as_str-2.result.now is (g.F.Folder.files c.args.folder.now) c.as_str.ensures.name
    _ c.in-Err-read_script_of.fault c.in-Err-read_script_of.ensures.err
