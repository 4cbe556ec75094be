use Rattle.std.proofs.Common.{◌≡◌, ap, ◌∙◌, sym}
use Rattle.js_source.specs.Source.{source_of}
use Rattle.wl_causes.specs.Causes.{Rose}
use Rattle.app_manifest.specs.App.{script_refusal, source_refusal}
use Rattle.app_manifest.proofs.Scripts.{stops-contents, script-told, script-read}
use Rattle.app_manifest.proofs.reading.read_script_of.Goals as goal

pub returns-in-Err-clause-err : goal.returns-in-Err-clause-err
unfolding script_refusal
returns-in-Err-clause-err g c = c.in-Err.ensures.err (λ bytes. source_refusal c.args.file.now (source_of bytes))

pub returns-in-Ok-script_of-clause-ok : goal.returns-in-Ok-script_of-clause-ok
returns-in-Ok-script_of-clause-ok g c =
    script-read (g.F.Folder.files c.args.folder.now) c.args.file.now c.in-Ok.bytes.items c.in-Ok.ensures.found c.in-Ok.ensures.short
    c.in-Ok-script_of.script.bytes c.in-Ok-script_of.ensures.ok c.in-Ok-script_of.ensures.read

pub returns-in-Err-script_of-clause-err : goal.returns-in-Err-script_of-clause-err
returns-in-Err-script_of-clause-err g c =
    stops-contents (g.F.Folder.files c.args.folder.now) (λ f. script_refusal f c.args.file.now) c.args.file.now _ _
    (script-told (g.F.Folder.files c.args.folder.now) c.args.file.now c.in-Ok.bytes.items c.in-Ok.ensures.found c.in-Ok.ensures.short)
    c.in-Err-script_of.fault c.in-Err-script_of.ensures.err
