use Rattle.std.proofs.Common.{◌≡◌, ◌∙◌, ap, refl}
use Rattle.app_manifest.proofs.Scripts.{reads-none}
use Rattle.app_manifest.proofs.reading.read_preload.Goals as goal

pub returns-in-Ok-empty_script-clause-ok : goal.returns-in-Ok-empty_script-clause-ok
returns-in-Ok-empty_script-clause-ok g c =
    reads-none (g.F.Folder.files c.args.folder.now) c.args.app.now c.args.preload.now c.in-None.is
    c.in-Ok-empty_script.script.bytes c.in-Ok-empty_script.ensures
