use Rattle.std.proofs.Common.{◌≡◌, ◌∙◌, subst, Ok, None}
use Rattle.std.specs.Prelude.{IfSome}
use Rattle.wl_causes.specs.Causes.{Rose}
use Rattle.app_manifest.specs.Answer.{said_by}
use Rattle.app_manifest.specs.App.{file_of, manifest_name, manifest_refusal, said_or_default, app_said}
use Rattle.app_manifest.specs.Clauses.{StopsAt}
use Rattle.app_manifest.proofs.reading.read_plan.Goals as goal

pub returns-in-Ok-read_plan_of-clause-ok : goal.returns-in-Ok-read_plan_of-clause-ok
unfolding app_said
returns-in-Ok-read_plan_of-clause-ok g c =
    subst (λ file. IfSome (g.F.Folder.files c.args.folder.now) (λ files. (manifest_refusal files file ≡ None)
    × (said_or_default (files file) ≡ Ok (said_by c.in-Ok-read_plan_of.plan))))
    (c.as_str.ensures.value ∙ c.in-Ok.ensures) c.in-Ok-read_plan_of.ensures.ok

pub returns-clause-err : goal.returns-clause-err
returns-clause-err g c =
    subst (λ file. StopsAt (g.F.Folder.files c.args.folder.now) (λ files. manifest_refusal files file) file
    (Rose (g.F.Folder.faults c.args.folder.now) (g.F.Folder.faults c.read_plan_of.new.folder)) c.in-Err-read_plan_of.fault)
    (c.as_str.ensures.value ∙ c.in-Ok.ensures) c.in-Err-read_plan_of.ensures.err
