use Rattle.wl_causes.specs.Causes.{Rose}
use Rattle.event_script.specs.Script.{script}
use Rattle.worlds_cli.specs.Answer.{events_refusal, line_refusal}
use Rattle.worlds_cli.proofs.RunReading.{lines-read, stops-line}
use Rattle.worlds_cli.proofs.reading.read_events.Goals as goal

pub returns-in-Err-clause-err : goal.returns-in-Err-clause-err
unfolding events_refusal
returns-in-Err-clause-err g c = c.in-Err.ensures.err (λ bytes. line_refusal c.args.name.now (script bytes))

pub returns-in-Ok-has_lines-clause-ok : goal.returns-in-Ok-has_lines-clause-ok
returns-in-Ok-has_lines-clause-ok g c =
    lines-read (g.F.Folder.files c.args.folder.now) c.args.name.now c.in-Ok.bytes.items c.in-Ok.ensures.found c.in-Ok.ensures.short
    c.in-Ok-has_lines.eventful (rw c.as_slice.ensures.value at c.in-Ok-has_lines.ensures.none)
    (rw c.as_slice.ensures.value at c.in-Ok-has_lines.ensures.some)

pub returns-clause-err : goal.returns-clause-err
returns-clause-err g c =
    stops-line (g.F.Folder.files c.args.folder.now) c.args.name.now c.in-Ok.bytes.items c.in-Ok.ensures.found c.in-Ok.ensures.short
    (Rose (g.F.Folder.faults c.args.folder.now) (g.F.Folder.faults c.read_required.new.folder)) c.in-Err-has_lines.status
    (rw c.as_slice.ensures.value at c.in-Err-has_lines.ensures.err)
