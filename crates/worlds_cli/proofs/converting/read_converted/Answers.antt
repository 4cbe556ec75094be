use Rattle.wl_causes.specs.Causes.{Rose}
use Rattle.worlds_cli.specs.Answer.{conversion_refusal, converted, refusal_of}
use Rattle.worlds_cli.proofs.ConvertReading.{stops_at_file, stops_converting, accepts_converting}
use Rattle.worlds_cli.proofs.converting.read_converted.Goals as goal

pub returns-in-Err-clause-err : goal.returns-in-Err-clause-err
unfolding conversion_refusal
returns-in-Err-clause-err g c =
    stops_at_file c.args.conversion c.args.file.now (g.F.Folder.files c.args.folder.now)
    (Rose (g.F.Folder.faults c.args.folder.now) (g.F.Folder.faults c.read_required.new.folder)) c.in-Err.status
    (c.in-Err.ensures.err (λ bytes. refusal_of (converted c.args.conversion c.args.file.now bytes)))

pub returns-in-Ok-line_of-clause-ok : goal.returns-in-Ok-line_of-clause-ok
returns-in-Ok-line_of-clause-ok g c =
    accepts_converting c.args.conversion c.args.file.now c.in-Ok.bytes.items c.in-Ok.ensures.short
    (g.F.Folder.files c.args.folder.now) c.in-Ok-line_of.line.items c.in-Ok.ensures.found
    (rw c.as_slice.ensures.value at c.in-Ok-line_of.ensures)

pub returns-clause-err : goal.returns-clause-err
returns-clause-err g c =
    stops_converting c.args.conversion c.args.file.now c.in-Ok.bytes.items c.in-Ok.ensures.short
    (g.F.Folder.files c.args.folder.now)
    (Rose (g.F.Folder.faults c.args.folder.now) (g.F.Folder.faults c.read_required.new.folder)) c.in-Err-line_of.status
    c.in-Ok.ensures.found (rw c.as_slice.ensures.value at c.in-Err-line_of.ensures)
