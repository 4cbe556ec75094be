use Rattle.std.proofs.Common.{◌≡◌, List, ℕ}
use Rattle.wl_causes.specs.Causes.{Rose}
use Rattle.worlds_cli.specs.Command.{convert}
use Rattle.worlds_cli.proofs.Ending.{ends_done, ends_writing, ends_refused}
use Rattle.worlds_cli.proofs.command.convert_file.Goals as goal

pub returns-in-Err : goal.returns-in-Err
returns-in-Err g c = λ words is.
    ends_refused (g.F.Folder.files c.args.folder.now) words (convert c.args.conversion c.args.file.now) is _ _ _ _
    c.in-Err.refusal c.refuse.result c.in-Err.ensures.err c.refuse.ensures

pub returns-in-Err-write_line : goal.returns-in-Err-write_line
returns-in-Err-write_line g c = λ words is.
    ends_writing (g.F.Folder.files c.args.folder.now) words (convert c.args.conversion c.args.file.now) is _ _ _ _
    c.in-Ok.line.items c.in-Err-write_line.status c.in-Ok.ensures.ok
    (rw c.as_slice.ensures.value at c.in-Err-write_line.ensures.front) c.in-Err-write_line.ensures.err

pub returns : goal.returns
returns g c = λ words is.
    ends_done (g.F.Folder.files c.args.folder.now) words (convert c.args.conversion c.args.file.now) is
    (Rose (g.F.Folder.faults c.args.folder.now) (g.F.Folder.faults c.read_converted.new.folder))
    (Rose (g.K.Sink.faults c.args.sink.now) (g.K.Sink.faults c.write_line.new.sink)) _ _
    c.in-Ok.line.items c.in-Ok.ensures.ok (rw c.as_slice.ensures.value at c.in-Ok-write_line.ensures.ok)
