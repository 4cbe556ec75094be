use Rattle.std.proofs.Common.{◌≡◌, List, ℕ}
use Rattle.app_engine.specs.Log.{log_of}
use Rattle.app_engine.specs.Scripts.{application_spelled}
use Rattle.app_manifest.specs.Clauses.{texts_of}
use Rattle.wl_causes.specs.Causes.{Rose}
use Rattle.world_log.specs.Print.{printed_log}
use Rattle.worlds_cli.specs.Command.{run}
use Rattle.worlds_cli.proofs.Ending.{ends_done, ends_writing, ends_refused}
use Rattle.worlds_cli.proofs.command.play.Goals as goal

pub returns-in-Err : goal.returns-in-Err
returns-in-Err g c = λ words is.
    ends_refused (g.F.Folder.files c.args.folder.now) words (run c.args.app.now c.args.script.now) is _ _ _ _
    c.in-Err.refusal c.refuse.result c.in-Err.ensures.err c.refuse.ensures

pub returns-in-Err-write_log : goal.returns-in-Err-write_log
returns-in-Err-write_log g c = λ words is.
    ends_writing (g.F.Folder.files c.args.folder.now) words (run c.args.app.now c.args.script.now) is _ _ _ _
    (printed_log (log_of (application_spelled (texts_of c.in-Ok.read)))) c.in-Err-write_log.status c.in-Ok.ensures.ok
    c.in-Err-write_log.ensures.front c.in-Err-write_log.ensures.err

pub returns : goal.returns
returns g c = λ words is.
    ends_done (g.F.Folder.files c.args.folder.now) words (run c.args.app.now c.args.script.now) is
    (Rose (g.F.Folder.faults c.args.folder.now) (g.F.Folder.faults c.read_run.new.folder))
    (Rose (g.K.Sink.faults c.args.sink.now) (g.K.Sink.faults c.write_log.new.sink)) _ _
    (printed_log (log_of (application_spelled (texts_of c.in-Ok.read)))) c.in-Ok.ensures.ok c.in-Ok-write_log.ensures.ok
