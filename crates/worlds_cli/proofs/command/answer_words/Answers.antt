use Rattle.wl_causes.specs.Causes.{Rose}
use Rattle.worlds_cli.specs.Command.{spelled}
use Rattle.worlds_cli.proofs.Ending.{ends_telling_words}
use Rattle.worlds_cli.proofs.command.answer_words.Goals as goal

pub returns-in-Run : goal.returns-in-Run
returns-in-Run g c = c.play.ensures (spelled c.args.words.now) c.in-Run.ensures

pub returns-in-Convert : goal.returns-in-Convert
returns-in-Convert g c = c.convert_file.ensures (spelled c.args.words.now) c.in-Convert.ensures

pub returns-in-Err : goal.returns-in-Err
returns-in-Err g c =
    ends_telling_words (g.F.Folder.files c.args.folder.now) (spelled c.args.words.now)
    (Rose (g.F.Folder.faults c.args.folder.now) (g.F.Folder.faults c.args.folder.now))
    (Rose (g.K.Sink.faults c.args.sink.now) (g.K.Sink.faults c.tell.new.sink)) _ _
    c.in-Err.status c.in-Nothing.ensures c.in-Err.ensures.front c.in-Err.ensures.err

pub returns : goal.returns
returns g c = (c.in-Nothing.ensures, c.in-Ok.ensures.ok)
