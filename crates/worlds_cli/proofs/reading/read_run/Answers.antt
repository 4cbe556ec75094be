use Rattle.std.proofs.Common.{◌≡◌, ◌∙◌, ◌≤◌, ap, sym, arith, subst}
use Rattle.wl_causes.specs.Causes.{Rose}
use Rattle.app_manifest.specs.Clauses.{texts_of}
use Rattle.worlds_cli.specs.Clauses.{Stops}
use Rattle.worlds_cli.specs.Command.{run}
use Rattle.worlds_cli.proofs.RunReading.{Rose-after, Stops-then, stops_app, stops_events, stops_unplayed, accepts}
use Rattle.worlds_cli.proofs.reading.read_run.Goals as goal

pub returns-in-Err-clause-err : goal.returns-in-Err-clause-err
returns-in-Err-clause-err g c =
    let files = g.F.Folder.files c.args.folder.now in
    let rose = Rose (g.F.Folder.faults c.args.folder.now) (g.F.Folder.faults c.read_app.new.folder) in
    subst (λ status. Stops files (run c.args.app.now c.args.script.now) rose status) (sym c.status_of.ensures)
    (stops_app files c.args.app.now c.args.script.now rose c.in-Err.fault c.in-Err.ensures.err)

pub returns-in-Err-read_events-clause-err : goal.returns-in-Err-read_events-clause-err
returns-in-Err-read_events-clause-err g c =
    let files = g.F.Folder.files c.args.folder.now in
    Stops-then files (run c.args.app.now c.args.script.now)
    (Rose (g.F.Folder.faults c.read_app.new.folder) (g.F.Folder.faults c.read_events.new.folder)) _
    c.in-Err-read_events.status (Rose-after _ _ _ c.in-Ok.ensures.later)
    (stops_events files c.args.app.now c.args.script.now (texts_of c.in-Ok.read) c.in-Ok.ensures.ok _ c.in-Err-read_events.status
    (rw c.in-Ok.ensures.files at c.in-Err-read_events.ensures.err))

pub returns-then-eventful-clause-err : goal.returns-then-eventful-clause-err
returns-then-eventful-clause-err g c =
    stops_unplayed (g.F.Folder.files c.args.folder.now) c.args.app.now c.args.script.now (texts_of c.in-Ok.read) c.in-Ok.ensures.ok
    c.in-Ok-read_events.eventful c.if-eventful.true (rw c.in-Ok.ensures.files at c.in-Ok-read_events.ensures.ok) _ _ c.not_built.ensures

pub returns-clause-ok : goal.returns-clause-ok
returns-clause-ok g c =
    accepts (g.F.Folder.files c.args.folder.now) c.args.app.now c.args.script.now (texts_of c.in-Ok.read) c.in-Ok.ensures.ok
    c.in-Ok-read_events.eventful c.if-eventful.false (rw c.in-Ok.ensures.files at c.in-Ok-read_events.ensures.ok)
