use Rattle.worlds_cli.proofs.Playing.{all_played}
use Rattle.worlds_cli.proofs.writing.write_log.Goals as goal

pub returns-clause-ok : goal.returns-clause-ok
returns-clause-ok g c = all_played c.args.app.now _ _ c.in-Ok.ensures.ok
