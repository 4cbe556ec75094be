use Rattle.worlds_cli.proofs.Ending.{Ends-complete, Ends-told}
use Rattle.worlds_cli.proofs.command.worlds.Goals as goal

pub returns-clause-complete : goal.returns-clause-complete
returns-clause-complete g c =
    Ends-complete (g.F.Folder.files c.args.folder.now) _ _ _ _ _ c.answer_words.result c.answer_words.ensures
