use Rattle.app_engine.proofs.Windows.{only_log}
use Rattle.app_engine.proofs.laws.one_log.Goals as goal

pub returns : goal.returns
returns c = only_log
