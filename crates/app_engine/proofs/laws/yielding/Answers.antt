use Rattle.app_engine.proofs.Yielded.{yielding}
use Rattle.app_engine.proofs.laws.yielding.Goals as goal

pub returns : goal.returns
returns c = yielding
