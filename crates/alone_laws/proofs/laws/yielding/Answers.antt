use Rattle.alone_laws.proofs.Turning.{yielding}
use Rattle.alone_laws.proofs.laws.yielding.Goals as goal

pub returns : goal.returns
returns c = yielding
