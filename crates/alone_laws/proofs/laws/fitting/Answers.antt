use Rattle.alone_laws.proofs.Taking.{fitting}
use Rattle.alone_laws.proofs.laws.fitting.Goals as goal

pub returns : goal.returns
returns c = fitting
