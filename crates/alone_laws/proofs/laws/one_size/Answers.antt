use Rattle.alone_laws.proofs.Sizing.{one_size}
use Rattle.alone_laws.proofs.laws.one_size.Goals as goal

pub returns : goal.returns
returns c = one_size
