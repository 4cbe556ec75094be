use Rattle.wire_laws.proofs.Whole.{fronts}
use Rattle.wire_laws.proofs.fronts_are_cut.Goals as goal

pub returns : goal.returns
returns c = fronts
