use Rattle.v8_wire.proofs.WholeAgain.{parcel-again}
use Rattle.v8_wire.proofs.laws.spellings_are_read.Goals as goal

pub returns : goal.returns
returns c = parcel-again
