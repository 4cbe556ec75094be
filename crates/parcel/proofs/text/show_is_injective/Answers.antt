use Rattle.parcel.proofs.Telling.{text_of-injective}
use Rattle.parcel.proofs.text.show_is_injective.Goals as goal

pub returns : goal.returns
returns c = text_of-injective
