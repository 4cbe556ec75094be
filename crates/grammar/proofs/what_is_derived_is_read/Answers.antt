use Rattle.std.proofs.Common.{[], refl}
use Rattle.grammar.proofs.Complete.{read-complete}
use Rattle.grammar.proofs.what_is_derived_is_read.Goals as goal

pub returns : goal.returns
returns g c = λ l tails limit depth name tokens tree f s few d. read-complete l tails f limit s depth name tokens [] tree d refl few
