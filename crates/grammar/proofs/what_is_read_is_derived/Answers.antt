use Rattle.grammar.proofs.Laws.{read-sound}
use Rattle.grammar.proofs.what_is_read_is_derived.Goals as goal

pub returns : goal.returns
returns g c = λ l limit depth name tokens rest tree e. read-sound l limit depth name tokens (tree, rest) e
