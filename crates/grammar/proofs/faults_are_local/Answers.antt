use Rattle.std.proofs.Common.{[]}
use Rattle.grammar.proofs.Local.{read-tame}
use Rattle.grammar.proofs.faults_are_local.Goals as goal

pub returns : goal.returns
returns g c = λ l tails limit depth name front u v t deep f s e. (read-tame l t u v limit (λ n. (f n).1) s depth name).same_err front [] deep e
