use Rattle.grammar.proofs.Limits.{one-tree}
use Rattle.grammar.proofs.one_tree.Goals as goal

pub returns : goal.returns
returns g c = λ l tails depth name tokens a b f s one two. one-tree l tails f s depth name tokens a b one two
