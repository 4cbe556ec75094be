use Rattle.grammar.proofs.Pairs.{all-apart}
use Rattle.grammar.proofs.forks_exclude.Goals as goal

pub returns : goal.returns
returns g c = λ l tails b limit f o. all-apart l tails f b o limit
