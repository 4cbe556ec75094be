use Rattle.grammar.proofs.Limits.{exact-place}
use Rattle.grammar.proofs.exact_place.Goals as goal

pub returns : goal.returns
returns g c = λ l tails e limit depth start tokens left deep f o s small few d. exact-place l tails f e o s limit depth start small tokens (deep, left) few d
