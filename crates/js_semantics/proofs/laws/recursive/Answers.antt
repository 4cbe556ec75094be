use Rattle.js_semantics.proofs.Stepwise.{recursive}
use Rattle.js_semantics.proofs.laws.recursive.Goals as goal

pub returns : goal.returns
returns c = recursive
