use Rattle.js_semantics.proofs.Naturality.{agreeing}
use Rattle.js_semantics.proofs.laws.agreeing.Goals as goal

pub returns : goal.returns
returns c = agreeing
