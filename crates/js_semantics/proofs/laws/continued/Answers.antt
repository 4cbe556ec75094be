use Rattle.js_semantics.proofs.Continuing.{continued}
use Rattle.js_semantics.proofs.laws.continued.Goals as goal

pub returns : goal.returns
returns c = continued
