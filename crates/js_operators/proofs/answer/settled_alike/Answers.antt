use Rattle.js_operators.proofs.Settled.{alike}
use Rattle.js_operators.proofs.answer.settled_alike.Goals as goal

pub returns : goal.returns
returns c = alike
