use Rattle.js_token.proofs.Shapes.{tokens_of-ends}
use Rattle.js_token.proofs.laws.tokens_end_once.Goals as goal

pub returns : goal.returns
returns c = tokens_of-ends
