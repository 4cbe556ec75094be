use Rattle.js_token.proofs.Shapes.{tokens_of-nested}
use Rattle.js_token.proofs.laws.templates_nest.Goals as goal

pub returns : goal.returns
returns c = tokens_of-nested
