use Rattle.js_token.proofs.Order.{tokens_of-ascend}
use Rattle.js_token.proofs.laws.places_ascend.Goals as goal

pub returns : goal.returns
returns c = tokens_of-ascend
