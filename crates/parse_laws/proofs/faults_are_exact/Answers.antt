use Rattle.std.proofs.Common.{length}
use Rattle.js_token.proofs.Shapes.{tokens_of-ends}
use Rattle.js_token.proofs.Order.{tokens_of-ascend}
use Rattle.parse_laws.proofs.Texts.{ends-so}
use Rattle.parse_laws.proofs.Exact.{text-faults}
use Rattle.parse_laws.proofs.faults_are_exact.Goals as goal

pub returns : goal.returns
returns c = λ bytes tokens f e p. text-faults tokens f (ends-so (length bytes) tokens (tokens_of-ends bytes tokens e)) (0, tokens_of-ascend bytes tokens e) p
