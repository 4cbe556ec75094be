use Rattle.js_token.proofs.Shapes.{tokens_of-ends}
use Rattle.std.proofs.Common.{length}
use Rattle.parse_laws.proofs.Texts.{ends-so, text-parsed}
use Rattle.parse_laws.proofs.what_is_parsed_of_a_text_is_derived.Goals as goal

pub returns : goal.returns
returns c = λ bytes tokens nodes e p. text-parsed tokens nodes (ends-so (length bytes) tokens (tokens_of-ends bytes tokens e)) p
