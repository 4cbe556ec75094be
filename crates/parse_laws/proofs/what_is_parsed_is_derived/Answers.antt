use Rattle.parse_laws.proofs.Whole.{script-found}
use Rattle.parse_laws.proofs.what_is_parsed_is_derived.Goals as goal

pub returns : goal.returns
returns c = script-found
