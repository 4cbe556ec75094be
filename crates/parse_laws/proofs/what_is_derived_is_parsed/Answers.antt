use Rattle.parse_laws.proofs.Scripts.{script-parsed}
use Rattle.parse_laws.proofs.what_is_derived_is_parsed.Goals as goal

pub returns : goal.returns
returns c = script-parsed
