use Rattle.std.proofs.Common.{refl}
use Rattle.js_step_access.proofs.keys.key_units.Goals as goal

pub returns-in-Named-clause-named : goal.returns-in-Named-clause-named
returns-in-Named-clause-named c cells key = c.name_at.ensures.named (rw c.in-Named.is at key)

pub returns-in-Text-clause-named : goal.returns-in-Text-clause-named
returns-in-Text-clause-named c cells key = refl
