use Rattle.js_step_access.proofs.Fitting.{nameless}
use Rattle.js_step_access.proofs.keys.name_in.Goals as goal

pub returns-in_default-clause-named : goal.returns-in_default-clause-named
returns-in_default-clause-named c named = absurd (nameless c.args.node.now c.in_default.not-Name c.in_default.not-Dot named)
