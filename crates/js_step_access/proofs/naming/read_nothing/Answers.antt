use Rattle.js_step_access.proofs.naming.read_nothing.Goals as goal

pub returns-in-Typeof-clause-closed : goal.returns-in-Typeof-clause-closed
returns-in-Typeof-clause-closed c nodes closed frame = c.give_type.ensures.closed nodes closed tt

pub returns-in_default-clause-closed : goal.returns-in_default-clause-closed
returns-in_default-clause-closed c nodes closed frame = c.throw.ensures.closed nodes closed
