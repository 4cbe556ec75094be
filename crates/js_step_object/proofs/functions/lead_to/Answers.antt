use Rattle.js_step_object.proofs.functions.lead_to.Goals as goal

pub returns-clause-closed : goal.returns-clause-closed
returns-clause-closed c nodes closed proto =
    c.define.ensures.closed nodes closed proto
