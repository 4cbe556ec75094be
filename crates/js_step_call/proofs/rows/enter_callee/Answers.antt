use Rattle.js_step_call.proofs.rows.enter_callee.Goals as goal

pub returns-clause-closed : goal.returns-clause-closed
returns-clause-closed c nodes closed frame scope =
    c.enter.ensures.closed nodes closed frame scope
