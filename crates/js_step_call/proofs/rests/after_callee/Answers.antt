use Rattle.js_step_call.proofs.rests.after_callee.Goals as goal

pub returns-clause-closed : goal.returns-clause-closed
returns-clause-closed c closed base scope callee =
    c.all_arguments.ensures.closed closed (callee, base) scope
