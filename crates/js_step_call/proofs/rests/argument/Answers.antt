use Rattle.js_step_call.proofs.rests.argument.Goals as goal

pub returns-then-spread-clause-closed : goal.returns-then-spread-clause-closed
returns-then-spread-clause-closed c closed pending scope fit =
    c.spread_value.ensures.closed closed pending scope fit

pub returns-else-spread-clause-closed : goal.returns-else-spread-clause-closed
returns-else-spread-clause-closed c closed pending scope fit =
    c.argument_value.ensures.closed closed pending scope fit
