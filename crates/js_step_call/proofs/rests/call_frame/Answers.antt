use Rattle.js_step_call.proofs.rests.call_frame.Goals as goal

pub returns-in-ParameterBound-clause-does : goal.returns-in-ParameterBound-clause-does
returns-in-ParameterBound-clause-does c = rw c.in-ParameterBound.is (c.parameter_bound.ensures.does c.args.value)

pub returns-in-RestBound-clause-does : goal.returns-in-RestBound-clause-does
returns-in-RestBound-clause-does c = rw c.in-RestBound.is (c.rest_bound.ensures.does c.args.value)

pub returns-in-Callee-clause-closed : goal.returns-in-Callee-clause-closed
returns-in-Callee-clause-closed c closed frame fit =
    c.all_arguments.ensures.closed closed (fit, tt) (rw c.in-Callee.is at frame)

pub returns-in-NewCallee-clause-closed : goal.returns-in-NewCallee-clause-closed
returns-in-NewCallee-clause-closed c closed frame fit =
    c.all_arguments-in-NewCallee.ensures.closed closed fit (rw c.in-NewCallee.is at frame)

pub returns-in-Argument-clause-closed : goal.returns-in-Argument-clause-closed
returns-in-Argument-clause-closed c closed frame fit =
    let (before, target, scope) = rw c.in-Argument.is at frame in
    c.argument.ensures.closed closed (before, target) scope fit

pub returns-in-ParameterDefault-clause-closed : goal.returns-in-ParameterDefault-clause-closed
returns-in-ParameterDefault-clause-closed c closed frame fit =
    let (arguments, scope) = rw c.in-ParameterDefault.is at frame in
    c.parameter_default.ensures.closed closed arguments scope fit

pub returns-in-ParameterBound-clause-closed : goal.returns-in-ParameterBound-clause-closed
returns-in-ParameterBound-clause-closed c closed frame fit =
    let (arguments, scope) = rw c.in-ParameterBound.is at frame in
    c.parameter_bound.ensures.closed closed arguments scope

pub returns-in-RestBound-clause-closed : goal.returns-in-RestBound-clause-closed
returns-in-RestBound-clause-closed c closed frame fit =
    c.rest_bound.ensures.closed closed (rw c.in-RestBound.is at frame)
