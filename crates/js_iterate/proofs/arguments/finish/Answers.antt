use Rattle.js_iterate.proofs.arguments.finish.Goals as goal

pub returns-in-Call-clause-closed : goal.returns-in-Call-clause-closed
returns-in-Call-clause-closed c closed target arguments =
    let (callee, receiver) = rw c.in-Call.is at target in
    c.call.ensures.closed closed callee receiver arguments

pub returns-in-New-clause-closed : goal.returns-in-New-clause-closed
returns-in-New-clause-closed c closed target arguments =
    c.make.ensures.closed closed (rw c.in-New.is at target) arguments
