use Rattle.js_iterate.proofs.arguments.call.Goals as goal

pub returns-clause-closed : goal.returns-clause-closed
returns-clause-closed c closed callee receiver arguments =
    c.call_last-called.ensures.closed closed receiver arguments
