use Rattle.js_iterate.proofs.arguments.make.Goals as goal

pub returns-clause-closed : goal.returns-clause-closed
returns-clause-closed c closed callee arguments =
    c.construct-made.ensures.closed closed arguments
