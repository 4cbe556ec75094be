use Rattle.js_iterate.proofs.arguments.arguments_from.Goals as goal

pub returns-clause-closed : goal.returns-clause-closed
returns-clause-closed c closed pending scope =
    c.arguments_on.ensures.closed closed pending scope
