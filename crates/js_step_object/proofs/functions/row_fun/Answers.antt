use Rattle.js_semantics.specs.Objects.{row_fun}
use Rattle.js_step_object.proofs.functions.row_fun.Goals as goal

pub returns-in-Some-clause-does : goal.returns-in-Some-clause-does
unfolding row_fun
returns-in-Some-clause-does c nodes = rw c.in-Some.is (c.named.ensures.does nodes)

pub returns-in-None-clause-does : goal.returns-in-None-clause-does
unfolding row_fun
returns-in-None-clause-does c nodes = rw c.in-None.is (c.unnamed.ensures.does nodes)

pub returns-in-Some-clause-closed : goal.returns-in-Some-clause-closed
returns-in-Some-clause-closed c nodes closed scope =
    c.named.ensures.closed nodes closed scope.0

pub returns-in-None-clause-closed : goal.returns-in-None-clause-closed
returns-in-None-clause-closed c nodes closed scope =
    c.unnamed.ensures.closed nodes closed scope.0
