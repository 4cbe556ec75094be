use Rattle.js_names.specs.Patterns.{nodes_of}
use Rattle.js_step_access.proofs.Joining.{joined_ok}
use Rattle.std.proofs.lemmas.Result.{err_from_is_err_and}
use Rattle.js_machine.proofs.Closing.{lasts_on}
use Rattle.js_step_access.proofs.objects.property_part.Goals as goal

pub returns-in-Ok-clause-does : goal.returns-in-Ok-clause-does
returns-in-Ok-clause-does c = rw c.in-Ok.is at (c.in_ok-next.ensures.does (nodes_of c.args.tree.now))

pub returns-in-Err-clause-does : goal.returns-in-Err-clause-does
returns-in-Err-clause-does c =
    let nodes = nodes_of c.args.tree.now in
    joined_ok nodes _ c.in-Err.remaining _ _ _ _ (rw c.in-Err.is at (c.in_ok-next.ensures.does nodes)) c.finish.ensures.does

pub returns-in_err-next-clause-closed : goal.returns-in_err-next-clause-closed
returns-in_err-next-clause-closed c closed frame value =
    let p = err_from_is_err_and c.from_residual.result c.from_residual.ensures.1 in rw (p.1, p.2) (c.in_err-next.ensures.closed (nodes_of c.args.tree.now) closed frame value)

pub returns-in-Ok-clause-closed : goal.returns-in-Ok-clause-closed
returns-in-Ok-clause-closed c closed frame value = (c.in_ok-next.ensures.closed (nodes_of c.args.tree.now) closed frame value).0

pub returns-in-Err-clause-closed : goal.returns-in-Err-clause-closed
returns-in-Err-clause-closed c closed frame value =
    let left = c.in_ok-next.ensures.closed (nodes_of c.args.tree.now) closed frame value in
    let went = left.0 in
    lasts_on (nodes_of c.args.tree.now) c.args.state.now c.property.new.state c.finish.new.state c.finish.result went (c.finish.ensures.closed went.closed (rw c.in-Err.is at left.1))
