use Rattle.std.proofs.lemmas.Result.{err_from_is_err_and}
use Rattle.js_names.specs.Patterns.{nodes_of}
use Rattle.js_machine.proofs.Closing.{lasts_on}
use Rattle.js_step.proofs.Turns.{begun_made, begun_ok}
use Rattle.js_step.proofs.resuming.begin.Goals as goal

pub returns-in-Go-clause-does : goal.returns-in-Go-clause-does
returns-in-Go-clause-does c =
    begun_ok (nodes_of c.args.tree.now) (record { fresh = c.args.fresh; what = c.args.delivery }) c.args.state.now c.receive.new.self c.advance.new.state c.advance.result (rw c.in-Go.is at c.in_ok-receive.ensures.receives) c.advance.ensures.does

pub returns-in-Made-clause-does : goal.returns-in-Made-clause-does
returns-in-Made-clause-does c =
    begun_made (nodes_of c.args.tree.now) (record { fresh = c.args.fresh; what = c.args.delivery }) c.args.state.now c.receive.new.self c.in-Made.product (rw c.in-Made.is at c.in_ok-receive.ensures.receives)

pub returns-in-Go-clause-closed : goal.returns-in-Go-clause-closed
returns-in-Go-clause-closed c closed =
    let nodes = nodes_of c.args.tree.now in
    let went = c.in_ok-receive.ensures.closed nodes closed in
    lasts_on nodes c.args.state.now c.receive.new.self c.advance.new.state c.advance.result went (c.advance.ensures.closed went.closed)

pub returns-in-Made-clause-closed : goal.returns-in-Made-clause-closed
returns-in-Made-clause-closed c closed = c.in_ok-receive.ensures.closed (nodes_of c.args.tree.now) closed

pub returns-in_err-receive-clause-closed : goal.returns-in_err-receive-clause-closed
returns-in_err-receive-clause-closed c closed =
    let p = err_from_is_err_and c.from_residual.result c.from_residual.ensures.1 in rw (p.1, p.2) (c.in_err-receive.ensures.closed (nodes_of c.args.tree.now) closed)
