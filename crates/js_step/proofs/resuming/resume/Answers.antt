use Rattle.std.proofs.Common.{sym, ◌∙◌}
use Rattle.std.proofs.lemmas.Result.{err_from_is_err_and}
use Rattle.js_names.specs.Patterns.{nodes_of}
use Rattle.js_machine.proofs.Closing.{goes_on as both, stays_closed}
use Rattle.js_step.proofs.Turns.{begins, comes_to_rest, goes_on}
use Rattle.js_step.proofs.resuming.resume.Goals as goal

pub turns-init : goal.turns-init
turns-init c = record { makes = begins (nodes_of c.args.tree.now) _ _; closed = λ closed. stays_closed (nodes_of c.args.tree.now) c.receive.new.self closed }

pub turns-preserved : goal.turns-preserved
turns-preserved c =
    let nodes = nodes_of c.args.tree.now in
    record {
      makes = goes_on nodes _ c.turns.state _ _ c.turns.out.items _ c.in_ok-next-2.next c.turns.invariant.makes (rw c.in_ok-next-2.was at c.step.ensures.does) c.in_ok-put-2.ensures.does;
      closed = λ closed.
          let went = c.turns.invariant.closed closed in
          both nodes c.receive.new.self c.turns.state c.step.new.state went ((rw c.in_ok-next-2.was at c.step.ensures.closed) went.closed);
    }

pub returns-clause-does : goal.returns-clause-does
returns-clause-does c =
    comes_to_rest (nodes_of c.args.tree.now) (record { fresh = c.args.fresh; what = c.args.delivery }) c.args.state.now c.receive.new.self c.turns.state c.args.out.now.items c.put.new.out.items c.turns.out.items c.in_ok-next.next (rw c.in_ok-next.was at c.receive.ensures.receives) c.in_ok-put.ensures.does c.turns.invariant.makes (sym c.is_running.ensures ∙ c.turns-test.false)

pub returns-clause-closed : goal.returns-clause-closed
returns-clause-closed c closed =
    let nodes = nodes_of c.args.tree.now in
    let went = (rw c.in_ok-next.was at c.receive.ensures.closed) nodes closed in
    both nodes c.args.state.now c.receive.new.self c.turns.state went (c.turns.invariant.closed went.closed)

pub returns-in_err-next-clause-closed : goal.returns-in_err-next-clause-closed
returns-in_err-next-clause-closed c closed =
    let p = err_from_is_err_and c.from_residual.result c.from_residual.ensures.1 in rw (p.1, p.2) (c.in_err-next.ensures.closed (nodes_of c.args.tree.now) closed)

pub returns-in_err-next-2-clause-closed : goal.returns-in_err-next-2-clause-closed
returns-in_err-next-2-clause-closed c closed =
    let went = c.in_ok-next.ensures.closed (nodes_of c.args.tree.now) closed in
    let turned = c.turns.invariant.closed went.closed in
    let p = err_from_is_err_and c.from_residual-in_err-next-2.result c.from_residual-in_err-next-2.ensures.1 in
    rw (p.1, p.2) (c.in_err-next-2.ensures.closed turned.closed)
