use Rattle.std.proofs.Common.{[], arith, sym, ◌∙◌}
use Rattle.std.proofs.lemmas.Result.{err_from_is_err_and}
use Rattle.js_names.specs.Patterns.{nodes_of}
use Rattle.js_machine.specs.declared.state.Next.TheVariants.{Go}
use Rattle.js_machine.proofs.Closing.{goes_on, stays_closed}
use Rattle.js_step.proofs.Turns.{makes_more, makes_none, next_made}
use Rattle.js_step.proofs.resuming.advance.Goals as goal

pub silent-init : goal.silent-init
silent-init c = record { makes = makes_none (nodes_of c.args.tree.now) _; less = omega arith; closed = λ closed. stays_closed (nodes_of c.args.tree.now) c.args.state.now closed }

pub silent-preserved : goal.silent-preserved
silent-preserved c =
    let nodes = nodes_of c.args.tree.now in
    let turn = rw c.in-Go.is at c.in_ok-step.ensures.does in
    record {
      makes = makes_more nodes _ c.silent.state _ [] Go c.silent.invariant.makes turn;
      less = omega (arith, turn.falls, c.silent.invariant.less);
      closed = λ closed. let went = c.silent.invariant.closed closed in goes_on nodes c.args.state.now c.silent.state c.step.new.state went (c.in_ok-step.ensures.closed went.closed);
    }

pub returns-in-Made-clause-does : goal.returns-in-Made-clause-does
returns-in-Made-clause-does c = next_made (nodes_of c.args.tree.now) _ c.silent.state _ c.in-Made.product c.silent.invariant.makes c.silent.invariant.less (rw c.in-Made.is at c.in_ok-step.ensures.does)

pub returns-clause-does : goal.returns-clause-does
returns-clause-does c = (c.silent.invariant.makes, sym c.is_running.ensures ∙ c.silent-test.false)

pub returns-in-Made-clause-closed : goal.returns-in-Made-clause-closed
returns-in-Made-clause-closed c closed =
    let went = c.silent.invariant.closed closed in
    goes_on (nodes_of c.args.tree.now) c.args.state.now c.silent.state c.step.new.state went (c.in_ok-step.ensures.closed went.closed)

pub returns-clause-closed : goal.returns-clause-closed
returns-clause-closed c closed = c.silent.invariant.closed closed

pub returns-in_err-step-clause-closed : goal.returns-in_err-step-clause-closed
returns-in_err-step-clause-closed c closed =
    let p = err_from_is_err_and c.from_residual.result c.from_residual.ensures.1 in rw (p.1, p.2) (c.in_err-step.ensures.closed (c.silent.invariant.closed closed).closed)
