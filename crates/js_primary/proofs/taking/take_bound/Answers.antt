use Rattle.std.proofs.Common.{refl, sym}
use Rattle.std.proofs.lemmas.Result.{err_from_is_err_and}
use Rattle.js_names.specs.Patterns.{nodes_of}
use Rattle.js_machine.proofs.Closing.{stays_closed}
use Rattle.js_primary.proofs.Evaluating.{bound_taken}
use Rattle.js_primary.proofs.taking.take_bound.Goals as goal

pub returns-in-Some-clause-is : goal.returns-in-Some-clause-is
returns-in-Some-clause-is c supply = rw (sym (rw c.in-Some.is at (c.in_ok-value.ensures.is supply))) c.step_to.ensures.does

pub returns-in-None-clause-is : goal.returns-in-None-clause-is
returns-in-None-clause-is c supply = rw (sym (rw c.in-None.is at (c.in_ok-value.ensures.is supply))) (refl, refl)

pub returns-in-Some-clause-does : goal.returns-in-Some-clause-does
returns-in-Some-clause-does c =
    bound_taken (nodes_of c.args.tree.now) c.args.node c.args.env c.in-Some.value c.args.state.now c.step_to.new.state c.step_to.result (λ supply. sym (rw c.in-Some.is at (c.in_ok-value.ensures.is supply))) c.step_to.ensures.does

pub returns-in_err-value-clause-closed : goal.returns-in_err-value-clause-closed
returns-in_err-value-clause-closed c closed =
    let p = err_from_is_err_and c.from_residual.result c.from_residual.ensures.1 in rw (p.1, p.2) (c.in_err-value.ensures.closed closed)

pub returns-in-Some-clause-closed : goal.returns-in-Some-clause-closed
returns-in-Some-clause-closed c closed = c.step_to.ensures.closed (nodes_of c.args.tree.now) closed (rw c.in-Some.is at (c.in_ok-value.ensures.closed closed))

pub returns-in-None-clause-closed : goal.returns-in-None-clause-closed
returns-in-None-clause-closed c closed = (stays_closed (nodes_of c.args.tree.now) c.args.state.now closed, tt)
