use Rattle.std.proofs.Common.{sym}
use Rattle.std.proofs.lemmas.Result.{err_from_is_err_and}
use Rattle.js_names.specs.Patterns.{nodes_of}
use Rattle.js_primary.specs.AtHand.{at_hand}
use Rattle.js_primary.proofs.Evaluating.{node_gives, not_at_hand, value_taken}
use Rattle.js_primary.proofs.taking.take_value.Goals as goal

pub returns-in-Some-2-clause-is : goal.returns-in-Some-2-clause-is
returns-in-Some-2-clause-is c supply = rw (c.in-Some.ensures, sym (rw c.in-Some-2.is at (c.in_ok-value-in-Some.ensures.is (nodes_of c.args.tree.now) supply))) c.step_to.ensures.does

pub returns-in-None-2-clause-is : goal.returns-in-None-2-clause-is
returns-in-None-2-clause-is c supply = rw (c.in-Some.ensures, sym (rw c.in-None-2.is at (c.in_ok-value-in-Some.ensures.is (nodes_of c.args.tree.now) supply))) (not_at_hand c.args.state.now c.take_composed.new.state c.take_composed.result)

pub returns-in-None-clause-is : goal.returns-in-None-clause-is
unfolding at_hand
returns-in-None-clause-is c supply = rw c.in-None.ensures tt

pub returns-in-Some-2-clause-does : goal.returns-in-Some-2-clause-does
returns-in-Some-2-clause-does c =
    let nodes = nodes_of c.args.tree.now in
    let state = c.args.state.now in
    value_taken nodes c.args.node c.args.scope.now c.in-Some-2.value state c.step_to.new.state c.step_to.result
    (λ supply. node_gives nodes c.args.node c.args.scope.now supply state c.in-Some-2.value (rw c.in-Some.ensures (sym (rw c.in-Some-2.is at (c.in_ok-value-in-Some.ensures.is nodes supply))))) c.step_to.ensures.does

pub returns-in_err-value-in-Some-clause-closed : goal.returns-in_err-value-in-Some-clause-closed
returns-in_err-value-in-Some-clause-closed c closed scope =
    let p = err_from_is_err_and c.from_residual.result c.from_residual.ensures.1 in rw (p.1, p.2) (c.in_err-value-in-Some.ensures.closed (nodes_of c.args.tree.now) closed scope)

pub returns-in-Some-2-clause-closed : goal.returns-in-Some-2-clause-closed
returns-in-Some-2-clause-closed c closed scope = c.step_to.ensures.closed (nodes_of c.args.tree.now) closed (rw c.in-Some-2.is at (c.in_ok-value-in-Some.ensures.closed (nodes_of c.args.tree.now) closed scope))
